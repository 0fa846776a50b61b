-- What words ask for: its numbers are within their bounds.
use Rattle.std.proofs.Common.{◌≡◌, ◌∙◌, refl, sym, ap, subst, ℕ, ◌≤◌, Bool, true, false, cond, List, Option, Some, None, IfSome, option_map, unwrap_or, nat_le, arith, length}
use Rattle.std.specs.Prelude.{◌&&◌, option_and_then}
use Rattle.std.proofs.lemmas.Bool.{leb-true}
use Rattle.cc_defs.specs.Grammar.{number_of}
use Rattle.cc_defs.specs.Tokens.{is_number}
use Rattle.cc_words.specs.Requests.{IsWithin, Request, asked_in, asked_of, budget_of, count_of, form_of, has_plain_name, mode_of, number_from_zero, number_up_to, optional, provided, suits, valued}
use Rattle.cc_list.specs.Tasks.{request_of}
use Rattle.cc_words.specs.declared.asked.Asked.{Asked}
use Rattle.cc_words.specs.Readings.{reading}
use Rattle.cc_words.specs.declared.modes.Mode.{Mode}
use Rattle.cc_words.specs.declared.modes.Mode.TheVariants as modes
use Rattle.cc_words.specs.Views.{plain_asked, plain_request}
use Rattle.cc_words.specs.Words.{Given, Text}

abbrev some : {X : Type 0} → X → Option X
some x = Some x

some_is : {X : Type 0} (x y : X) → some x ≡ some y → x ≡ y
some_is x y e = cc

from_provided : {X Y : Type 0} (o : Option X) (make : X → Option Y) (y : Y) → provided o make ≡ Some y → (x : X) × (o ≡ Some x) × (make x ≡ Some y)
from_provided None make y e = absurd cc
from_provided (Some x) make y e = (x, refl, e)

from_map : {X Y : Type 0} (f : X → Y) (o : Option X) (y : Y) → option_map f o ≡ Some y → (x : X) × (o ≡ Some x) × (f x ≡ y)
from_map f None y e = absurd cc
from_map f (Some x) y e = (x, refl, some_is (f x) y e)

from_test : {X : Type 0} (b : Bool) (x y : X) → cond b (Some x) None ≡ Some y → (b ≡ true) × (x ≡ y)
from_test true x y e = (refl, some_is x y e)
from_test false x y e = absurd cc

from_suited : {X : Type 0} (b : Bool) (o : Option X) (y : X) → cond b o None ≡ Some y → o ≡ Some y
from_suited true o y e = e
from_suited false o y e = absurd cc

both : (a b : Bool) → (a && b) ≡ true → (a ≡ true) × (b ≡ true)
both true b e = (refl, e)
both false b e = absurd cc

-- a number that was read
pub number_within : (most n : ℕ) (text : Text) → number_up_to most text ≡ Some n → (1 ≤ n) × (n ≤ most)
number_within most n text e =
    let tested = from_test ((is_number text && nat_le (length text) 7) && (nat_le 1 (number_of text) && nat_le (number_of text) most)) (number_of text) n e in
    let range = both (nat_le 1 (number_of text)) (nat_le (number_of text) most) (both (is_number text && nat_le (length text) 7) (nat_le 1 (number_of text) && nat_le (number_of text) most) tested.0).1 in
    let least : 1 ≤ number_of text = leb-true 1 (number_of text) range.0 in
    let greatest : number_of text ≤ most = leb-true (number_of text) most range.1 in
    (subst (λ k. 1 ≤ k) tested.1 least, subst (λ k. k ≤ most) tested.1 greatest)

optional_within : (most : ℕ) (o : Option Text) (found : Option ℕ) → optional (number_up_to most) o ≡ Some found → IfSome found (λ n. (1 ≤ n) × (n ≤ most))
optional_within most None found e = subst (λ (f : Option ℕ). IfSome f (λ n. (1 ≤ n) × (n ≤ most))) (some_is None found e) tt
optional_within most (Some text) found e =
    let made = from_map (λ (n : ℕ). some n) (number_up_to most text) found e in
    subst (λ (f : Option ℕ). IfSome f (λ n. (1 ≤ n) × (n ≤ most))) made.2 (number_within most made.0 text made.1)

count_within : (given : Given) (count : Option ℕ) → count_of given ≡ Some count → IfSome count (λ n. 1 ≤ n)
count_within given count e = weaker count (optional_within 1000000 given.count count e)
  where
    weaker : (o : Option ℕ) → IfSome o (λ n. (1 ≤ n) × (n ≤ 1000000)) → IfSome o (λ n. 1 ≤ n)
    weaker None h = tt
    weaker (Some n) h = h.0

budget_within : (given : Given) (budget : ℕ) → budget_of given ≡ Some budget → budget ≤ 2000000
budget_within given budget e =
    let made = from_map (λ (o : Option ℕ). unwrap_or o 200000) (optional (number_up_to 2000000) given.budget) budget e in
    subst (λ k. k ≤ 2000000) made.2 (within made.0 (optional_within 2000000 given.budget made.0 made.1))
  where
    within : (o : Option ℕ) → IfSome o (λ n. (1 ≤ n) × (n ≤ 2000000)) → unwrap_or o 200000 ≤ 2000000
    within None h = omega arith
    within (Some n) h = h.1

valued_within : (mode : Mode) (given : Given) (request : Request) → valued mode given ≡ Some request → IsWithin request
valued_within modes.List given request e =
    let file = from_provided given.file _ request e in
    let count = from_provided (count_of given) _ request file.2 in
    let budget = from_provided (budget_of given) _ request count.2 in
    let form = from_provided (form_of given) _ request budget.2 in
    subst IsWithin (some_is _ request form.2) (count_within given count.0 count.1, budget_within given budget.0 budget.1)
valued_within modes.Check given request e =
    let file = from_provided given.file _ request e in
    let log = from_provided given.log _ request file.2 in
    subst IsWithin (some_is _ request log.2) tt
valued_within modes.Make given request e =
    let text = from_provided given.size _ request e in
    let size = from_provided (number_up_to 100 text.0) _ request text.2 in
    let budget = from_provided (budget_of given) _ request size.2 in
    subst IsWithin (some_is _ request budget.2) ((number_within 100 size.0 text.0 size.1).0, budget_within given budget.0 budget.1)
valued_within modes.Why given request e =
    let file = from_provided given.file _ request e in
    let key = from_provided given.key _ request file.2 in
    subst IsWithin (some_is _ request key.2) tt
valued_within modes.Convert given request e =
    let file = from_provided given.file _ request e in
    let log = from_provided given.log _ request file.2 in
    let to = from_provided given.to _ request log.2 in
    subst IsWithin (some_is _ request to.2) tt
valued_within modes.Export given request e =
    let file = from_provided given.file _ request e in
    let text = from_provided given.horizon _ request file.2 in
    let horizon = from_provided (number_from_zero text.0) _ request text.2 in
    subst IsWithin (some_is _ request horizon.2) tt
valued_within modes.Models given request e =
    let file = from_provided given.file _ request e in
    let count = from_provided (count_of given) _ request file.2 in
    let budget = from_provided (budget_of given) _ request count.2 in
    let form = from_provided (form_of given) _ request budget.2 in
    subst IsWithin (some_is _ request form.2) (count_within given count.0 count.1, budget_within given budget.0 budget.1)
valued_within modes.CheckModels given request e =
    let file = from_provided given.file _ request e in
    let log = from_provided given.log _ request file.2 in
    subst IsWithin (some_is _ request log.2) tt
valued_within modes.Sure given request e =
    let file = from_provided given.file _ request e in
    let budget = from_provided (budget_of given) _ request file.2 in
    subst IsWithin (some_is _ request budget.2) (budget_within given budget.0 budget.1)
valued_within modes.CheckSure given request e =
    let file = from_provided given.file _ request e in
    let log = from_provided given.log _ request file.2 in
    subst IsWithin (some_is _ request log.2) tt
valued_within modes.General given request e =
    let file = from_provided given.file _ request e in
    let count = from_provided (count_of given) _ request file.2 in
    let budget = from_provided (budget_of given) _ request count.2 in
    subst IsWithin (some_is _ request budget.2) (count_within given count.0 count.1, budget_within given budget.0 budget.1)
valued_within modes.CheckGeneral given request e =
    let file = from_provided given.file _ request e in
    let log = from_provided given.log _ request file.2 in
    subst IsWithin (some_is _ request log.2) tt
valued_within modes.Forever given request e =
    let file = from_provided given.file _ request e in
    let budget = from_provided (budget_of given) _ request file.2 in
    subst IsWithin (some_is _ request budget.2) (budget_within given budget.0 budget.1)
valued_within modes.CheckForever given request e =
    let file = from_provided given.file _ request e in
    let log = from_provided given.log _ request file.2 in
    subst IsWithin (some_is _ request log.2) tt

asked_within : (mode : Mode) (given : Given) (request : Request) → asked_in mode given ≡ Some request → IsWithin request
asked_within mode given request e = valued_within mode given request (from_suited (suits mode given) (valued mode given) request e)

read_within : (o : Option Given) (request : Request) → option_and_then asked_of o ≡ Some request → IsWithin request
read_within None request e = absurd cc
read_within (Some given) request e =
    let suited = from_suited (has_plain_name given) (provided (mode_of given) (λ mode. asked_in mode given)) request e in
    let mode = from_provided (mode_of given) _ request suited in
    asked_within mode.0 given request mode.2

pub request_within : (words : List Text) (request : Request) → request_of words ≡ Some request → IsWithin request
request_within words request e = read_within (reading words) request e

-- what the words were read as
pub asked_is : (words : List Text) (o : Option Asked) (a : Asked) → plain_asked o ≡ request_of words → o ≡ Some a → request_of words ≡ Some (plain_request a)
asked_is words o a taken is = sym taken ∙ ap plain_asked is

pub asked_none : (words : List Text) (o : Option Asked) → plain_asked o ≡ request_of words → o ≡ None → request_of words ≡ None
asked_none words o taken is = sym taken ∙ ap plain_asked is
