-- The loops over rules, and over the numbers of those that may cause a value.
use Rattle.std.proofs.Common.{◌≡◌, ◌∙◌, ℕ, suc, ◌+◌, ◌<◌, Bool, true, false, not, ◌&&◌, ◌||◌, nat_lt, List, [], ◌∷◌, length, drop, get_or, slice_get, Option, Some, None, option_map, refl, sym, ap, arith}
use Rattle.std.specs.Prelude.{slice_index, if◌then◌else◌}
use Rattle.std.specs.List.{AllByRecursion, AllZip, list_all, list_any}
use Rattle.cc_defs.specs.declared.signature.Const.{Const}
use Rattle.cc_defs.specs.Declarations.{numbers_where}
use Rattle.cc_defs.specs.TimedRules as timed
use Rattle.cc_theory.specs.Completion.{holds}
use Rattle.cc_theory.specs.declared.rule.TimedHead.{TimedHead}
use Rattle.cc_theory.specs.declared.rule.TimedHead.TheVariants as timed_heads
use Rattle.cc_theory.specs.declared.rule.TimedRule.{TimedRule}
use Rattle.cc_theory.specs.Theories.{IsRuleOf, causes_of, has_atom, plain_head}
use Rattle.cc_why.specs.Causes.{is_atom_head}
use Rattle.cc_why.specs.Meeting.{holds_in, is_cause, meets, size_of}
use Rattle.cc_why.proofs.Lists.{zip_at, zip_front}

-- the rule that a read past the end gives
abbrev pub no_rule : TimedRule
no_rule = record { head = timed_heads.Atom 0 0; now = None; before = None }

module _ (row : List ℕ) (stride : ℕ) where
  -- what is left to be met, where what was met so far is
  abbrev pub IsLeft : List TimedRule → ℕ → List timed.TimedRule → Type 0
  IsLeft rules i meant = (rest : List timed.TimedRule) × AllZip (IsRuleOf stride) (drop i rules) rest × (list_all (meets row) rest ≡ list_all (meets row) meant)

  pub one_met : (rules : List TimedRule) (i : ℕ) (result : Bool) → i < length rules → result ≡ true →
      ((rule : timed.TimedRule) → IsRuleOf stride (get_or rules i no_rule) rule → result ≡ meets row rule) →
      (meant : List timed.TimedRule) → IsLeft rules i meant → IsLeft rules (i + 1) meant
  one_met rules i result less so told meant left =
      let next = zip_front (IsRuleOf stride) rules left.0 i no_rule less left.1 in
      let here : meets row next.0 ≡ true = sym (told next.0 next.3) ∙ so in (
        next.1,
        next.4,
        sym (ap (λ (b : Bool). b && list_all (meets row) next.1) here) ∙ ap (list_all (meets row)) (sym next.2) ∙ left.2,
      )

  pub body_at : (rules : List TimedRule) (number : ℕ) (result : Bool) → number < length rules →
      ((rule : timed.TimedRule) → IsRuleOf stride (get_or rules number no_rule) rule → result ≡ holds row rule.body) →
      (meant : List timed.TimedRule) → AllZip (IsRuleOf stride) rules meant → result ≡ holds_in row (slice_get meant number)
  body_at rules number result less told meant are =
      let at = zip_at (IsRuleOf stride) rules meant number no_rule are less in
      told at.0 at.2 ∙ ap (holds_in row) (sym at.1)

  -- ---- the rules of an atom, by their numbers

  same_atom : (position value : ℕ) (head : TimedHead) → has_atom position value head ≡ is_atom_head position value (plain_head head)
  same_atom position value (timed_heads.Atom other index) = refl
  same_atom position value timed_heads.Falsity = refl

  module _ (position : ℕ) where
    abbrev test : TimedRule → Bool
    test rule = has_atom position (slice_index row position) rule.head

    same_test : (rule : TimedRule) (meant : timed.TimedRule) → IsRuleOf stride rule meant → test rule ≡ is_atom_head position (slice_index row position) meant.head
    same_test rule meant of = same_atom position (slice_index row position) rule.head ∙ ap (is_atom_head position (slice_index row position)) of.head

    atom_step : (b : Bool) (f : ℕ → Bool) (start : ℕ) (later : List ℕ) (m : timed.TimedRule) (ms : List timed.TimedRule) → f start ≡ holds row m.body →
        b ≡ is_atom_head position (slice_index row position) m.head → list_any f later ≡ list_any (is_cause row position) ms →
        list_any f (if b then start ∷ later else later) ≡ list_any (is_cause row position) (m ∷ ms)
    atom_step true f start later m ms here e rest =
        ap (λ (b : Bool). b || list_any f later) here ∙ ap (λ (b : Bool). holds row m.body || b) rest
        ∙ ap (λ (b : Bool). b && holds row m.body || list_any (is_cause row position) ms) e
    atom_step false f start later m ms here e rest = rest ∙ ap (λ (b : Bool). b && holds row m.body || list_any (is_cause row position) ms) e

    caused_from : (f : ℕ → Bool) (start : ℕ) (rules : List TimedRule) (meant : List timed.TimedRule) → AllZip (IsRuleOf stride) rules meant →
        ((i : ℕ) → f (start + i) ≡ holds_in row (slice_get meant i)) → list_any f (numbers_where test start rules) ≡ list_any (is_cause row position) meant
    caused_from f start [] [] are same = refl
    caused_from f start [] (m ∷ ms) are same = absurd are
    caused_from f start (r ∷ rs) [] are same = absurd are
    caused_from f start (r ∷ rs) (m ∷ ms) are same =
        atom_step (test r) f start (numbers_where test (start + 1) rs) m ms (ap f (let e : start ≡ start + 0 = omega arith in e) ∙ same 0) (same_test r m are.0)
        (caused_from f (start + 1) rs ms are.1 (λ i. ap f (let e : start + 1 + i ≡ start + suc i = omega arith in e) ∙ same (suc i)))

    pub causes_found : (rules : List TimedRule) (meant : List timed.TimedRule) → AllZip (IsRuleOf stride) rules meant →
        list_any (λ number. holds_in row (slice_get meant number)) (causes_of rules position (slice_index row position)) ≡ list_any (is_cause row position) meant
    causes_found rules meant are =
        caused_from (λ number. holds_in row (slice_get meant number)) 0 rules meant are
        (λ i. ap (λ (n : ℕ). holds_in row (slice_get meant n)) (let e : 0 + i ≡ i = omega arith in e))

-- the numbers are those of rules that are there
numbers_below : (f : TimedRule → Bool) (start whole : ℕ) (rules : List TimedRule) → start + length rules ≡ whole → AllByRecursion (λ number. number < whole) (numbers_where f start rules)
numbers_below f start whole [] e = tt
numbers_below f start whole (r ∷ rs) e = by (f r) (numbers_below f (start + 1) whole rs (omega arith))
  where
    by : (b : Bool) → AllByRecursion (λ number. number < whole) (numbers_where f (start + 1) rs) →
        AllByRecursion (λ number. number < whole) (if b then start ∷ numbers_where f (start + 1) rs else numbers_where f (start + 1) rs)
    by true rest = (omega arith, rest)
    by false rest = rest

pub causes_below : (rules : List TimedRule) (position value : ℕ) → AllByRecursion (λ number. number < length rules) (causes_of rules position value)
causes_below rules position value = numbers_below (λ rule. has_atom position value rule.head) 0 (length rules) rules (omega arith)

-- ---- sizes

pub size_is : (found : Option Const) (size : ℕ) → option_map (λ (constant : Const). length constant.domain) found ≡ Some size → size_of found ≡ size
size_is (Some constant) size e = cc
size_is None size e = absurd cc

pub unless_single : (found : Option Const) (size : ℕ) (any : Bool) → option_map (λ (constant : Const). length constant.domain) found ≡ Some size →
    nat_lt 1 size ≡ true → any ≡ (not (nat_lt 1 (size_of found)) || any)
unless_single found size any e more = ap (λ (b : Bool). not b || any) (sym more ∙ ap (nat_lt 1) (sym (size_is found size e)))
