-- The rules of a horizon as loops make and count them.
use Rattle.std.proofs.Common.{◌≡◌, ◌∙◌, ℕ, zero, suc, ◌+◌, ◌<◌, ◌≤◌, Bool, true, false, List, [], ◌∷◌, ◌++◌, length, map, flat_map, nat_lt, min, drop, get_or, slice_get, Some, None, refl, sym, ap, subst, arith, length-append, append_assoc, add-one, option_map, ◌%◌}
use Rattle.std.specs.Prelude.{if◌then◌else◌}
use Rattle.std.specs.List.{AllByRecursion}
use Rattle.std.proofs.Math.Nat.{mod-eq_of_lt}
use Rattle.std.proofs.lemmas.Bool.{lt-ltb, ltb-true}
use Rattle.std.proofs.lemmas.List.{append-nil, at_drop_all, drop_more}
use Rattle.cc_arena.specs.declared.ground_laws.GroundLaw.{GroundLaw}
use Rattle.cc_defs.specs.declared.signature.Const.{Const}
use Rattle.cc_defs.specs.declared.signature.LawKind.{LawKind}
use Rattle.cc_defs.specs.declared.signature.LawKind.TheVariants as law_kinds
use Rattle.cc_defs.specs.Rules.{upto}
use Rattle.cc_defs.specs.Signatures.{Signature}
use Rattle.cc_theory.specs.declared.rule.TimedRule.{TimedRule}
use Rattle.cc_theory.specs.Making.{all_initial, initial_of, rule_of_kind, rules_at_step, rules_for, rules_in, stride_of, turns}

not_below : (n : ℕ) → nat_lt n n ≡ false
not_below n = is_false (nat_lt n n) (λ e. absurd (let less : n < n = ltb-true n n e in omega arith))
  where
    is_false : (b : Bool) → (b ≡ true → ⊥) → b ≡ false
    is_false true never = absurd (never refl)
    is_false false never = refl

pub length_upto : (n : ℕ) → length (upto n) ≡ n
length_upto zero = refl
length_upto (suc n) = length-append (upto n) (n ∷ []) ∙ ap (λ (k : ℕ). k + 1) (length_upto n) ∙ (omega arith)

pub length_mapped : {A B : Type 0} (f : A → B) (xs : List A) → length (map f xs) ≡ length xs
length_mapped f [] = refl
length_mapped f (x ∷ xs) = ap suc (length_mapped f xs)

pub length_values : {B : Type 0} (f : ℕ → B) (n : ℕ) → n ≡ length (map f (upto n))
length_values f n = sym (length_mapped f (upto n) ∙ length_upto n)

pub map_behind : {A B : Type 0} (f : A → B) (xs ys : List A) → map f (xs ++ ys) ≡ map f xs ++ map f ys
map_behind f [] ys = refl
map_behind f (x ∷ xs) ys = ap (λ l. f x ∷ l) (map_behind f xs ys)

pub flat_behind : {A B : Type 0} (f : A → List B) (xs ys : List A) → flat_map f (xs ++ ys) ≡ flat_map f xs ++ flat_map f ys
flat_behind f [] ys = refl
flat_behind f (x ∷ xs) ys = ap (λ l. f x ++ l) (flat_behind f xs ys) ∙ sym (append_assoc (f x) (flat_map f xs) (flat_map f ys))

-- ---- loops that put one part behind the other

module _ {X Y : Type 0} where
  pub nothing_left : (f : List X → List Y) (xs : List X) (i : ℕ) (front whole : List Y) → f [] ≡ [] → length xs ≤ i → front ++ f (drop i xs) ≡ whole → front ≡ whole
  nothing_left f xs i front whole none past so_far = sym (append-nil front) ∙ ap (λ w. front ++ w) (sym none) ∙ sym (at_drop_all (λ w. front ++ f w) xs i past) ∙ so_far

  pub map_next : (f : X → Y) (xs : List X) (i : ℕ) (d : X) (front new whole : List Y) → i < length xs → new ≡ front ++ f (get_or xs i d) ∷ [] →
      front ++ map f (drop i xs) ≡ whole → new ++ map f (drop (i + 1) xs) ≡ whole
  map_next f xs i d front new whole less made so_far =
      let rest = map f (drop (i + 1) xs) in
      ap (λ w. w ++ rest) made ∙ append_assoc front (f (get_or xs i d) ∷ []) rest ∙ ap (λ w. front ++ map f w) (sym (drop_more xs i d less)) ∙ so_far

  pub flat_next : (f : X → List Y) (xs : List X) (i : ℕ) (d : X) (front new whole : List Y) → i < length xs → new ≡ front ++ f (get_or xs i d) →
      front ++ flat_map f (drop i xs) ≡ whole → new ++ flat_map f (drop (i + 1) xs) ≡ whole
  flat_next f xs i d front new whole less made so_far =
      let rest = flat_map f (drop (i + 1) xs) in
      ap (λ w. w ++ rest) made ∙ append_assoc front (f (get_or xs i d)) rest ∙ ap (λ w. front ++ flat_map f w) (sym (drop_more xs i d less)) ∙ so_far

module _ {Y : Type 0} where
  pub map_counted : (f : ℕ → Y) (n : ℕ) (start front new : List Y) → new ≡ front ++ f n ∷ [] → front ≡ start ++ map f (upto n) → new ≡ start ++ map f (upto (n + 1))
  map_counted f n start front new made so_far =
      made ∙ ap (λ w. w ++ f n ∷ []) so_far ∙ append_assoc start (map f (upto n)) (f n ∷ []) ∙ ap (λ w. start ++ w) (sym (map_behind f (upto n) (n ∷ []))) ∙ ap (λ k. start ++ map f (upto k)) (sym (add-one n))

  pub flat_counted : (f : ℕ → List Y) (n : ℕ) (start front new : List Y) → new ≡ front ++ f n → front ≡ start ++ flat_map f (upto n) → new ≡ start ++ flat_map f (upto (n + 1))
  flat_counted f n start front new made so_far =
      made ∙ ap (λ w. w ++ f n) so_far ∙ append_assoc start (flat_map f (upto n)) (f n) ∙ ap (λ w. start ++ (flat_map f (upto n) ++ w)) (sym (append-nil (f n)))
      ∙ ap (λ w. start ++ w) (sym (flat_behind f (upto n) (n ∷ []))) ∙ ap (λ k. start ++ flat_map f (upto k)) (sym (add-one n))

pub all_next : {X : Type 0} (P : X → Type 0) (xs : List X) (i : ℕ) (d : X) → i < length xs → AllByRecursion P (drop i xs) → P (get_or xs i d)
all_next P xs i d less all = (subst (AllByRecursion P) (drop_more xs i d less) all).0

pub all_later : {X : Type 0} (P : X → Type 0) (xs : List X) (i : ℕ) → AllByRecursion P (drop i xs) → AllByRecursion P (drop (i + 1) xs)
all_later {X = X} P xs i all = rw add-one (later xs i all)
  where
    later : (ys : List X) (k : ℕ) → AllByRecursion P (drop k ys) → AllByRecursion P (drop (suc k) ys)
    later [] k none = tt
    later (y ∷ ys) zero some = some.1
    later (y ∷ ys) (suc k) some = later ys k some

-- ---- what comes next

front_is : {X : Type 0} (xs : List X) (i : ℕ) (x : X) → Some x ≡ slice_get xs i → drop i xs ≡ x ∷ drop (suc i) xs
front_is [] i x e = absurd cc
front_is (y ∷ ys) zero x e = cc
front_is (y ∷ ys) (suc i) x e = front_is ys i x e

pub front_behind : {X : Type 0} (xs : List X) (i : ℕ) (x : X) → Some x ≡ slice_get xs i → drop i xs ≡ x ∷ drop (i + 1) xs
front_behind xs i x e = rw add-one (front_is xs i x e)

among_left : {X : Type 0} (xs ys : List X) (i : ℕ) → i < length xs → slice_get (xs ++ ys) i ≡ slice_get xs i
among_left [] ys i less = absurd (omega arith)
among_left (x ∷ xs) ys zero less = refl
among_left (x ∷ xs) ys (suc i) less = among_left xs ys i (omega arith)

pub fluent_low : (fluents actions : List Const) (number count : ℕ) → number < count → count ≡ length fluents → number < length (fluents ++ actions)
fluent_low fluents actions number count low is = let long = length-append fluents actions in omega arith

next_fluent : (fluents actions : List Const) (number : ℕ) (constant : Const) → number < length fluents →
    Some constant ≡ slice_get (fluents ++ actions) number → drop number fluents ≡ constant ∷ drop (number + 1) fluents
next_fluent fluents actions number constant less is = front_behind fluents number constant (is ∙ among_left fluents actions number less)

-- the size of a constant's domain, as the signature answers it for a position of step 0
pub own_size : (constants : List Const) (number size : ℕ) (constant : Const) → number < length constants →
    option_map (λ (c : Const). length c.domain) (slice_get constants (number % length constants)) ≡ Some size →
    Some constant ≡ slice_get constants number → length constant.domain ≡ size
own_size constants number size constant less sized is =
    let at : slice_get constants (number % length constants) ≡ Some constant = ap (λ (n : ℕ). slice_get constants n) (mod-eq_of_lt less) ∙ sym is in
    same_some (sym (ap (option_map (λ (c : Const). length c.domain)) at) ∙ sized)
  where
    same_some : {a b : ℕ} → Some a ≡ Some b → a ≡ b
    same_some e = cc

pub initial_step : (fluents actions : List Const) (number position size : ℕ) (constant : Const) (front new whole : List TimedRule) → number < length fluents →
    position ≡ number → Some constant ≡ slice_get (fluents ++ actions) number →
    option_map (λ (c : Const). length c.domain) (slice_get (fluents ++ actions) (position % length (fluents ++ actions))) ≡ Some size →
    new ≡ front ++ initial_of constant.kind number size → front ++ all_initial number (drop number fluents) ≡ whole →
    new ++ all_initial (number + 1) (drop (number + 1) fluents) ≡ whole
initial_step fluents actions number position size constant front new whole less at is sized made so_far =
    let rest = all_initial (number + 1) (drop (number + 1) fluents) in
    let long : length (fluents ++ actions) ≡ length fluents + length actions = length-append fluents actions in
    let within : number < length (fluents ++ actions) = omega arith in
    let own : option_map (λ (c : Const). length c.domain) (slice_get (fluents ++ actions) (number % length (fluents ++ actions))) ≡ Some size =
    subst (λ (n : ℕ). option_map (λ (c : Const). length c.domain) (slice_get (fluents ++ actions) (n % length (fluents ++ actions))) ≡ Some size) at sized in
    ap (λ (w : List TimedRule). w ++ rest) made
    ∙ append_assoc front (initial_of constant.kind number size) rest
    ∙ ap (λ (n : ℕ). front ++ (initial_of constant.kind number n ++ rest)) (sym (own_size (fluents ++ actions) number size constant within own is))
    ∙ ap (λ (w : List Const). front ++ all_initial number w) (sym (next_fluent fluents actions number constant less is))
    ∙ so_far

-- ---- counts that stop

pub stopped : (count more rest added all : ℕ) → added ≡ min (more + count) 18446744073709551615 → min (count + (more + rest)) 8000001 ≡ min all 8000001 →
    min (min added 8000001 + rest) 8000001 ≡ min all 8000001
stopped count more rest added all is so_far = omega arith

pub initial_counted : (fluents actions : List Const) (number own count added : ℕ) (constant : Const) → number < length fluents →
    Some constant ≡ slice_get (fluents ++ actions) number → own ≡ length (initial_of constant.kind number (length constant.domain)) →
    added ≡ min (own + count) 18446744073709551615 →
    min (count + length (all_initial number (drop number fluents))) 8000001 ≡ min (length (all_initial 0 fluents)) 8000001 →
    min (min added 8000001 + length (all_initial (number + 1) (drop (number + 1) fluents))) 8000001 ≡ min (length (all_initial 0 fluents)) 8000001
initial_counted fluents actions number own count added constant less is own_is added_is so_far =
    let rest = all_initial (number + 1) (drop (number + 1) fluents) in
    let here : length (all_initial number (drop number fluents)) ≡ own + length rest =
    ap (λ (w : List Const). length (all_initial number w)) (next_fluent fluents actions number constant less is)
    ∙ length-append (initial_of constant.kind number (length constant.domain)) rest ∙ ap (λ (n : ℕ). n + length rest) (sym own_is) in
    stopped count own (length rest) added (length (all_initial 0 fluents)) added_is (ap (λ (n : ℕ). min (count + n) 8000001) (sym here) ∙ so_far)

-- ---- how many rules

abbrev pub all_turns : ℕ → List GroundLaw → ℕ
all_turns horizon [] = 0
all_turns horizon (law ∷ laws) = turns law.kind horizon + all_turns horizon laws

module _ {X : Type 0} (f : ℕ → List X) where
  last_counted : (n : ℕ) → length (flat_map f (upto (suc n))) ≡ length (flat_map f (upto n)) + length (f n)
  last_counted n = ap length (flat_behind f (upto n) (n ∷ [])) ∙ length-append (flat_map f (upto n)) (f n ++ []) ∙ ap (λ (k : ℕ). length (flat_map f (upto n)) + k) (length-append (f n) [] ∙ omega arith)

  -- one at each step below a number
  each_counted : (n : ℕ) → ((step : ℕ) → step < n → length (f step) ≡ 1) → length (flat_map f (upto n)) ≡ n
  each_counted zero one = refl
  each_counted (suc n) one =
      last_counted n ∙ ap (λ (k : ℕ). k + length (f n)) (each_counted n (λ step less. one step (omega arith))) ∙ ap (λ (k : ℕ). n + k) (one n (omega arith)) ∙ add-one n

  -- and none at the last
  but_last_counted : (n : ℕ) → ((step : ℕ) → step < n → length (f step) ≡ 1) → length (f n) ≡ 0 → length (flat_map f (upto (suc n))) ≡ n
  but_last_counted n one none = last_counted n ∙ ap (λ (k : ℕ). k + length (f n)) (each_counted n one) ∙ ap (λ (k : ℕ). n + k) none ∙ omega arith

module _ (stride horizon : ℕ) where
  abbrev own_rules : LawKind → GroundLaw → ℕ → List TimedRule
  own_rules kind law step = rules_in (rule_of_kind kind stride horizon step law)

  taken : (b : Bool) (rule : TimedRule) → b ≡ true → length (rules_in (if b then Some rule else None)) ≡ 1
  taken true rule e = refl
  taken false rule e = absurd cc

  not_taken : (b : Bool) (rule : TimedRule) → b ≡ false → length (rules_in (if b then Some rule else None)) ≡ 0
  not_taken true rule e = absurd cc
  not_taken false rule e = refl

  law_counted : (law : GroundLaw) (kind : LawKind) → length (flat_map (own_rules kind law) (upto (suc horizon))) ≡ turns kind horizon
  law_counted law law_kinds.Static = each_counted (own_rules law_kinds.Static law) (suc horizon) (λ step less. refl) ∙ sym (add-one horizon)
  law_counted law law_kinds.ActionDynamic = but_last_counted (own_rules law_kinds.ActionDynamic law) horizon
      (λ step less. taken (nat_lt step horizon) _ (lt-ltb step horizon less)) (not_taken (nat_lt horizon horizon) _ (not_below horizon))
  law_counted law law_kinds.FluentDynamic = but_last_counted (own_rules law_kinds.FluentDynamic law) horizon
      (λ step less. taken (nat_lt step horizon) _ (lt-ltb step horizon less)) (not_taken (nat_lt horizon horizon) _ (not_below horizon))

  first_apart : (law : GroundLaw) (laws : List GroundLaw) (steps : List ℕ) →
      length (flat_map (rules_at_step stride (law ∷ laws) horizon) steps) ≡ length (flat_map (own_rules law.kind law) steps) + length (flat_map (rules_at_step stride laws horizon) steps)
  first_apart law laws [] = refl
  first_apart law laws (step ∷ steps) =
      let own = own_rules law.kind law step in
      let others = rules_at_step stride laws horizon step in
      let own_more = flat_map (own_rules law.kind law) steps in
      let others_more = flat_map (rules_at_step stride laws horizon) steps in
      length-append (own ++ others) (flat_map (rules_at_step stride (law ∷ laws) horizon) steps)
      ∙ ap (λ (k : ℕ). k + length (flat_map (rules_at_step stride (law ∷ laws) horizon) steps)) (length-append own others)
      ∙ ap (λ (k : ℕ). length own + length others + k) (first_apart law laws steps)
      ∙ turned (length own) (length others) (length own_more) (length others_more)
      ∙ ap (λ (k : ℕ). k + (length others + length others_more)) (sym (length-append own own_more))
      ∙ ap (λ (k : ℕ). length (own ++ own_more) + k) (sym (length-append others others_more))
    where
      turned : (a b c d : ℕ) → a + b + (c + d) ≡ a + c + (b + d)
      turned a b c d = omega arith

  laws_counted : (laws : List GroundLaw) → length (flat_map (rules_at_step stride laws horizon) (upto (suc horizon))) ≡ all_turns horizon laws
  laws_counted [] = none_counted (upto (suc horizon))
    where
      none_counted : (steps : List ℕ) → length (flat_map (rules_at_step stride [] horizon) steps) ≡ 0
      none_counted [] = refl
      none_counted (step ∷ steps) = none_counted steps
  laws_counted (law ∷ laws) =
      first_apart law laws (upto (suc horizon)) ∙ ap (λ (k : ℕ). k + length (flat_map (rules_at_step stride laws horizon) (upto (suc horizon)))) (law_counted law law.kind)
      ∙ ap (λ (k : ℕ). turns law.kind horizon + k) (laws_counted laws)

pub rules_counted : (signature : Signature) (laws : List GroundLaw) (horizon : ℕ) →
    length (rules_for signature laws horizon) ≡ length (all_initial 0 signature.fluents) + all_turns horizon laws
rules_counted signature laws horizon =
    let initial = all_initial 0 signature.fluents in
    let f = rules_at_step (stride_of signature) laws horizon in
    length-append initial (flat_map f (upto (horizon + 1)))
    ∙ ap (λ (k : ℕ). length initial + length (flat_map f (upto k))) (add-one horizon)
    ∙ ap (λ (k : ℕ). length initial + k) (laws_counted (stride_of signature) horizon laws)

pub counted_start : (signature : Signature) (laws : List GroundLaw) (horizon count : ℕ) → count ≡ min (length (all_initial 0 signature.fluents)) 8000001 →
    min (count + all_turns horizon laws) 8000001 ≡ min (length (rules_for signature laws horizon)) 8000001
counted_start signature laws horizon count is = let all = rules_counted signature laws horizon in omega arith
