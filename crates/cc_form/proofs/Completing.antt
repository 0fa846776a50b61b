-- The bodies of the rules of an atom, step by step.
use Rattle.std.proofs.Common.{inl, inr, ◌≡◌, ◌∙◌, ℕ, zero, suc, ◌+◌, ◌-◌, ◌*◌, ◌<◌, ◌≤◌, ◌⊎◌, Bool, true, false, ◌&&◌, List, [], ◌∷◌, ◌++◌, length, map, flat_map, nat_lt, Some, None, refl, sym, ap, subst, arith, append-nil, eq-eqb, ne_eqb}
use Rattle.std.specs.Prelude.{if◌then◌else◌, cond, ◌==◌}
use Rattle.std.specs.List.{filter, AllByRecursion}
use Rattle.std.proofs.Math.Nat.{add-mul, mul-le-mul_right}
use Rattle.std.proofs.lemmas.Bool.{cases_lt}
use Rattle.std.proofs.lemmas.List.{map-append}
use Rattle.std.proofs.lemmas.List.Elements.{filter-append}
use Rattle.cc_arena.specs.declared.ground_laws.GroundLaw.{GroundLaw}
use Rattle.cc_defs.specs.declared.node.GroundHead.{GroundHead}
use Rattle.cc_defs.specs.declared.node.GroundHead.TheVariants as heads
use Rattle.cc_defs.specs.declared.signature.Const.{Const}
use Rattle.cc_defs.specs.declared.signature.Kind.{Kind}
use Rattle.cc_defs.specs.declared.signature.Kind.TheVariants as kinds
use Rattle.cc_defs.specs.declared.signature.LawKind.{LawKind}
use Rattle.cc_defs.specs.declared.signature.LawKind.TheVariants as law_kinds
use Rattle.cc_defs.specs.ClauseLists.{Bodied, MadeRules, bodies_of, is_of_atom}
use Rattle.cc_defs.specs.Clauses.{Literal}
use Rattle.cc_defs.specs.Rules.{upto}
use Rattle.cc_defs.specs.Signatures.{Signature}
use Rattle.cc_theory.specs.declared.rule.TimedRule.{TimedRule}
use Rattle.cc_theory.specs.Making.{all_initial, head_at, initial_of, initial_rule, rule_at, rule_of_kind, rules_at_step, rules_in, stride_of}
use Rattle.cc_theory.specs.Theories.{GiveRules, IsHeadBelow, plain_head}
use Rattle.cc_form.specs.Making.{made_bodies, made_rule}
use Rattle.cc_form.specs.Moving.{head_behind, renamed, renamed_bodied}
use Rattle.cc_form.specs.Steps.{bodies_at}
use Rattle.cc_form.proofs.Stepping.{I, IsLike, M, bodies_are, flat_last, initial_renamed, like_early, name, step_renamed}

-- ---- lists of which few parts have something

none_below : {X : Type 0} (g : ℕ → List X) (n : ℕ) → ((j : ℕ) → j < n → g j ≡ []) → flat_map g (upto n) ≡ []
none_below g zero none = refl
none_below g (suc n) none = flat_last g n ∙ ap (λ l. l ++ g n) (none_below g n (λ j less. none j (omega arith))) ∙ none n (omega arith)

only_first : {X : Type 0} (g : ℕ → List X) (n : ℕ) → ((j : ℕ) → 0 < j → g j ≡ []) → flat_map g (upto (suc n)) ≡ g 0
only_first g zero none = flat_last g 0
only_first g (suc n) none = flat_last g (suc n) ∙ ap (λ l. l ++ g (suc n)) (only_first g n none) ∙ ap (λ l. g 0 ++ l) (none (suc n) (omega arith)) ∙ append-nil (g 0)

only_two : {X : Type 0} (g : ℕ → List X) (d r : ℕ) → ((j : ℕ) → j < d → g j ≡ []) → ((j : ℕ) → d + 1 < j → g j ≡ []) → flat_map g (upto (suc (suc (d + r)))) ≡ g d ++ g (suc d)
only_two g d zero before behind =
    ap (λ (n : ℕ). flat_map g (upto n)) (let e : suc (suc (d + 0)) ≡ suc (suc d) = omega arith in e)
    ∙ flat_last g (suc d) ∙ ap (λ l. l ++ g (suc d)) (flat_last g d ∙ ap (λ l. l ++ g d) (none_below g d before))
only_two g d (suc r) before behind =
    ap (λ (n : ℕ). flat_map g (upto n)) (let e : suc (suc (d + suc r)) ≡ suc (suc (suc (d + r))) = omega arith in e)
    ∙ flat_last g (suc (suc (d + r))) ∙ ap (λ l. flat_map g (upto (suc (suc (d + r)))) ++ l) (behind (suc (suc (d + r))) (omega arith)) ∙ append-nil (flat_map g (upto (suc (suc (d + r)))))
    ∙ only_two g d r before behind

all_two : {X : Type 0} (P : X → Type 0) (xs ys : List X) → AllByRecursion P xs → AllByRecursion P ys → AllByRecursion P (xs ++ ys)
all_two P [] ys h k = k
all_two P (x ∷ xs) ys h k = (h.0, all_two P xs ys h.1 k)

-- ---- rules with other heads

-- its head is no atom of the position
abbrev pub IsApart : ℕ → GroundHead → Type 0
IsApart position head = (value : ℕ) → is_of_atom position value head ≡ false

abbrev pub AreApart : ℕ → List TimedRule → Type 0
AreApart position rules = AllByRecursion (λ rule. IsApart position (plain_head rule.head)) rules

none_of : (position value : ℕ) (sizes : List ℕ) (stride last : ℕ) (rules : List TimedRule) → AreApart position rules → bodies_of position value (made_bodies sizes stride last rules).rules ≡ []
none_of position value sizes stride last [] apart = refl
none_of position value sizes stride last (rule ∷ rules) apart =
    let m = made_rule sizes stride last rule in
    let more = (made_bodies sizes stride m.last rules).rules in
    let b : Bodied = record { head = plain_head rule.head; body = m.literal } in
    let kept = filter (λ (r : Bodied). is_of_atom position value r.head) more in
    ap (λ (t : Bool). map (λ (r : Bodied). r.body) (cond t (b ∷ kept) kept)) (apart.0 value) ∙ none_of position value sizes stride m.last rules apart.1

further : (S i p j c : ℕ) → p < S → i < j → i * S + p < j * S + c
further S i p j c less before =
    let whole : (i + 1) * S ≤ j * S = mul-le-mul_right S (let e : i + 1 ≤ j = omega arith in e) in
    let turned : (i + 1) * S ≡ i * S + 1 * S = add-mul i 1 S in
    omega arith

module _ (S i p : ℕ) (less : p < S) where
  head_apart : (now : ℕ) → (now < i) ⊎ (i < now) → (head : GroundHead) → IsHeadBelow S head → IsApart (i * S + p) (plain_head (head_at S now head))
  head_apart now other (heads.Atom constant value) below v = ap (λ (b : Bool). b && (v == value)) (ne_eqb (i * S + p) (now * S + constant) (λ e. elim other [
    | inl before ↦ let more = further S now constant i p below before in omega arith
    | inr behind ↦ let more = further S i p now constant less behind in omega arith
  ]))
  head_apart now other heads.Falsity below v = refl

  where_taken : (b : Bool) (rule : TimedRule) → IsApart (i * S + p) (plain_head rule.head) → AreApart (i * S + p) (rules_in (if b then Some rule else None))
  where_taken true rule apart = (apart, tt)
  where_taken false rule apart = tt

  module _ (m j : ℕ) (other : (j + 1 < i) ⊎ (i < j)) where
    kind_apart : (kind : LawKind) (law : GroundLaw) → IsHeadBelow S law.head → AreApart (i * S + p) (rules_in (rule_of_kind kind S m j law))
    kind_apart law_kinds.Static law below = (head_apart j here law.head below, tt)
      where
        here : (j < i) ⊎ (i < j)
        here = elim other [ inl before ↦ inl (omega arith) | inr behind ↦ inr behind ]
    kind_apart law_kinds.ActionDynamic law below = where_taken (nat_lt j m) _ (head_apart j here law.head below)
      where
        here : (j < i) ⊎ (i < j)
        here = elim other [ inl before ↦ inl (omega arith) | inr behind ↦ inr behind ]
    kind_apart law_kinds.FluentDynamic law below = where_taken (nat_lt j m) _ (head_apart (j + 1) here law.head below)
      where
        here : (j + 1 < i) ⊎ (i < j + 1)
        here = elim other [ inl before ↦ inl before | inr behind ↦ inr (omega arith) ]

    step_apart : (laws : List GroundLaw) → AllByRecursion (λ law. IsHeadBelow S law.head) laws → AreApart (i * S + p) (rules_at_step S laws m j)
    step_apart [] below = tt
    step_apart (law ∷ laws) below =
        all_two (λ rule. IsApart (i * S + p) (plain_head rule.head)) (rules_in (rule_at S m j law)) (rules_at_step S laws m j) (kind_apart law.kind law below.0) (step_apart laws below.1)

  -- initial rules are of the first step
  module _ (some : 0 < i) where
    first_apart : (number value : ℕ) → number < S → IsApart (i * S + p) (heads.Atom number value)
    first_apart number value below v = ap (λ (b : Bool). b && (v == value)) (ne_eqb (i * S + p) number (λ e. let more = further S 0 number i p below some in let none : 0 * S ≡ 0 = omega arith in omega arith))

    initial_mapped : (number : ℕ) (xs : List ℕ) → number < S → AreApart (i * S + p) (map (initial_rule number) xs)
    initial_mapped number [] below = tt
    initial_mapped number (x ∷ xs) below = (first_apart number x below, initial_mapped number xs below)

    initial_kind : (kind : Kind) (number size : ℕ) → number < S → AreApart (i * S + p) (initial_of kind number size)
    initial_kind kinds.Simple number size below = initial_mapped number (upto size) below
    initial_kind kinds.Determined number size below = tt
    initial_kind kinds.Action number size below = tt

    initial_apart : (number : ℕ) (constants : List Const) → number + length constants ≤ S → AreApart (i * S + p) (all_initial number constants)
    initial_apart number [] below = tt
    initial_apart number (c ∷ constants) below =
        all_two (λ rule. IsApart (i * S + p) (plain_head rule.head)) (initial_of c.kind number (length c.domain)) (all_initial (number + 1) constants)
        (initial_kind c.kind number (length c.domain) (omega arith)) (initial_apart (number + 1) constants (omega arith))

-- ---- bodies of an atom

bodies_two : (position value : ℕ) (xs ys : List Bodied) → bodies_of position value (xs ++ ys) ≡ bodies_of position value xs ++ bodies_of position value ys
bodies_two position value xs ys =
    let test : Bodied → Bool = λ rule. is_of_atom position value rule.head in
    ap (map (λ (r : Bodied). r.body)) (filter-append test xs ys) ∙ map-append (λ (r : Bodied). r.body) (filter test xs) (filter test ys)

bodies_flat : (position value : ℕ) (f : ℕ → List Bodied) (n : ℕ) → bodies_of position value (flat_map f (upto n)) ≡ flat_map (λ j. bodies_of position value (f j)) (upto n)
bodies_flat position value f zero = refl
bodies_flat position value f (suc n) =
    ap (bodies_of position value) (flat_last f n) ∙ bodies_two position value (flat_map f (upto n)) (f n)
    ∙ ap (λ (l : List Literal). l ++ bodies_of position value (f n)) (bodies_flat position value f n) ∙ sym (flat_last (λ j. bodies_of position value (f j)) n)

same_added : (by a b : ℕ) → (by + a == by + b) ≡ (a == b)
same_added by a b = elim (cases_lt a b) [
  | inl less ↦ ne_eqb (by + a) (by + b) (λ e. omega arith) ∙ sym (ne_eqb a b (λ e. omega arith))
  | inr most ↦ elim (cases_lt b a) [
    | inl more ↦ ne_eqb (by + a) (by + b) (λ e. omega arith) ∙ sym (ne_eqb a b (λ e. omega arith))
    | inr least ↦ let e : a ≡ b = omega arith in eq-eqb (by + a) (by + b) (omega arith) ∙ sym (eq-eqb a b e)
  ]
]

of_behind : (by position value : ℕ) (head : GroundHead) → is_of_atom (by + position) value (head_behind by head) ≡ is_of_atom position value head
of_behind by position value (heads.Atom other index) = ap (λ (b : Bool). b && (value == index)) (same_added by position other)
of_behind by position value heads.Falsity = refl

bodies_behind : (s : ℕ → ℕ) (by position value : ℕ) (rules : List Bodied) → bodies_of (by + position) value (map (renamed_bodied s by) rules) ≡ map (renamed s) (bodies_of position value rules)
bodies_behind s by position value [] = refl
bodies_behind s by position value (rule ∷ rules) =
    let more = filter (λ (r : Bodied). is_of_atom (by + position) value r.head) (map (renamed_bodied s by) rules) in
    let kept = filter (λ (r : Bodied). is_of_atom position value r.head) rules in
    ap (λ (t : Bool). map (λ (r : Bodied). r.body) (cond t (renamed_bodied s by rule ∷ more) more)) (of_behind by position value rule.head)
    ∙ taken (is_of_atom position value rule.head) more kept (bodies_behind s by position value rules)
  where
    taken : (t : Bool) (more kept : List Bodied) → map (λ (r : Bodied). r.body) more ≡ map (renamed s) (map (λ (r : Bodied). r.body) kept) →
        map (λ (r : Bodied). r.body) (cond t (renamed_bodied s by rule ∷ more) more) ≡ map (renamed s) (map (λ (r : Bodied). r.body) (cond t (rule ∷ kept) kept))
    taken true more kept e = ap (λ (l : List Literal). renamed s rule.body ∷ l) e
    taken false more kept e = e

-- ---- those of an atom of a step are those of a step of a horizon of two

module _ (signature : Signature) (laws : List GroundLaw) (give : GiveRules signature laws 2) where
  abbrev S : ℕ
  S = stride_of signature

  abbrev R : ℕ → List Bodied
  R m = (bodies_at signature laws m).rules

  abbrev G : ℕ → ℕ → ℕ → ℕ → List Literal
  G m position value j = bodies_of position value (M signature laws give m j).rules

  parts : (m position value : ℕ) → 2 ≤ m → bodies_of position value (R m) ≡ bodies_of position value (I signature laws give m) ++ flat_map (G m position value) (upto (suc m))
  parts m position value some =
      ap (λ (r : MadeRules). bodies_of position value r.rules) (bodies_are signature laws give m some)
      ∙ bodies_two position value (I signature laws give m) (flat_map (λ i. (M signature laws give m i).rules) (upto (suc m)))
      ∙ ap (λ (l : List Literal). bodies_of position value (I signature laws give m) ++ l) (bodies_flat position value (λ i. (M signature laws give m i).rules) (suc m))

  other_step : (m i p value j : ℕ) → p < S → (j + 1 < i) ⊎ (i < j) → G m (i * S + p) value j ≡ []
  other_step m i p value j less other = none_of (i * S + p) value _ S _ (rules_at_step S laws m j) (step_apart S i p less m j other laws give.heads)

  no_initial : (m i p value : ℕ) → p < S → 0 < i → bodies_of (i * S + p) value (I signature laws give m) ≡ []
  no_initial m i p value less some = none_of (i * S + p) value _ S _ (all_initial 0 signature.fluents) (initial_apart S i p less some 0 signature.fluents (omega arith))

  same_step : (m d k k' position value : ℕ) → IsLike m d k' → G m (d * S + position) value (d + k') ≡ map (renamed (name signature laws give m d)) (G 2 position value k')
  same_step m d k k' position value like =
      ap (λ (r : MadeRules). bodies_of (d * S + position) value r.rules) (step_renamed signature laws give m d k' like)
      ∙ bodies_behind (name signature laws give m d) (d * S) position value (M signature laws give 2 k').rules

  two_steps : (m i p value : ℕ) → 2 ≤ m → i < m → p < S → bodies_of (suc i * S + p) value (R m) ≡ G m (suc i * S + p) value i ++ G m (suc i * S + p) value (suc i)
  two_steps m i p value some less below =
      let position = suc i * S + p in
      parts m position value some
      ∙ ap (λ (l : List Literal). l ++ flat_map (G m position value) (upto (suc m))) (no_initial m (suc i) p value below (omega arith))
      ∙ ap (λ (n : ℕ). flat_map (G m position value) (upto n)) (let e : suc m ≡ suc (suc (i + (m - (i + 1)))) = omega arith in e)
      ∙ only_two (G m position value) i (m - (i + 1)) (λ j h. other_step m (suc i) p value j below (inl (omega arith))) (λ j h. other_step m (suc i) p value j below (inr (omega arith)))

  one_step : (m p value : ℕ) → 2 ≤ m → p < S → bodies_of (0 * S + p) value (R m) ≡ bodies_of (0 * S + p) value (I signature laws give m) ++ G m (0 * S + p) value 0
  one_step m p value some below =
      parts m (0 * S + p) value some
      ∙ ap (λ (l : List Literal). bodies_of (0 * S + p) value (I signature laws give m) ++ l) (only_first (G m (0 * S + p) value) m (λ j h. other_step m 0 p value j below (inr h)))

  pub bodies_like : (m d k p value : ℕ) → IsLike m d k → (k ≡ 0 → d ≡ 0) → p < S →
      bodies_of (d * S + (k * S + p)) value (R m) ≡ map (renamed (name signature laws give m d)) (bodies_of (k * S + p) value (R 2))
  bodies_like m d zero p value like first below =
      let s = name signature laws give m 0 in
      let is : d ≡ 0 = first refl in
      let some : 2 ≤ m = (let most = like.most in omega arith) in
      subst (λ (n : ℕ). bodies_of (n * S + (0 * S + p)) value (R m) ≡ map (renamed (name signature laws give m n)) (bodies_of (0 * S + p) value (R 2))) (sym is) (
      ap (λ (n : ℕ). bodies_of n value (R m)) (let e : 0 * S + (0 * S + p) ≡ 0 * S + p = omega arith in e)
      ∙ one_step m p value some below
      ∙ ap (λ (n : ℕ). bodies_of n value (I signature laws give m) ++ G m n value 0) (let e : 0 * S + p ≡ 0 * S + (0 * S + p) = omega arith in e)
      ∙ ap (λ (l : List Bodied). bodies_of (0 * S + (0 * S + p)) value l ++ G m (0 * S + (0 * S + p)) value 0) (initial_renamed signature laws give m some)
      ∙ ap (λ (l : List Literal). l ++ G m (0 * S + (0 * S + p)) value 0) (bodies_behind s (0 * S) (0 * S + p) value (I signature laws give 2))
      ∙ ap (λ (l : List Literal). map (renamed s) (bodies_of (0 * S + p) value (I signature laws give 2)) ++ l) (same_step m 0 0 0 (0 * S + p) value (like_early m 0 0 (omega arith) (omega arith)))
      ∙ sym (map-append (renamed s) (bodies_of (0 * S + p) value (I signature laws give 2)) (G 2 (0 * S + p) value 0))
      ∙ ap (map (renamed s)) (sym (one_step 2 p value (omega arith) below)))
  bodies_like m d (suc k) p value like first below =
      let s = name signature laws give m d in
      let most = like.most in
      let within = like.within in
      let position = suc k * S + p in
      let at : d * S + position ≡ suc (d + k) * S + p = (let turned = add-mul d (suc k) S in let e : suc (d + k) * S ≡ (d + suc k) * S = ap (λ (n : ℕ). n * S) (let f : suc (d + k) ≡ d + suc k = omega arith in f) in omega arith) in
      ap (λ (n : ℕ). bodies_of n value (R m)) at
      ∙ two_steps m (d + k) p value (omega arith) (omega arith) below
      ∙ ap (λ (n : ℕ). G m n value (d + k) ++ G m n value (suc (d + k))) (sym at)
      ∙ ap (λ (n : ℕ). G m (d * S + position) value (d + k) ++ G m (d * S + position) value n) (let f : suc (d + k) ≡ d + suc k = omega arith in f)
      ∙ ap (λ (l : List Literal). l ++ G m (d * S + position) value (d + suc k)) (same_step m d (suc k) k position value (like_early m d k most (omega arith)))
      ∙ ap (λ (l : List Literal). map (renamed s) (G 2 position value k) ++ l) (same_step m d (suc k) (suc k) position value like)
      ∙ sym (map-append (renamed s) (G 2 position value k) (G 2 position value (suc k)))
      ∙ ap (map (renamed s)) (sym (two_steps 2 k p value (omega arith) (omega arith) below))
