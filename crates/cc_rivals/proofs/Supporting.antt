-- The values of a model have causes: where no rule supports the one at a position, a row with another value there meets the same heads.
use Rattle.std.proofs.Common.{◌≡◌, ◌∙◌, ℕ, zero, suc, ◌<◌, ◌⊎◌, inl, inr, Bool, true, false, not, ◌&&◌, ◌||◌, List, [], ◌∷◌, map, set, slice_get, Some, refl, sym, ap, subst, arith}
use Rattle.std.specs.Prelude.{◌==◌, cond, slice_index}
use Rattle.std.specs.Bool.{beq}
use Rattle.std.specs.List.{list_all, filter}
use Rattle.std.proofs.lemmas.Bool.{cases_Bool, cases_eq, eq-eqb, eqb-false, eqb-true}
use Rattle.std.proofs.lemmas.List.{get_or-set_other}
use Rattle.cc_arena.specs.Laws.{TermsMeanFormulas}
use Rattle.cc_defs.specs.Rows.{IsRow}
use Rattle.cc_defs.specs.Terms.{Ground, Operands, nothing, and_then, truth, all_true, any_true}
use Rattle.cc_defs.specs.Terms as terms
use Rattle.cc_rivals.specs.Supports.{HasSupport, ModelsAreSupported, names, some_names, supports}
use Rattle.cc_rivals.proofs.Matching.{reduct_is}
use Rattle.cc_wide.specs.WideLists.{WideTimed, holds_in, reduct_heads, test_holds, wide_timed}
use Rattle.cc_wide.specs.WideRules.{wide_sizes}

both_hold : (a b : Bool) → (a && b) ≡ true → (a ≡ true) × (b ≡ true)
both_hold true b e = (refl, e)
both_hold false b e = absurd cc

both : (a b : Bool) → a ≡ true → b ≡ true → (a && b) ≡ true
both true b p q = q
both false b p q = absurd cc

neither : (a b : Bool) → (a || b) ≡ false → (a ≡ false) × (b ≡ false)
neither true b e = absurd cc
neither false b e = (refl, e)

-- ---- a term is worth the same in rows that differ at a position alone that it does not name

module _ (u v : ℕ → ℕ) (position : ℕ) (alike : (q : ℕ) → (q ≡ position → ⊥) → u q ≡ v q) where
  mutual
    truth_kept : (f : Ground) → names position f ≡ false → truth u f ≡ truth v f
    truth_kept terms.Truth apart = refl
    truth_kept terms.Falsehood apart = refl
    truth_kept (terms.Atom other value) apart = ap (λ (n : ℕ). n == value) (alike other (eqb-false other position apart))
    truth_kept (terms.Not f) apart = ap not (truth_kept f apart)
    truth_kept (terms.All operands) apart = all_kept operands apart
    truth_kept (terms.Any operands) apart = any_kept operands apart
    truth_kept (terms.Same f g) apart =
        let parts = neither (names position f) (names position g) apart in
        ap (λ (b : Bool). beq b (truth u g)) (truth_kept f parts.0) ∙ ap (beq (truth v f)) (truth_kept g parts.1)

    all_kept : (operands : Operands) → some_names position operands ≡ false → all_true u operands ≡ all_true v operands
    all_kept nothing apart = refl
    all_kept (and_then operands f) apart =
        let parts = neither (some_names position operands) (names position f) apart in
        ap (λ (b : Bool). b && truth u f) (all_kept operands parts.0) ∙ ap (λ (b : Bool). all_true v operands && b) (truth_kept f parts.1)

    any_kept : (operands : Operands) → some_names position operands ≡ false → any_true u operands ≡ any_true v operands
    any_kept nothing apart = refl
    any_kept (and_then operands f) apart =
        let parts = neither (some_names position operands) (names position f) apart in
        ap (λ (b : Bool). b || truth u f) (any_kept operands parts.0) ∙ ap (λ (b : Bool). any_true v operands || b) (truth_kept f parts.1)

-- ---- a row with another value at a position

row_with : (sizes row : List ℕ) (position size value : ℕ) → IsRow sizes row → slice_get sizes position ≡ Some size → value < size →
    IsRow sizes (set row position value) × (slice_index (set row position value) position ≡ value)
row_with [] row position size value is at less = absurd cc
row_with (s ∷ sizes) [] position size value is at less = absurd is
row_with (s ∷ sizes) (x ∷ row) zero size value is at less = let same : size ≡ s = cc in ((subst (λ (n : ℕ). value < n) same less, is.1), refl)
row_with (s ∷ sizes) (x ∷ row) (suc position) size value is at less = let more = row_with sizes row position size value is.1 at less in ((is.0, more.0), more.1)

another : (value : ℕ) → (other : ℕ) × (other < 2) × (other ≡ value → ⊥)
another zero = (1, omega arith, λ e. omega arith)
another (suc value) = (0, omega arith, λ e. omega arith)

module _ (row : List ℕ) (position value : ℕ) where
  abbrev other : List ℕ
  other = set row position value

  -- it meets a head that does not support what the row has there, where the row meets it
  kept : (f : Ground) → holds_in row f ≡ true → names position f ≡ false → holds_in other f ≡ true
  kept f met apart = truth_kept (λ q. slice_index other q) (λ q. slice_index row q) position (λ q elsewhere. get_or-set_other row position q value 0 elsewhere) f apart ∙ met

  head_kept : (f : Ground) → holds_in row f ≡ true → supports position (slice_index row position) f ≡ false → holds_in other f ≡ true
  head_kept terms.Truth met apart = refl
  head_kept terms.Falsehood met apart = absurd cc
  head_kept (terms.Atom q index) met apart = elim (cases_eq q position) [
    | inl is ↦
        let here : index ≡ slice_index row position = sym (eqb-true (slice_index row q) index met) ∙ ap (slice_index row) is in
        let wrong : true ≡ false = sym (both (q == position) (index == slice_index row position) (eq-eqb q position is) (eq-eqb index (slice_index row position) here)) ∙ apart in
        absurd cc
    | inr elsewhere ↦ ap (λ (n : ℕ). n == index) (get_or-set_other row position q value 0 elsewhere) ∙ met
  ]
  head_kept (terms.Not f) met apart = kept (terms.Not f) met apart
  head_kept (terms.All operands) met apart = kept (terms.All operands) met apart
  head_kept (terms.Any operands) met apart = kept (terms.Any operands) met apart
  head_kept (terms.Same f g) met apart = kept (terms.Same f g) met apart

  behind : (rule : WideTimed) (rules : List WideTimed) → HasSupport rules row position → HasSupport (rule ∷ rules) row position
  behind rule rules found = record { rule = found.rule; member = (suc found.member.0, (let less = found.member.1 in omega arith), found.member.2); test = found.test; head = found.head }

  abbrev Found : List WideTimed → List Ground → Type 0
  Found rules heads = HasSupport rules row position ⊎ (list_all (holds_in other) heads ≡ true)

  -- those of the reduct, by whether the row meets the test of the first rule
  abbrev heads_by : Bool → WideTimed → List WideTimed → List Ground
  heads_by b rule rules = map (λ (x : WideTimed). x.head) (cond b (rule ∷ filter (test_holds row) rules) (filter (test_holds row) rules))

  -- some rule supports what the row has there, or the other row meets the heads of the reduct
  support_or_met : (rules : List WideTimed) → list_all (holds_in row) (reduct_heads rules row) ≡ true → Found rules (reduct_heads rules row)
  support_or_met [] met = inr refl
  support_or_met (rule ∷ rules) met = by (test_holds row rule) refl met (λ more. support_or_met rules more)
    where
      by : (b : Bool) → test_holds row rule ≡ b → list_all (holds_in row) (heads_by b rule rules) ≡ true →
          (list_all (holds_in row) (reduct_heads rules row) ≡ true → Found rules (reduct_heads rules row)) → Found (rule ∷ rules) (heads_by b rule rules)
      by true passes met rest =
          let parts = both_hold (holds_in row rule.head) (list_all (holds_in row) (reduct_heads rules row)) met in
          elim (rest parts.1) [
            | inl found ↦ inl (behind rule rules found)
            | inr others ↦ elim (cases_Bool (supports position (slice_index row position) rule.head)) [
              | inl so ↦ inl (record { rule = rule; member = (0, omega arith, refl); test = passes; head = so })
              | inr apart ↦ inr (both (holds_in other rule.head) (list_all (holds_in other) (reduct_heads rules row)) (head_kept rule.head parts.0 apart) others)
            ]
          ]
      by false passes met rest = elim (rest met) [
        | inl found ↦ inl (behind rule rules found)
        | inr others ↦ inr others
      ]

-- ---- models

pub models_supported : TermsMeanFormulas → ModelsAreSupported
models_supported mean signature laws are w of horizon row model position size at more =
    let is = reduct_is mean signature laws w are of horizon row in
    let value = another (slice_index row position) in
    let changed = row_with (wide_sizes w horizon) row position size value.0 model.interprets at (let less = value.1 in omega arith) in
    elim (support_or_met row position value.0 (wide_timed w horizon) (sym (is row) ∙ model.satisfied)) [
      | inl found ↦ found
      | inr met ↦
          let same = model.only (set row position value.0) changed.0 (is (set row position value.0) ∙ met) in
          absurd (value.2 (sym changed.1 ∙ ap (λ (l : List ℕ). slice_index l position) same))
    ]
