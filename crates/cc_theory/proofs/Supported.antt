-- Models are the supported rows: the heads of the rules whose bodies hold are met, and each value that could be another has a cause.
use Rattle.std.proofs.Common.{◌≡◌, ◌∙◌, ℕ, zero, suc, ◌<◌, ◌⊎◌, inl, inr, Bool, true, false, ◌&&◌, List, [], ◌∷◌, set, slice_get, Some, refl, sym, ap, subst, arith}
use Rattle.std.specs.Prelude.{◌==◌, IsTrue, slice_index, if◌then◌else◌}
use Rattle.std.specs.List.{AllZip, list_all}
use Rattle.std.proofs.lemmas.Bool.{cases_eq, eq-eqb, eqb-true}
use Rattle.std.proofs.lemmas.List.{get_or-set_other, get_or-set_same}
use Rattle.cc_arena.specs.Meanings.{head_truth}
use Rattle.cc_defs.specs.declared.node.GroundHead.{GroundHead}
use Rattle.cc_defs.specs.declared.node.GroundHead.TheVariants as heads
use Rattle.cc_defs.specs.Rows.{IsRow}
use Rattle.cc_defs.specs.Theories.{Rule, IsModel, reduct, satisfies}
use Rattle.cc_defs.specs.TimedRules.{TimedRule}
use Rattle.cc_theory.specs.Completion.{IsCause, MeetsCompletion, holds}
use Rattle.cc_theory.specs.Laws.{HeadFits}
use Rattle.cc_theory.proofs.Lists.{In, both, both_hold, contains_in, in_contains, row_at, row_set, same_rows}

abbrev pub meets_head : List ℕ → GroundHead → Bool
meets_head row head = head_truth (λ position. slice_index row position) head

-- the tests of a rule are those of its data
pub record SameRule (rule : Rule) (timed : TimedRule) : Type 0 where
  pub head : (row : List ℕ) → rule.head row ≡ meets_head row timed.head
  pub body : (row : List ℕ) → rule.body row ≡ holds row timed.body

-- each rule whose body holds in a row has a head that the other one meets
abbrev pub Met : List TimedRule → List ℕ → List ℕ → Type 0
Met rules row other = (t : TimedRule) → In rules t → IsTrue (holds row t.body) → IsTrue (meets_head other t.head)

-- a rule with this head whose body holds
abbrev pub Found : List TimedRule → List ℕ → GroundHead → Type 0
Found rules row head = (t : TimedRule) × In rules t × (t.head ≡ head) × IsTrue (holds row t.body)

pub record IsSupported (sizes : List ℕ) (rules : List TimedRule) (row : List ℕ) : Type 0 where
  pub met : Met rules row row
  pub caused : (p size : ℕ) → slice_get sizes p ≡ Some size → 1 < size → Found rules row (heads.Atom p (slice_index row p))

pub cause_found : (rules : List TimedRule) (row : List ℕ) (head : GroundHead) → IsCause rules row head → Found rules row head
cause_found rules row head c = (c.rule, contains_in rules c.rule c.member, c.head_is, c.body)

pub found_cause : (rules : List TimedRule) (row : List ℕ) (head : GroundHead) → Found rules row head → IsCause rules row head
found_cause rules row head f = record { rule = f.0; member = in_contains rules f.0 f.1; head_is = f.2; body = f.3 }

-- ---- the reduct

reduct_met : (rules : List Rule) (timed : List TimedRule) → AllZip SameRule rules timed → (row other : List ℕ) → IsTrue (satisfies other (reduct rules row)) → Met timed row other
reduct_met [] [] same row other s = λ t i. absurd i
reduct_met [] (t ∷ ts) same row other s = absurd same
reduct_met (r ∷ rs) [] same row other s = absurd same
reduct_met (r ∷ rs) (t ∷ ts) same row other s = by (r.body row) refl s (λ more. reduct_met rs ts same.1 row other more)
  where
    by : (b : Bool) → r.body row ≡ b → IsTrue (list_all (λ head. head other) (if b then r.head ∷ reduct rs row else reduct rs row)) →
        (IsTrue (satisfies other (reduct rs row)) → Met ts row other) → Met (t ∷ ts) row other
    by true e s rest = λ u i h. elim i [
      | inl is ↦ subst (λ (w : TimedRule). IsTrue (meets_head other w.head)) is (sym (same.0.head other) ∙ (both_hold (r.head other) (satisfies other (reduct rs row)) s).0)
      | inr more ↦ rest (both_hold (r.head other) (satisfies other (reduct rs row)) s).1 u more h
    ]
    by false e s rest = λ u i h. elim i [
      | inl is ↦ let p : false ≡ true = sym e ∙ same.0.body row ∙ ap (λ (w : TimedRule). holds row w.body) is ∙ h in absurd cc
      | inr more ↦ rest s u more h
    ]

met_reduct : (rules : List Rule) (timed : List TimedRule) → AllZip SameRule rules timed → (row other : List ℕ) → Met timed row other → IsTrue (satisfies other (reduct rules row))
met_reduct [] [] same row other met = refl
met_reduct [] (t ∷ ts) same row other met = absurd same
met_reduct (r ∷ rs) [] same row other met = absurd same
met_reduct (r ∷ rs) (t ∷ ts) same row other met = by (r.body row) refl (met_reduct rs ts same.1 row other (λ u i h. met u (inr i) h))
  where
    by : (b : Bool) → r.body row ≡ b → IsTrue (satisfies other (reduct rs row)) → IsTrue (list_all (λ head. head other) (if b then r.head ∷ reduct rs row else reduct rs row))
    by true e rest = both (r.head other) (satisfies other (reduct rs row)) (same.0.head other ∙ met t (inl refl) (sym (same.0.body row) ∙ e)) rest
    by false e rest = rest

-- ---- a search for a cause

abbrev is_atom : ℕ → ℕ → GroundHead → Bool
is_atom p v (heads.Atom q w) = (q == p) && (w == v)
is_atom p v heads.Falsity = false

atom_is : (p v : ℕ) (head : GroundHead) → is_atom p v head ≡ true → head ≡ heads.Atom p v
atom_is p v (heads.Atom q w) e =
    let same = both_hold (q == p) (w == v) e in
    ap (λ (n : ℕ). heads.Atom n w) (eqb-true q p same.0) ∙ ap (λ (n : ℕ). heads.Atom p n) (eqb-true w v same.1)
atom_is p v heads.Falsity e = absurd cc

is_the_atom : (p v : ℕ) (head : GroundHead) → head ≡ heads.Atom p v → is_atom p v head ≡ true
is_the_atom p v head e = ap (is_atom p v) e ∙ both (p == p) (v == v) (eq-eqb p p refl) (eq-eqb v v refl)

abbrev NoneFound : List TimedRule → List ℕ → ℕ → ℕ → Type 0
NoneFound rules row p v = (t : TimedRule) → In rules t → t.head ≡ heads.Atom p v → IsTrue (holds row t.body) → ⊥

search_cause : (rules : List TimedRule) (row : List ℕ) (p v : ℕ) → Found rules row (heads.Atom p v) ⊎ NoneFound rules row p v
search_cause [] row p v = inr (λ t i. absurd i)
search_cause (t ∷ ts) row p v = by (is_atom p v t.head && holds row t.body) refl (search_cause ts row p v)
  where
    by : (b : Bool) → (is_atom p v t.head && holds row t.body) ≡ b → Found ts row (heads.Atom p v) ⊎ NoneFound ts row p v → Found (t ∷ ts) row (heads.Atom p v) ⊎ NoneFound (t ∷ ts) row p v
    by true e rest = let is = both_hold (is_atom p v t.head) (holds row t.body) e in inl (t, inl refl, atom_is p v t.head is.0, is.1)
    by false e rest = elim rest [
      | inl found ↦ inl (found.0, inr found.1, found.2, found.3)
      | inr none ↦ inr (λ u i h holding. elim i [
        | inl is ↦
            let one : is_atom p v t.head ≡ true = is_the_atom p v t.head (ap (λ (w : TimedRule). w.head) is ∙ h) in
            let other : holds row t.body ≡ true = ap (λ (w : TimedRule). holds row w.body) is ∙ holding in
            let p : false ≡ true = sym e ∙ both (is_atom p v t.head) (holds row t.body) one other in
            absurd cc
        | inr more ↦ none u more h holding
      ])
    ]

-- ---- models and supported rows

module _ (sizes : List ℕ) (rules : List Rule) (timed : List TimedRule) (same : AllZip SameRule rules timed) (row : List ℕ) where
  -- another value
  another : (v : ℕ) → (w : ℕ) × (w < 2) × (w ≡ v → ⊥)
  another zero = (1, omega arith, λ e. omega arith)
  another (suc v) = (0, omega arith, λ e. omega arith)

  module _ (model : IsModel sizes rules row) where
    met_here : Met timed row row
    met_here = reduct_met rules timed same row row model.satisfied

    module _ (p size : ℕ) (at : slice_get sizes p ≡ Some size) (more : 1 < size) where
      changed : (w : ℕ) (head : GroundHead) → IsTrue (meets_head row head) → (head ≡ heads.Atom p (slice_index row p) → ⊥) → IsTrue (meets_head (set row p w) head)
      changed w (heads.Atom q u) h never = elim (cases_eq q p) [
        | inl is ↦
            let here : u ≡ slice_index row p = sym (eqb-true (slice_index row q) u h) ∙ ap (slice_index row) is in
            absurd (never (ap (λ (n : ℕ). heads.Atom n u) is ∙ ap (λ (n : ℕ). heads.Atom p n) here))
        | inr elsewhere ↦ ap (λ (n : ℕ). n == u) (get_or-set_other row p q w 0 elsewhere) ∙ h
      ]
      changed w heads.Falsity h never = absurd cc

      model_caused : Found timed row (heads.Atom p (slice_index row p))
      model_caused = elim (search_cause timed row p (slice_index row p)) [
        | inl found ↦ found
        | inr none ↦
            let w = another (slice_index row p) in
            let below : w.0 < size = let less = w.1 in omega arith in
            let other = set row p w.0 in
            let met : Met timed row other = λ t i h. changed w.0 t.head (met_here t i h) (λ is. none t i is h) in
            let same_row : other ≡ row = model.only other (row_set sizes row p size w.0 model.interprets at below) (met_reduct rules timed same row other met) in
            absurd (w.2 (sym (get_or-set_same row p w.0 0 (row_at sizes row p size model.interprets at).0) ∙ ap (λ (l : List ℕ). slice_index l p) same_row))
      ]

    pub model_supported : IsSupported sizes timed row
    model_supported = record { met = met_here; caused = model_caused }

  only_value : (size a b : ℕ) → a < size → b < size → (1 < size → a ≡ b) → a ≡ b
  only_value zero a b p q e = absurd (omega arith)
  only_value (suc zero) a b p q e = omega arith
  only_value (suc (suc n)) a b p q e = e (omega arith)

  pub supported_model : IsRow sizes row → IsSupported sizes timed row → IsModel sizes rules row
  supported_model is supported = record {
    interprets = is;
    satisfied = met_reduct rules timed same row row supported.met;
    only = λ other are satisfied. same_rows sizes other row are is (λ p size at.
        only_value size (slice_index other p) (slice_index row p) (row_at sizes other p size are at).1 (row_at sizes row p size is at).1 (λ more.
        let found = supported.caused p size at more in
        let met = reduct_met rules timed same row other satisfied found.0 found.1 found.3 in
        eqb-true (slice_index other p) (slice_index row p) (subst (λ (h : GroundHead). IsTrue (meets_head other h)) found.2 met)));
  }

  -- ---- the completion

  pub supported_completion : IsSupported sizes timed row → MeetsCompletion sizes timed row
  supported_completion supported = record {
    caused = λ p size at more. found_cause timed row (heads.Atom p (slice_index row p)) (supported.caused p size at more);
    only = λ p size value at more cause.
        sym (eqb-true (slice_index row p) value (met_cause (heads.Atom p value) cause));
    denied = λ cause. let wrong : false ≡ true = met_cause heads.Falsity cause in absurd cc;
  }
    where
      met_cause : (head : GroundHead) → IsCause timed row head → IsTrue (meets_head row head)
      met_cause head cause = subst (λ (h : GroundHead). IsTrue (meets_head row h)) cause.head_is
          (supported.met cause.rule (contains_in timed cause.rule cause.member) cause.body)

  pub completion_supported : ((t : TimedRule) → In timed t → HeadFits sizes t.head) → IsRow sizes row → MeetsCompletion sizes timed row → IsSupported sizes timed row
  completion_supported fit is meets = record {
    met = λ t i h. by t.head (fit t i) (found_cause timed row t.head (t, i, refl, h));
    caused = λ p size at more. cause_found timed row (heads.Atom p (slice_index row p)) (meets.caused p size at more);
  }
    where
      by : (head : GroundHead) → HeadFits sizes head → IsCause timed row head → IsTrue (meets_head row head)
      by (heads.Atom p v) fits cause =
          let e : slice_index row p ≡ v = only_value fits.0 (slice_index row p) v (row_at sizes row p fits.0 is fits.1).1 fits.2 (λ more. sym (meets.only p fits.0 v fits.1 more cause)) in
          eq-eqb (slice_index row p) v e
      by heads.Falsity fits cause = absurd (meets.denied cause)
