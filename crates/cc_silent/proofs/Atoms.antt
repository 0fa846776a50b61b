-- Clauses with that of an atom: their rows are those that have it.
use Rattle.std.proofs.Common.{◌≡◌, ◌∙◌, ℕ, zero, suc, ◌+◌, ◌<◌, Bool, true, false, List, [], ◌∷◌, ◌++◌, slice_get, Some, refl, sym, subst, ap, arith, inl, inr}
use Rattle.std.specs.Prelude.{◌==◌}
use Rattle.std.proofs.lemmas.Bool.{eqb-true, eq-eqb}
use Rattle.std.proofs.lemmas.List.Elements.{Contains-append_left, Contains-append_right, Contains-append_cases}
use Rattle.cc_clauses.specs.RowsOf.{HasRow, HasRowFrom, IsRowOf, MeetsAll}
use Rattle.cc_clauses.specs.Tells.{Tells}
use Rattle.cc_defs.specs.ClauseForms.{atom_variable, first_variable, positive}
use Rattle.cc_defs.specs.Clauses.{Literal, meets}
use Rattle.cc_defs.specs.Rows.{IsRow}
use Rattle.cc_defs.specs.Sections.{Axioms}
use Rattle.cc_form.specs.Forms.{with_atom}
use Rattle.cc_lists.proofs.Members.{in_cases, in_first, in_none}
use Rattle.cc_silent.specs.Sought.{HasValue}

-- a row has an index at each position, below the number of its values
pub index_at : (sizes row : List ℕ) (position size : ℕ) → IsRow sizes row → slice_get sizes position ≡ Some size → (index : ℕ) × (slice_get row position ≡ Some index) × (index < size)
index_at [] row position size is at = absurd cc
index_at (s ∷ sizes) [] position size is at = absurd is
index_at (s ∷ sizes) (index ∷ row) zero size is at = (index, refl, (let same : s ≡ size = cc in let less = is.0 in omega arith))
index_at (s ∷ sizes) (index ∷ row) (suc position) size is at = index_at sizes row position size is.1 at

module _ (a : ℕ → Bool) where
  atom_from : (k : ℕ) (sizes row : List ℕ) → HasRowFrom (k + 1) sizes a row → (position value size index : ℕ) → slice_get sizes position ≡ Some size → value < size →
      slice_get row position ≡ Some index → a (k + atom_variable sizes position value) ≡ (index == value)
  atom_from k [] row h position value size index at less there = absurd cc
  atom_from k (s ∷ sizes) [] h position value size index at less there = absurd h
  atom_from k (s ∷ sizes) (i ∷ row) h zero value size index at less there =
      ap a (let e : k + (1 + value) ≡ k + 1 + value = omega arith in e) ∙ h.0 value (let same : s ≡ size = cc in omega arith)
      ∙ ap (λ (n : ℕ). n == value) (let e : i ≡ index = cc in e)
  atom_from k (s ∷ sizes) (i ∷ row) h (suc position) value size index at less there =
      ap a (let e : k + (s + first_variable sizes position + value) ≡ k + s + (first_variable sizes position + value) = omega arith in e)
      ∙ atom_from (k + s) sizes row (subst (λ (n : ℕ). HasRowFrom n sizes a row) (let e : k + 1 + s ≡ k + s + 1 = omega arith in e) h.1) position value size index at less there

  atom_so : (sizes row : List ℕ) → HasRow sizes a row → (position value size index : ℕ) → slice_get sizes position ≡ Some size → value < size →
      slice_get row position ≡ Some index → a (atom_variable sizes position value) ≡ (index == value)
  atom_so sizes row h position value size index at less there =
      ap a (let e : atom_variable sizes position value ≡ 0 + atom_variable sizes position value = omega arith in e)
      ∙ atom_from 0 sizes row (subst (λ (n : ℕ). HasRowFrom n sizes a row) (let e : 1 ≡ 0 + 1 = omega arith in e) h) position value size index at less there

  -- a clause of one literal
  one_met : (variable : ℕ) → meets a (positive variable ∷ []) ≡ true → a variable ≡ true
  one_met variable met = by (a variable) met
    where
      by : (b : Bool) → Rattle.std.specs.Prelude.◌||◌ b false ≡ true → b ≡ true
      by true met = refl
      by false met = met

  meets_one : (variable : ℕ) → a variable ≡ true → meets a (positive variable ∷ []) ≡ true
  meets_one variable is = by (a variable) is
    where
      by : (b : Bool) → b ≡ true → Rattle.std.specs.Prelude.◌||◌ b false ≡ true
      by true is = refl
      by false is = is

module _ (form : Axioms) (position value size : ℕ) (at : slice_get form.sizes position ≡ Some size) (less : value < size) where
  abbrev own : List Literal
  own = positive (atom_variable form.sizes position value) ∷ []

  front_met : (a : ℕ → Bool) → MeetsAll a (form.clauses ++ own ∷ []) → MeetsAll a form.clauses
  front_met a all clause there = all clause (Contains-append_left form.clauses (own ∷ []) clause there)

  pub has_of : (row : List ℕ) → IsRowOf form.sizes (form.clauses ++ own ∷ []) row → HasValue position value row
  has_of row of =
      let (index, there, low) = index_at form.sizes row position size of.is_row at in
      let met = of.meets_all own (Contains-append_right form.clauses (own ∷ []) own (in_first own [])) in
      let so = sym (atom_so of.assignment form.sizes row of.has position value size index at less there) ∙ one_met of.assignment (atom_variable form.sizes position value) met in
      there ∙ ap Some (eqb-true index value so)

  front_of : (row : List ℕ) → IsRowOf form.sizes (form.clauses ++ own ∷ []) row → IsRowOf form.sizes form.clauses row
  front_of row of = record { is_row = of.is_row; assignment = of.assignment; has = of.has; meets_all = front_met of.assignment of.meets_all }

  whole_of : (row : List ℕ) → IsRowOf form.sizes form.clauses row → HasValue position value row → IsRowOf form.sizes (form.clauses ++ own ∷ []) row
  whole_of row of has = record {
    is_row = of.is_row;
    assignment = of.assignment;
    has = of.has;
    meets_all = λ clause there. elim (Contains-append_cases form.clauses (own ∷ []) clause there) [
      | inl before ↦ of.meets_all clause before
      | inr last ↦ elim (in_cases own clause [] last) [
        | inl same ↦ subst (λ (c : List Literal). meets of.assignment c ≡ true) same
            (meets_one of.assignment (atom_variable form.sizes position value)
            (atom_so of.assignment form.sizes row of.has position value size value at less has ∙ eq-eqb value value refl))
        | inr none ↦ absurd (in_none clause none)
      ]
    ];
  }

  -- what clauses tell, with that of an atom
  pub atom_tells : (Is : List ℕ → Type 0) → Tells form Is → Tells (with_atom form position value) (λ row. Is row × HasValue position value row)
  atom_tells Is tells = record {
    rows = λ row. (
      (λ of. ((tells.rows row).0 (front_of row of), has_of row of)),
      (λ is. whole_of row ((tells.rows row).1 is.0) is.1),
    );
    once = λ row one other has_one has_other meets_one meets_other. tells.once row one other has_one has_other (front_met one meets_one) (front_met other meets_other);
    each = λ a meets. tells.each a (front_met a meets);
  }
