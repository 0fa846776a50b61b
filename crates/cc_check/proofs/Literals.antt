-- Clauses, as they are tested and written literal by literal.
use Rattle.std.proofs.Common.{◌≡◌, ◌≢◌, ℕ, zero, suc, ◌+◌, ◌<◌, ◌≤◌, Bool, true, false, List, [], ◌∷◌, ◌++◌, length, get_or, drop, Some, refl, sym, ap, subst, ◌∙◌, arith, append_assoc, append-nil, add-one, inl, inr, ◌⊎◌, Option, None, not, ltb}
use Rattle.std.specs.Prelude.{slice_get, ◌↔◌}
use Rattle.std.proofs.lemmas.Bool.{false≢true, lt-ltb, ltb-true}
use Rattle.std.specs.List.{Contains, sum}
use Rattle.std.proofs.lemmas.List.Sums.{sum_by-cons}
use Rattle.std.proofs.lemmas.List.{drop_more, drop_all, nil_from_length}
use Rattle.std.proofs.lemmas.Option.{slice_get_within, get_or_from_slice_get, slice_get-get_or, none-some}
use Rattle.cc_defs.specs.ClauseForms.{positive, first_variable, atom_variable}
use Rattle.cc_defs.specs.Clauses.{Literal, IsBefore, IsClause, IsOver, IsNumbered, IsResolvent, opposite}
use Rattle.cc_defs.specs.Rows.{IsRow}
use Rattle.cc_defs.specs.Sections.{HasNoEmpty, denial_from, row_denial}
use Rattle.std.specs.Bool.{MatchBool, IsTrue}
use Rattle.std.specs.Option.{MatchOption, is_some}
use Rattle.cc_check.specs.Clauses.{IsClauseOver, HaveNoResolvent, IsStep}

-- ---- by what was tested

-- that nothing is left decides it
pub none_says : {X A : Type 0} {B : X → Type 0} (P : Type 0) (read : Option X) (none : Bool) → is_some read ≡ not none → MatchOption read A B → (A → P) →
    ((x : X) → B x → P → ⊥) → IsTrue none ↔ P
none_says P None true is h done more = (λ _. done h, λ _. refl)
none_says P None false is h done more = absurd (false≢true is)
none_says P (Some x) true is h done more = absurd (false≢true (sym is))
none_says P (Some x) false is h done more = (λ never. absurd (false≢true never), λ p. absurd (more x h p))

module _ (variable : ℕ) (positive : Bool) (other : Literal) (read : ℕ) (read_is : read ≡ other.variable) where
  pub before_by_variable : (variable ≡ read → ⊥) → (again : ℕ) → again ≡ other.variable →
      IsTrue (ltb variable again) ↔ IsBefore (record { variable = variable; positive = positive }) other
  before_by_variable differs again again_is = (
    λ e. inl (let less = ltb-true variable again e in omega arith),
    λ h. lt-ltb variable again (elim h [ inl less ↦ omega arith | inr same ↦ absurd (differs (same.0 ∙ sym read_is)) ]),
  )

  pub before_by_sign : variable ≡ read → positive ≡ false → (sign : Bool) → sign ≡ other.positive → IsTrue sign ↔ IsBefore (record { variable = variable; positive = positive }) other
  before_by_sign same minus sign sign_is = (
    λ e. inr (same ∙ read_is, minus, sym sign_is ∙ e),
    λ h. elim h [ inl less ↦ absurd (omega arith) | inr both ↦ sign_is ∙ both.2 ],
  )

  pub before_by_neither : variable ≡ read → positive ≡ true → IsTrue (not positive) ↔ IsBefore (record { variable = variable; positive = positive }) other
  before_by_neither same plus = (
    λ minus. absurd (false≢true (ap not (sym plus) ∙ minus)),
    λ h. absurd (elim h [ inl less ↦ omega arith | inr both ↦ false≢true (sym both.1 ∙ plus) ]),
  )

-- ---- whether literals are a clause

abbrev ClauseState : ℕ → Literal → List Literal → Type 0
ClauseState variables last rest = IsClause (last ∷ rest) × IsOver variables rest

pub record ClauseFrom (variables : ℕ) (last : Literal) (rest whole : List Literal) : Type 0 where
  pub to : ClauseState variables last rest → IsClauseOver variables whole
  pub from : IsClauseOver variables whole → ClauseState variables last rest

abbrev pub before_all : Literal
before_all = record { variable = 0; positive = false }

pub clause_begun : (variables : ℕ) (whole : List Literal) → ClauseFrom variables (record { variable = 0; positive = false }) whole whole
clause_begun variables [] = record { to = λ h. (tt, tt); from = λ h. (tt, tt) }
clause_begun variables (literal ∷ literals) = record { to = λ h. (h.0.1, h.1); from = λ h. ((inl h.1.0, h.0), h.1) }

module _ (variables : ℕ) (last : Literal) (left whole : List Literal) (so_far : ClauseFrom variables last left whole) where
  module _ (literal : Literal) (rest : List Literal) (is : left ≡ literal ∷ rest) where
    pub clause_more : IsBefore last literal → (0 < literal.variable) × (literal.variable ≤ variables) → ClauseFrom variables literal rest whole
    clause_more before within = record {
      to = λ h. so_far.to (subst (ClauseState variables last) (sym is) ((before, h.0), (within.0, within.1, h.1)));
      from = λ h. let state = subst (ClauseState variables last) is (so_far.from h) in (state.0.1, state.1.2);
    }

    pub clause_fails : (IsBefore last literal → ⊥) ⊎ ((0 < literal.variable) × (literal.variable ≤ variables) → ⊥) → IsClauseOver variables whole → ⊥
    clause_fails (inl not_before) h = not_before (subst (ClauseState variables last) is (so_far.from h)).0.0
    clause_fails (inr not_within) h = let state = subst (ClauseState variables last) is (so_far.from h) in not_within (state.1.0, state.1.1)

  pub clause_done : left ≡ [] → IsClauseOver variables whole
  clause_done nil = so_far.to (subst (ClauseState variables last) (sym nil) (tt, tt))

-- ---- whether two clauses are the same

pub record SameFrom (left others clause literals : List Literal) : Type 0 where
  pub to : left ≡ others → clause ≡ literals
  pub from : clause ≡ literals → left ≡ others

pub same_begun : (clause literals : List Literal) → SameFrom (drop 0 clause) literals clause literals
same_begun clause literals = record { to = λ h. h; from = λ h. h }

module _ (clause literals : List Literal) (i : ℕ) (others : List Literal) (so_far : SameFrom (drop i clause) others clause literals) where
  pub same_more : (first : Literal) (more : List Literal) (default : Literal) → i < length clause → others ≡ first ∷ more → get_or clause i default ≡ first →
      SameFrom (drop (i + 1) clause) more clause literals
  same_more first more default within is same =
      let split : drop i clause ≡ first ∷ drop (i + 1) clause = drop_more clause i default within ∙ ap (λ (l : Literal). l ∷ drop (i + 1) clause) same in
      record {
        to = λ h. so_far.to (split ∙ ap (λ (ls : List Literal). first ∷ ls) h ∙ sym is);
        from = λ h. ap (λ (ls : List Literal). drop 1 ls) (sym split ∙ so_far.from h ∙ is);
      }

  pub same_differs : (first : Literal) (more : List Literal) (default : Literal) → i < length clause → others ≡ first ∷ more → (get_or clause i default ≡ first → ⊥) → clause ≡ literals → ⊥
  same_differs first more default within is other h =
      other (ap (λ (ls : List Literal). get_or ls 0 default) (sym (drop_more clause i default within) ∙ so_far.from h ∙ is))

  pub same_short : (default : Literal) → i < length clause → others ≡ [] → clause ≡ literals → ⊥
  same_short default within nil h =
      let e : suc (length (drop (i + 1) clause)) ≡ 0 = ap length (sym (drop_more clause i default within) ∙ so_far.from h ∙ nil) in omega arith

  pub same_done : length clause ≤ i → others ≡ [] → clause ≡ literals
  same_done all nil = so_far.to (drop_all i clause all ∙ sym nil)

  pub same_long : (first : Literal) (more : List Literal) → length clause ≤ i → others ≡ first ∷ more → clause ≡ literals → ⊥
  same_long first more all is h =
      let e : suc (length more) ≡ 0 = ap length (sym is ∙ sym (so_far.from h) ∙ drop_all i clause all) in omega arith

-- ---- resolvents

over_at : (variables : ℕ) (clause : List Literal) (literal : Literal) → IsOver variables clause → Contains clause literal →
    (0 < literal.variable) × (literal.variable ≤ variables)
over_at variables [] literal over (k, below, is) = absurd (omega arith)
over_at variables (first ∷ clause) literal over (zero, below, is) =
    subst (λ (z : Literal). (0 < z.variable) × (z.variable ≤ variables)) is (over.0, over.1)
over_at variables (first ∷ clause) literal over (suc k, below, is) = over_at variables clause literal over.2 (k, (omega arith), is)

over_from : (variables : ℕ) (clause : List Literal) → ((literal : Literal) → Contains clause literal → (0 < literal.variable) × (literal.variable ≤ variables)) →
    IsOver variables clause
over_from variables [] each = tt
over_from variables (first ∷ clause) each =
    let here = each first (zero, (omega arith), refl) in
    (here.0, here.1, over_from variables clause (λ literal (k, below, is). each literal (suc k, (omega arith), is)))

pub over_resolvent : (variables : ℕ) (a b : List Literal) (pivot : ℕ) (r : List Literal) → IsOver variables a → IsOver variables b →
    IsResolvent a b pivot r → IsOver variables r
over_resolvent variables a b pivot r over_a over_b is = over_from variables r
    (λ literal c. elim ((is.members literal).0 c).0 [
      | inl of_a ↦ over_at variables a literal over_a of_a
      | inr of_b ↦ over_at variables b literal over_b of_b
    ])

-- a variable that is past the last or 0 is no pivot
pub no_pivot : (variables : ℕ) (a b : List Literal) (pivot : ℕ) → IsOver variables a → (pivot ≡ 0) ⊎ (variables < pivot) → (r : List Literal) → IsResolvent a b pivot r → ⊥
no_pivot variables a b pivot over out r is =
    let (sign, has, other) = is.clash in
    let within = over_at variables a (record { variable = pivot; positive = sign }) over has.0 in
    let some = within.0 in
    let most = within.1 in
    elim out [ inl nil ↦ omega arith | inr past ↦ omega arith ]

-- ---- the denial of a row

-- what is known of a row once the sizes up to one, and its indexes there, are gone through
pub record RowFrom (sizes_left left sizes row : List ℕ) : Type 0 where
  pub to : IsRow sizes_left left → IsRow sizes row
  pub from : IsRow sizes row → IsRow sizes_left left

pub row_begun : (sizes row : List ℕ) → RowFrom (drop 0 sizes) row sizes row
row_begun sizes row = record { to = λ h. h; from = λ h. h }

first_index : (sizes_left left sizes more : List ℕ) (size index : ℕ) → sizes_left ≡ size ∷ sizes → left ≡ index ∷ more → IsRow sizes_left left → (index < size) × IsRow sizes more
first_index sizes_left left sizes more size index sizes_are left_is h =
    subst (λ (s : List ℕ). IsRow s (index ∷ more)) sizes_are (subst (IsRow sizes_left) left_is h)

pub row_next : (sizes : List ℕ) (i : ℕ) (left : List ℕ) (index : ℕ) (more : List ℕ) → i < length sizes → left ≡ index ∷ more → IsRow (drop i sizes) left →
    (index < get_or sizes i 0) × IsRow (drop (i + 1) sizes) more
row_next sizes i left index more within is h = first_index (drop i sizes) left (drop (i + 1) sizes) more (get_or sizes i 0) index (drop_more sizes i 0 within) is h

module _ (sizes row : List ℕ) (i : ℕ) (left : List ℕ) (so_far : RowFrom (drop i sizes) left sizes row) where
  pub row_more : (index : ℕ) (more : List ℕ) → i < length sizes → left ≡ index ∷ more → index < get_or sizes i 0 → RowFrom (drop (i + 1) sizes) more sizes row
  row_more index more within is below = record {
    to = λ h. so_far.to (subst (IsRow (drop i sizes)) (sym is) (subst (λ (s : List ℕ). IsRow s (index ∷ more)) (sym (drop_more sizes i 0 within)) (below, h)));
    from = λ h. (row_next sizes i left index more within is (so_far.from h)).1;
  }

  pub row_past : (index : ℕ) (more : List ℕ) → i < length sizes → left ≡ index ∷ more → get_or sizes i 0 ≤ index → IsRow sizes row → ⊥
  row_past index more within is past h = let below = (row_next sizes i left index more within is (so_far.from h)).0 in omega arith

  pub row_short : i < length sizes → left ≡ [] → IsRow sizes row → ⊥
  row_short within nil h = subst (λ (s : List ℕ). IsRow s []) (drop_more sizes i 0 within) (subst (IsRow (drop i sizes)) nil (so_far.from h))

  pub row_done : length sizes ≤ i → left ≡ [] → IsRow sizes row
  row_done all nil = so_far.to (subst (IsRow (drop i sizes)) (sym nil) (subst (λ (s : List ℕ). IsRow s []) (sym (drop_all i sizes all)) tt))

  pub row_long : (index : ℕ) (more : List ℕ) → length sizes ≤ i → left ≡ index ∷ more → IsRow sizes row → ⊥
  row_long index more all is h = subst (λ (s : List ℕ). IsRow s (index ∷ more)) (drop_all i sizes all) (subst (IsRow (drop i sizes)) is (so_far.from h))

-- the variables of atoms end with the sum of the sizes
pub atom_within : (sizes : List ℕ) (position size value : ℕ) → slice_get sizes position ≡ Some size → value < size → atom_variable sizes position value ≤ sum sizes
atom_within [] position size value is below = absurd (none-some size is)
atom_within (first ∷ sizes) zero size value is below = let e = sum_by-cons (λ (n : ℕ). n) first sizes in let same : first ≡ size = cc in omega arith
atom_within (first ∷ sizes) (suc position) size value is below =
    let e = sum_by-cons (λ (n : ℕ). n) first sizes in
    let more = atom_within sizes position size value is below in
    omega arith

first_variable_suc : (sizes : List ℕ) (i : ℕ) → i < length sizes → first_variable sizes (suc i) ≡ first_variable sizes i + get_or sizes i 0
first_variable_suc [] i below = absurd (omega arith)
first_variable_suc (size ∷ []) zero below = omega arith
first_variable_suc (size ∷ next ∷ sizes) zero below = omega arith
first_variable_suc (size ∷ sizes) (suc i) below = let e = first_variable_suc sizes i (omega arith) in omega arith

first_variable_more : (sizes : List ℕ) (i : ℕ) → i < length sizes → first_variable sizes (i + 1) ≡ first_variable sizes i + get_or sizes i 0
first_variable_more sizes i below = ap (first_variable sizes) (add-one i) ∙ first_variable_suc sizes i below

pub denial_begun : (sizes row : List ℕ) → [] ++ denial_from (first_variable sizes 0) (drop 0 sizes) row ≡ row_denial sizes row
denial_begun [] row = refl
denial_begun (size ∷ sizes) row = refl

pub denial_more : (sizes : List ℕ) (i : ℕ) (out : List Literal) (left : List ℕ) (index : ℕ) (more : List ℕ) (whole : List Literal) → i < length sizes → left ≡ index ∷ more →
    out ++ denial_from (first_variable sizes i) (drop i sizes) left ≡ whole →
    (out ++ opposite (positive (atom_variable sizes i index)) ∷ []) ++ denial_from (first_variable sizes (i + 1)) (drop (i + 1) sizes) more ≡ whole
denial_more sizes i out left index more whole within is so_far =
    rw (append_assoc, first_variable_more sizes i within)
    (ap (λ (made : List Literal). out ++ made) (sym (ap (denial_from (first_variable sizes i) (drop i sizes)) is
    ∙ ap (λ (s : List ℕ). denial_from (first_variable sizes i) s (index ∷ more)) (drop_more sizes i 0 within))) ∙ so_far)

denial_ascends : (first : ℕ) (sizes row : List ℕ) (last : Literal) → IsRow sizes row → last.variable < first → IsClause (last ∷ denial_from first sizes row)
denial_ascends first [] [] last h below = tt
denial_ascends first [] (index ∷ row) last h below = absurd h
denial_ascends first (size ∷ sizes) [] last h below = absurd h
denial_ascends first (size ∷ sizes) (index ∷ row) last h below =
    let within = h.0 in
    (inl (omega arith), denial_ascends (first + size) sizes row (opposite (positive (first + index))) h.1 (omega arith))

clause_tail : (last : Literal) (clause : List Literal) → IsClause (last ∷ clause) → IsClause clause
clause_tail last [] h = tt
clause_tail last (literal ∷ clause) h = h.1

pub denial_clause : (sizes row : List ℕ) → IsRow sizes row → IsClause (row_denial sizes row)
denial_clause sizes row h = clause_tail (record { variable = 0; positive = false }) (row_denial sizes row) (denial_ascends 1 sizes row (record { variable = 0; positive = false }) h (omega arith))

pub over_push : (variables : ℕ) (clause : List Literal) (literal : Literal) → IsOver variables clause → 0 < literal.variable → literal.variable ≤ variables →
    IsOver variables (clause ++ literal ∷ [])
over_push variables [] literal over some most = (some, most, tt)
over_push variables (first ∷ clause) literal over some most = (over.0, over.1, over_push variables clause literal over.2 some most)

pub first_variable_some : (sizes : List ℕ) (i : ℕ) → 0 < first_variable sizes i
first_variable_some [] i = omega arith
first_variable_some (size ∷ sizes) zero = omega arith
first_variable_some (size ∷ sizes) (suc i) = let some = first_variable_some sizes i in omega arith

no_index : (first : ℕ) (sizes : List ℕ) → denial_from first sizes [] ≡ []
no_index first [] = refl
no_index first (size ∷ sizes) = refl

done_by : (out made whole : List Literal) → made ≡ [] → out ++ made ≡ whole → out ≡ whole
done_by out made whole nil so_far = sym (append-nil out) ∙ ap (λ (more : List Literal). out ++ more) (sym nil) ∙ so_far

pub denial_short : (sizes left : List ℕ) (first : ℕ) (out whole : List Literal) → left ≡ [] → out ++ denial_from first sizes left ≡ whole → out ≡ whole
denial_short sizes left first out whole nil so_far = done_by out _ whole (ap (denial_from first sizes) nil ∙ no_index first sizes) so_far

pub denial_done : (sizes : List ℕ) (i first : ℕ) (left : List ℕ) (out whole : List Literal) → length sizes ≤ i → out ++ denial_from first (drop i sizes) left ≡ whole → out ≡ whole
denial_done sizes i first left out whole all so_far = done_by out _ whole (ap (λ (s : List ℕ). denial_from first s left) (drop_all i sizes all)) so_far

-- ---- whether one of the clauses is empty

pub empty_there : (clauses : List (List Literal)) (k : ℕ) (clause : List Literal) → slice_get clauses k ≡ Some clause → length clause ≡ 0 → Contains clauses []
empty_there clauses k clause is nil =
    (k, slice_get_within clauses k clause is, get_or_from_slice_get clauses k clause [] is ∙ nil_from_length clause nil)

pub none_empty : (clauses : List (List Literal)) (count : ℕ) → length clauses ≤ count → ((k : ℕ) → k < count → (clause : List Literal) → slice_get clauses k ≡ Some clause → clause ≢ []) →
    HasNoEmpty clauses
none_empty clauses count all each (k, below, is) = each k (omega arith) [] (slice_get-get_or clauses k [] below ∙ ap Some is) refl

-- ---- a step of resolution

pub stepped : (clauses : List (List Literal)) (variables : ℕ) (from : List Literal) (number pivot : ℕ) (other there spare next : List Literal) (done : Bool) →
    there ≡ from → next ≡ spare → IsClauseOver variables from → IsClauseOver variables other → IsNumbered clauses number other → done ≡ true →
    MatchBool done (IsResolvent there other pivot spare) (HaveNoResolvent there other pivot) → IsStep clauses variables from pivot number true next
stepped clauses variables from number pivot other there spare next done same moved over_a over_b numbered yes_done h =
    let resolvent : IsResolvent there other pivot spare = rw yes_done at h in
    let made : IsResolvent from other pivot next = subst (λ (r : List Literal). IsResolvent from other pivot r) (sym moved) (subst (λ (a : List Literal). IsResolvent a other pivot spare) same resolvent) in
    (other, numbered, (made, (made.clause, over_resolvent variables from other pivot next over_a.1 over_b.1 made)))
