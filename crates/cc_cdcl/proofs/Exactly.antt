-- An assignment that meets the clauses of the positions has exactly one value of each.
use Rattle.std.proofs.Common.{◌≡◌, ◌≢◌, ◌∙◌, ℕ, ◌+◌, ◌<◌, zero, suc, inl, inr, Bool, true, false, ◌||◌, List, [], ◌∷◌, ◌++◌, map, refl, sym, subst, ap, arith}
use Rattle.std.specs.Prelude.{◌⊎◌, Contains, IsTrue}
use Rattle.std.proofs.lemmas.Bool.Decides.{eqb_tells}
use Rattle.std.proofs.lemmas.List.Elements.{Contains-append_left, Contains-append_right, Contains-push}
use Rattle.std.proofs.lemmas.List.Folds.{list_any-append}
use Rattle.cc_defs.specs.Clauses.{Literal, opposite, meets, is_made_true}
use Rattle.cc_defs.specs.ClauseForms.{positive}
use Rattle.cc_defs.specs.ClauseLists.{exactly_one, pairs_denied, position_variables, positions_from}
use Rattle.cc_defs.specs.Rows.{IsRow}
use Rattle.cc_defs.specs.Rules.{upto}
use Rattle.cc_cdcl.proofs.Picking.{in_more}
use Rattle.cc_clauses.specs.RowsOf.{HasRowFrom, MeetsAll}
use Rattle.cc_cdcl.specs.LeastRows.{HasIndex, row_from, true_index}

pub map_push : {A B : Type 0} (f : A → B) (xs : List A) (x : A) → map f (xs ++ x ∷ []) ≡ map f xs ++ f x ∷ []
map_push f [] x = refl
map_push f (y ∷ ys) x = ap (λ rest. f y ∷ rest) (map_push f ys x)

in_map : {A B : Type 0} (f : A → B) (xs : List A) (x : A) → Contains xs x → Contains (map f xs) (f x)
in_map f [] x (k, within, is) = absurd (omega arith)
in_map f (y ∷ ys) x (zero, within, is) = (0, omega arith, ap f is)
in_map f (y ∷ ys) x (suc k, within, is) = in_more (f y) (map f ys) (f x) (in_map f ys x (k, omega arith, is))

-- ---- two literals of a list are denied together, in one order or the other

abbrev denied_pair : Literal → Literal → List Literal
denied_pair u v = opposite u ∷ opposite v ∷ []

pub pair_in : (literals : List Literal) (u v : Literal) → u ≢ v → Contains literals u → Contains literals v →
    Contains (pairs_denied literals) (denied_pair u v) ⊎ Contains (pairs_denied literals) (denied_pair v u)
pair_in [] u v apart (k, within, is) there = absurd (omega arith)
pair_in (first ∷ literals) u v apart (zero, within, is) (zero, low, same) = absurd (apart (sym is ∙ same))
pair_in (first ∷ literals) u v apart (zero, within, is) (suc j, low, same) =
    inl (Contains-append_left (map (denied_pair first) literals) (pairs_denied literals) (denied_pair u v)
    (subst (λ (w : Literal). Contains (map (denied_pair first) literals) (denied_pair w v)) is (in_map (denied_pair first) literals v (j, omega arith, same))))
pair_in (first ∷ literals) u v apart (suc k, within, is) (zero, low, same) =
    inr (Contains-append_left (map (denied_pair first) literals) (pairs_denied literals) (denied_pair v u)
    (subst (λ (w : Literal). Contains (map (denied_pair first) literals) (denied_pair w u)) same (in_map (denied_pair first) literals u (k, omega arith, is))))
pair_in (first ∷ literals) u v apart (suc k, within, is) (suc j, low, same) = elim (pair_in literals u v apart (k, omega arith, is) (j, omega arith, same)) [
  | inl here ↦ inl (Contains-append_right (map (denied_pair first) literals) (pairs_denied literals) (denied_pair u v) here)
  | inr here ↦ inr (Contains-append_right (map (denied_pair first) literals) (pairs_denied literals) (denied_pair v u) here)
]

pub variable_in : (first size value : ℕ) → value < size → Contains (position_variables first size) (positive (first + value))
variable_in first size value within = in_map (λ value. positive (first + value)) (upto size) value (in_upto size value within)
  where
    in_upto : (n k : ℕ) → k < n → Contains (upto n) k
    in_upto zero k low = absurd (omega arith)
    in_upto (suc n) k low = elim (eqb_tells k n) [
      | inl same ↦ subst (λ (m : ℕ). Contains (upto (suc n)) m) (sym (same.1)) (Contains-push (upto n) n)
      | inr other ↦ let apart : k ≢ n = other.1 in Contains-append_left (upto n) (n ∷ []) k (in_upto n k (omega arith))
    ]

-- ---- one value of a position is true

or_cases : (p q : Bool) → (p || q) ≡ true → (p ≡ true) ⊎ (q ≡ true)
or_cases true q e = inl refl
or_cases false q e = inr e

some_true : (assignment : ℕ → Bool) (first size : ℕ) → IsTrue (meets assignment (position_variables first size)) → (value : ℕ) × (value < size) × (assignment (first + value) ≡ true)
some_true assignment first zero met = cc
some_true assignment first (suc size) met =
    elim (or_cases (meets assignment (position_variables first size)) _
    (sym (list_any-append (is_made_true assignment) (position_variables first size) (positive (first + size) ∷ [])) ∙
    ap (meets assignment) (sym (map_push (λ value. positive (first + value)) (upto size) size)) ∙ met)) [
      | inl before ↦ let (value, low, is) = some_true assignment first size before in (value, omega arith, is)
      | inr last ↦ (size, omega arith, by (assignment (first + size)) last)
    ]
  where
    by : (b : Bool) → (b || false) ≡ true → b ≡ true
    by true e = refl
    by false e = cc

-- the first true one is true
pub index_true : (assignment : ℕ → Bool) (size first value : ℕ) → value < size → assignment (first + value) ≡ true →
    (true_index assignment first size < size) × (assignment (first + true_index assignment first size) ≡ true)
index_true assignment zero first value low is = absurd (omega arith)
index_true assignment (suc size) first zero low is =
    let here : assignment first ≡ true = ap assignment (omega arith) ∙ is in rw here (omega arith, is)
index_true assignment (suc size) first (suc value) low is = by (assignment first) refl (index_true assignment size (first + 1) value (omega arith) (ap assignment (omega arith) ∙ is))
  where
    by : (b : Bool) → assignment first ≡ b → (true_index assignment (first + 1) size < size) × (assignment (first + 1 + true_index assignment (first + 1) size) ≡ true) →
        (true_index assignment first (suc size) < suc size) × (assignment (first + true_index assignment first (suc size)) ≡ true)
    by true e rest = rw e (omega arith, ap assignment (omega arith) ∙ e)
    by false e rest = rw e (omega (arith, rest.0), ap assignment (omega arith) ∙ rest.1)

not_two : (assignment : ℕ → Bool) (u v : ℕ) → assignment u ≡ true → assignment v ≡ true → IsTrue (meets assignment (denied_pair (positive u) (positive v))) → ⊥
not_two assignment u v e f met = let both = rw (e, f) at met in cc

pub one_value : (assignment : ℕ → Bool) (first size : ℕ) → MeetsAll assignment (exactly_one (position_variables first size)) →
    (true_index assignment first size < size) × HasIndex first size assignment (true_index assignment first size)
one_value assignment first size all = (there.0, each)
  where
    there : (true_index assignment first size < size) × (assignment (first + true_index assignment first size) ≡ true)
    there = let (value, low, is) = some_true assignment first size (all (position_variables first size) (0, omega arith, refl)) in index_true assignment size first value low is

    pair : (u v : ℕ) → assignment u ≡ true → assignment v ≡ true → Contains (pairs_denied (position_variables first size)) (denied_pair (positive u) (positive v)) → ⊥
    pair u v e f (k, within, is) = not_two assignment u v e f (all (denied_pair (positive u) (positive v)) (suc k, omega arith, is))

    alone : (value : ℕ) → value < size → value ≢ true_index assignment first size → (b : Bool) → assignment (first + value) ≡ b → b ≡ false
    alone value low apart false is = refl
    alone value low apart true is =
        absurd (elim (pair_in (position_variables first size) (positive (first + value)) (positive (first + true_index assignment first size))
        (λ e. let same : first + value ≡ first + true_index assignment first size = ap (λ (l : Literal). l.variable) e in apart (omega arith))
        (variable_in first size value low) (variable_in first size (true_index assignment first size) there.0)) [
          | inl here ↦ pair (first + value) (first + true_index assignment first size) is there.1 here
          | inr here ↦ pair (first + true_index assignment first size) (first + value) there.1 is here
        ])

    each : HasIndex first size assignment (true_index assignment first size)
    each value low = elim (eqb_tells (true_index assignment first size) value) [
      | inl same ↦ ap (λ (n : ℕ). assignment (first + n)) (sym (same.1)) ∙ there.1 ∙ sym (same.0)
      | inr other ↦ alone value low (λ e. other.1 (sym e)) (assignment (first + value)) refl ∙ sym (other.0)
    ]

pub has_row : (assignment : ℕ → Bool) (first : ℕ) (sizes : List ℕ) → MeetsAll assignment (positions_from first sizes) →
    IsRow sizes (row_from first sizes assignment) × HasRowFrom first sizes assignment (row_from first sizes assignment)
has_row assignment first [] all = (tt, tt)
has_row assignment first (size ∷ sizes) all =
    let one = one_value assignment first size (λ clause here. all clause (Contains-append_left (exactly_one (position_variables first size)) (positions_from (first + size) sizes) clause here)) in
    let rest = has_row assignment (first + size) sizes (λ clause here. all clause (Contains-append_right (exactly_one (position_variables first size)) (positions_from (first + size) sizes) clause here)) in
    ((one.0, rest.0), (one.1, rest.1))
