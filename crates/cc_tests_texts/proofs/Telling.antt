-- Whether a row is a history of a query, with a claim or without, is decided by going through all rows; so is whether there is any.
use Rattle.std.proofs.Common.{◌≡◌, ℕ, Bool, true, false, not, ◌&&◌, ◌||◌, nat_eq, List, [], ◌∷◌, zero, suc, refl, sym, inl, inr, ◌⊎◌, Option, Some, None, arith, subst}
use Rattle.std.specs.Bool.{IsTrue, IsFalse, Decides}
use Rattle.std.specs.Option.{IfSome}
use Rattle.std.specs.List.{Contains, list_all}
use Rattle.std.specs.List.Sorted.{IsStrictlySortedBy}
use Rattle.std.specs.Cmp.Lexicographic.{pointwise}
use Rattle.std.proofs.lemmas.Bool.Decides.{Decides-and, Decides-or, Decides-not, Decides-like}
use Rattle.std.proofs.lemmas.Slice.Eq.{bytes_eq-Decides}
use Rattle.cc_defs.specs.Rows.{IsRow, row_cmp, IsBelow}
use Rattle.cc_defs.specs.Description.{Description, sizes_at}
use Rattle.cc_defs.specs.Histories.{IsHistory, AreFirst, condition_holds}
use Rattle.cc_defs.specs.Paths.{IsPath}
use Rattle.cc_defs.specs.Resolved.{Condition, Query}
use Rattle.cc_defs.specs.Rules.{rules_at}
use Rattle.cc_defs.specs.Runs.{HasNone, HasSome}
use Rattle.cc_tests_texts.proofs.Deciding.{is_less, less-Decides}
use Rattle.cc_tests_texts.proofs.Finite.{each_row, Decides-each_row, is_model, Decides-is_model, is_path, Decides-is_path, implies, Decides-implies}

abbrev pub is_path_at : Description → ℕ → List ℕ → Bool
is_path_at d zero row = is_model (sizes_at d 0) (rules_at d 0) row
is_path_at d (suc n) row = is_path d n row

path-Decides : (d : Description) (horizon : ℕ) (row : List ℕ) → Decides (is_path_at d horizon row) (IsPath d horizon row)
path-Decides d zero row = Decides-is_model (sizes_at d 0) (rules_at d 0) row
path-Decides d (suc n) row = Decides-is_path d n row

row_of_path : (d : Description) (horizon : ℕ) (row : List ℕ) → IsPath d horizon row → IsRow (sizes_at d horizon) row
row_of_path d zero row path = path.interprets
row_of_path d (suc n) row path = path.0

abbrev pub is_denied : Description → ℕ → List ℕ → Option Condition → Bool
is_denied d horizon row None = true
is_denied d horizon row (Some claim) = not (condition_holds d horizon row claim)

denied-Decides : (d : Description) (horizon : ℕ) (row : List ℕ) (claim : Option Condition) →
    Decides (is_denied d horizon row claim) (IfSome claim (λ claim. IsFalse (condition_holds d horizon row claim)))
denied-Decides d horizon row None = ((λ h. tt), (λ h. refl))
denied-Decides d horizon row (Some claim) = by (condition_holds d horizon row claim)
  where
    by : (b : Bool) → Decides (not b) (IsFalse b)
    by true = ((λ h. absurd cc), (λ h. absurd cc))
    by false = ((λ h. refl), (λ h. refl))

abbrev pub is_told : Description → Query → ℕ → List ℕ → Bool
is_told d q horizon row = is_path_at d horizon row && (list_all (condition_holds d horizon row) q.conditions && is_denied d horizon row q.claim)

told-Decides : (d : Description) (q : Query) (horizon : ℕ) (row : List ℕ) → Decides (is_told d q horizon row) (IsHistory d q horizon None row)
told-Decides d q horizon row =
    Decides-like (is_told d q horizon row)
    (λ h. record { path = h.0; meets = record { conditions = h.1.0; claim = h.1.1 }; after = tt })
    (λ history. (history.path, (history.meets.conditions, history.meets.claim)))
    (Decides-and (is_path_at d horizon row) (list_all (condition_holds d horizon row) q.conditions && is_denied d horizon row q.claim) (path-Decides d horizon row)
    (Decides-and (list_all (condition_holds d horizon row) q.conditions) (is_denied d horizon row q.claim) ((λ h. h), (λ h. h)) (denied-Decides d horizon row q.claim)))

none_in_empty : (row : List ℕ) → Contains [] row → ⊥
none_in_empty row (k, below, is) = omega arith

pub none_there : (d : Description) (q : Query) (horizon : ℕ) → IsTrue (each_row (sizes_at d horizon) (λ row. not (is_told d q horizon row))) → HasNone d q horizon
unfolding IsStrictlySortedBy
none_there d q horizon passes = record {
  ascending = tt;
  members = λ row. (
    (λ c. absurd (none_in_empty row c)),
    (λ history. absurd ((Decides-each_row (λ row. IsHistory d q horizon None row → ⊥) (sizes_at d horizon) (λ row. not (is_told d q horizon row))
        (λ row. Decides-not (is_told d q horizon row) (told-Decides d q horizon row))).0 passes row (row_of_path d horizon row history.path) history)),
  );
}

pub history_there : (d : Description) (q : Query) (horizon : ℕ) (row : List ℕ) → IsTrue (is_told d q horizon row) → IsHistory d q horizon None row
history_there d q horizon row passes = (told-Decides d q horizon row).0 passes

pub some_there : (d : Description) (q : Query) (horizon : ℕ) (row : List ℕ) → IsTrue (is_told d q horizon row) → HasSome d q horizon
some_there d q horizon row passes none = none_in_empty row ((none.members row).1 (history_there d q horizon row passes))

only_in : (row other : List ℕ) → Contains (row ∷ []) other → other ≡ row
only_in row other (zero, below, is) = sym is
only_in row other (suc k, below, is) = absurd (omega arith)

-- the least history, where every other one is above it
pub first_there : (d : Description) (q : Query) (horizon : ℕ) (row : List ℕ) → IsTrue (is_told d q horizon row) →
    IsTrue (each_row (sizes_at d horizon) (λ other. implies (is_told d q horizon other) (pointwise nat_eq other row || is_less (row_cmp row other)))) →
    AreFirst d q horizon None (row ∷ [])
unfolding IsStrictlySortedBy
first_there d q horizon row passes all = record {
  ascending = (tt, tt);
  each = λ other c. by_same other (only_in row other c);
  others = λ other history.
      elim ((Decides-each_row (λ other. IsTrue (is_told d q horizon other) → (other ≡ row) ⊎ IsBelow row other) (sizes_at d horizon)
      (λ other. implies (is_told d q horizon other) (pointwise nat_eq other row || is_less (row_cmp row other)))
      (λ other. Decides-implies ((other ≡ row) ⊎ IsBelow row other) (is_told d q horizon other) (pointwise nat_eq other row || is_less (row_cmp row other))
      (Decides-or (pointwise nat_eq other row) (is_less (row_cmp row other)) (bytes_eq-Decides other row) (less-Decides (row_cmp row other))))).0
      all other (row_of_path d horizon other history.path) ((told-Decides d q horizon other).1 history)) [
        | inl same ↦ inl (0, omega arith, sym same)
        | inr above ↦ inr (λ told c. subst (λ (r : List ℕ). IsBelow r other) (sym (only_in row told c)) above)
      ];
}
  where
    by_same : (other : List ℕ) → other ≡ row → IsHistory d q horizon None other
    by_same other same = subst (λ (r : List ℕ). IsHistory d q horizon None r) (sym same) (history_there d q horizon row passes)

-- where there is none, none is the first
pub none_are_first : (d : Description) (q : Query) (horizon : ℕ) → HasNone d q horizon → AreFirst d q horizon None []
none_are_first d q horizon none = record {
  ascending = none.ascending;
  each = λ row c. (none.members row).0 c;
  others = λ row history. inl ((none.members row).1 history);
}
