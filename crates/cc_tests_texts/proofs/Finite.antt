-- Whether a row is a model is decided by going through all rows.
use Rattle.std.proofs.Common.{◌≡◌, ◌<◌, ℕ, Bool, true, false, not, ◌&&◌, ◌||◌, nat_lt, nat_eq, List, [], ◌∷◌, zero, suc, refl, None}
use Rattle.std.specs.Bool.{IsTrue, IsFalse, Decides}
use Rattle.std.specs.List.{Contains, list_all}
use Rattle.std.specs.List.Sorted.{IsStrictlySortedBy}
use Rattle.std.specs.Cmp.Lexicographic.{pointwise}
use Rattle.std.proofs.lemmas.Bool.Decides.{Decides-ltb, Decides-and, Decides-like, Decides-not, Decides-below_and, Decides-by_and, Decides-by_or}
use Rattle.std.proofs.lemmas.Slice.Eq.{bytes_eq-Decides}
use Rattle.std.proofs.lemmas.List.Elements.{All-contains, Contains-from_at}
use Rattle.cc_defs.specs.Rows.{IsRow, row_cmp}
use Rattle.cc_defs.specs.Description.{Description, sizes_at}
use Rattle.cc_defs.specs.Histories.{IsListing, condition_holds}
use Rattle.cc_defs.specs.Paths.{IsTransition, IsPath, window}
use Rattle.cc_defs.specs.Resolved.{Query}
use Rattle.cc_defs.specs.Rules.{rules_at}
use Rattle.cc_defs.specs.Theories.{Rule, IsModel, satisfies, reduct}

abbrev pub is_row : List ℕ → List ℕ → Bool
is_row [] [] = true
is_row (size ∷ sizes) (index ∷ row) = nat_lt index size && is_row sizes row
is_row [] (index ∷ row) = false
is_row (size ∷ sizes) [] = false

pub Decides-is_row : (sizes row : List ℕ) → Decides (is_row sizes row) (IsRow sizes row)
Decides-is_row [] [] = (λ _. tt, λ _. refl)
Decides-is_row (size ∷ sizes) (index ∷ row) = Decides-and (nat_lt index size) (is_row sizes row) (Decides-ltb index size) (Decides-is_row sizes row)
Decides-is_row [] (index ∷ row) = (λ same. cc, λ none. absurd none)
Decides-is_row (size ∷ sizes) [] = (λ same. cc, λ none. absurd none)

abbrev pub each_index : ℕ → (ℕ → Bool) → Bool
each_index zero test = true
each_index (suc n) test = test n && each_index n test

-- whether each row of these sizes passes
abbrev pub each_row : List ℕ → (List ℕ → Bool) → Bool
each_row [] test = test []
each_row (size ∷ sizes) test = each_index size (λ index. each_row sizes (λ row. test (index ∷ row)))

at_empty : (P : List ℕ → Type 0) → P [] → (row : List ℕ) → IsRow [] row → P row
at_empty P holds [] is = holds
at_empty P holds (index ∷ row) is = absurd is

with_first : (P : List ℕ → Type 0) (size : ℕ) (sizes : List ℕ) → ((index : ℕ) → index < size → (row : List ℕ) → IsRow sizes row → P (index ∷ row)) →
    (row : List ℕ) → IsRow (size ∷ sizes) row → P row
with_first P size sizes all [] is = absurd is
with_first P size sizes all (index ∷ row) is = all index is.0 row is.1

pub Decides-each_row : (P : List ℕ → Type 0) (sizes : List ℕ) (test : List ℕ → Bool) → ((row : List ℕ) → Decides (test row) (P row)) →
    Decides (each_row sizes test) ((row : List ℕ) → IsRow sizes row → P row)
Decides-each_row P [] test each = (λ passes. at_empty P ((each []).0 passes), λ all. (each []).1 (all [] tt))
Decides-each_row P (size ∷ sizes) test each =
    Decides-like (each_index size (λ index. each_row sizes (λ row. test (index ∷ row))))
    (with_first P size sizes) (λ all index below row is. all (index ∷ row) (below, is))
    (Decides-below_and (λ index. each_row sizes (λ row. test (index ∷ row))) (λ index. (row : List ℕ) → IsRow sizes row → P (index ∷ row))
    (λ n. each_index n (λ index. each_row sizes (λ row. test (index ∷ row))))
    (λ index. Decides-each_row (λ row. P (index ∷ row)) sizes (λ row. test (index ∷ row)) (λ row. each (index ∷ row))) refl (λ _. refl) size)

abbrev pub implies : Bool → Bool → Bool
implies true b = b
implies false b = true

pub Decides-implies : (Q : Type 0) (a b : Bool) → Decides b Q → Decides (implies a b) (IsTrue a → Q)
Decides-implies Q true b decides = (λ h _. decides.0 h, λ f. decides.1 (f refl))
Decides-implies Q false b decides = (λ _ same. cc, λ _. refl)

abbrev pub is_only : List ℕ → List Rule → List ℕ → Bool
is_only sizes rules row = each_row sizes (λ other. implies (satisfies other (reduct rules row)) (pointwise nat_eq other row))

abbrev pub is_model : List ℕ → List Rule → List ℕ → Bool
is_model sizes rules row = is_row sizes row && (satisfies row (reduct rules row) && is_only sizes rules row)

pub Decides-is_model : (sizes : List ℕ) (rules : List Rule) (row : List ℕ) → Decides (is_model sizes rules row) (IsModel sizes rules row)
Decides-is_model sizes rules row =
    Decides-like (is_model sizes rules row)
    (λ h. record { interprets = h.0; satisfied = h.1.0; only = h.1.1 })
    (λ model. (model.interprets, (model.satisfied, model.only)))
    (Decides-and (is_row sizes row) (satisfies row (reduct rules row) && is_only sizes rules row) (Decides-is_row sizes row)
    (Decides-and (satisfies row (reduct rules row)) (is_only sizes rules row) ((λ h. h), (λ h. h))
    (Decides-each_row (λ other. IsTrue (satisfies other (reduct rules row)) → other ≡ row) sizes
    (λ other. implies (satisfies other (reduct rules row)) (pointwise nat_eq other row))
    (λ other. Decides-implies (other ≡ row) (satisfies other (reduct rules row)) (pointwise nat_eq other row) (bytes_eq-Decides other row)))))

pub model : (sizes : List ℕ) (rules : List Rule) (row : List ℕ) → IsTrue (is_model sizes rules row) → IsModel sizes rules row
model sizes rules row passes = (Decides-is_model sizes rules row).0 passes

pub no_model : (sizes : List ℕ) (rules : List Rule) (row : List ℕ) → IsFalse (is_model sizes rules row) → IsModel sizes rules row → ⊥
no_model sizes rules row fails is = let passes = (Decides-is_model sizes rules row).1 is in cc

-- none of the rows is a model
pub none : (sizes : List ℕ) (rules : List Rule) → IsTrue (each_row sizes (λ row. not (is_model sizes rules row))) → (row : List ℕ) → IsModel sizes rules row → ⊥
none sizes rules passes row is =
    (Decides-each_row (λ row. IsModel sizes rules row → ⊥) sizes (λ row. not (is_model sizes rules row))
    (λ row. Decides-not (is_model sizes rules row) (Decides-is_model sizes rules row))).0 passes row is.interprets is

-- whether a row is a path of one step or more
abbrev pub is_path : Description → ℕ → List ℕ → Bool
is_path d n row = is_row (sizes_at d (suc n)) row && each_index (suc n) (λ step. is_model (sizes_at d 1) (rules_at d 1) (window d row step))

pub Decides-is_path : (d : Description) (n : ℕ) (row : List ℕ) → Decides (is_path d n row) (IsPath d (suc n) row)
Decides-is_path d n row =
    let at_step = λ (step : ℕ). is_model (sizes_at d 1) (rules_at d 1) (window d row step) in
    Decides-and (is_row (sizes_at d (suc n)) row) (each_index (suc n) at_step) (Decides-is_row (sizes_at d (suc n)) row)
    (Decides-below_and at_step (λ step. IsTransition d (window d row step)) (λ steps. each_index steps at_step)
    (λ step. Decides-is_model (sizes_at d 1) (rules_at d 1) (window d row step)) refl (λ _. refl) (suc n))

pub path : (d : Description) (n : ℕ) (row : List ℕ) → IsTrue (is_path d n row) → IsPath d (suc n) row
path d n row passes = (Decides-is_path d n row).0 passes

pub no_path : (d : Description) (n : ℕ) (row : List ℕ) → IsFalse (is_path d n row) → IsPath d (suc n) row → ⊥
no_path d n row fails is = let passes = (Decides-is_path d n row).1 is in cc

-- The histories of a query without a claim and without a key.
abbrev pub is_history : Description → Query → ℕ → List ℕ → Bool
is_history d q n row = is_path d n row && list_all (condition_holds d (suc n) row) q.conditions

abbrev pub is_in : List (List ℕ) → List ℕ → Bool
is_in [] row = false
is_in (first ∷ rows) row = pointwise nat_eq first row || is_in rows row

shows_in : (rows : List (List ℕ)) (row : List ℕ) → IsTrue (is_in rows row) → Contains rows row
shows_in rows row passes = Contains-from_at rows row
    ((Decides-by_or (λ first. pointwise nat_eq first row) (λ first. first ≡ row) (λ rows. is_in rows row) (λ first. bytes_eq-Decides first row) refl (λ _ _. refl) rows).0 passes)

member_passes : (test : List ℕ → Bool) (rows : List (List ℕ)) (row : List ℕ) → IsTrue (list_all test rows) → Contains rows row → IsTrue (test row)
member_passes test rows row passes c = All-contains (λ row. IsTrue (test row)) rows row
    ((Decides-by_and test (λ row. IsTrue (test row)) (list_all test) (λ row. ((λ h. h), (λ h. h))) refl (λ _ _. refl) rows).0 passes) c

pub listing : (d : Description) (q : Query) (n : ℕ) (rows : List (List ℕ)) → q.claim ≡ None → IsStrictlySortedBy row_cmp rows →
    IsTrue (list_all (is_history d q n) rows) → IsTrue (each_row (sizes_at d (suc n)) (λ row. implies (is_history d q n row) (is_in rows row))) →
    IsListing d q (suc n) None rows
listing d q n rows no_claim ascending each all = record {
  ascending = ascending;
  members = λ row. (
    (λ c. let passes = (both row).0 (member_passes (is_history d q n) rows row each c) in
        record { path = passes.0; meets = record { conditions = passes.1; claim = rw no_claim tt }; after = tt }),
    (λ history. shows_in rows row
        ((Decides-each_row (λ row. IsTrue (is_history d q n row) → IsTrue (is_in rows row)) (sizes_at d (suc n))
        (λ row. implies (is_history d q n row) (is_in rows row))
        (λ row. Decides-implies (IsTrue (is_in rows row)) (is_history d q n row) (is_in rows row) ((λ h. h), (λ h. h)))).0
        all row history.path.0 ((both row).1 (history.path, history.meets.conditions)))),
  );
}
  where
    both : (row : List ℕ) → Decides (is_history d q n row) (IsPath d (suc n) row × IsTrue (list_all (condition_holds d (suc n) row) q.conditions))
    both row = Decides-and (is_path d n row) (list_all (condition_holds d (suc n) row) q.conditions) (Decides-is_path d n row) ((λ h. h), (λ h. h))
