-- The next one of the first rows of a kind is determined.
use Rattle.std.proofs.Common.{◌≡◌, ℕ, ◌⊎◌, inl, inr, List, [], ◌∷◌, ◌++◌, sym, subst}
use Rattle.std.specs.Prelude.{Contains}
use Rattle.std.specs.List.Sorted.{IsStrictlySortedBy}
use Rattle.std.proofs.lemmas.List.Elements.{All-contains, Contains-append_cases, Contains-push}
use Rattle.std.proofs.lemmas.Map.Keys.{sorted_tail}
use Rattle.std.proofs.lemmas.Map.Views.{All-after_first}
use Rattle.cc_defs.specs.Histories.{AreFirstOf}
use Rattle.cc_defs.specs.Rows.{row_cmp, IsBelow}
use Rattle.cc_lists.proofs.Members.{in_cases, in_none}
use Rattle.cc_query.proofs.Rows.{below_trans, not_below_itself}

last_above : (rows : List (List ℕ)) (last : List ℕ) → IsStrictlySortedBy row_cmp (rows ++ last ∷ []) → (row : List ℕ) → Contains rows row → IsBelow row last
last_above [] last ascend row there = absurd (in_none row there)
last_above (first ∷ rows) last ascend row there = elim (in_cases first row rows there) [
  | inl same ↦ subst (λ (w : List ℕ). IsBelow w last) same
      (All-contains (IsBelow first) (rows ++ last ∷ []) last (All-after_first row_cmp first (rows ++ last ∷ []) ascend) (Contains-push rows last))
  | inr rest ↦ last_above rows last (sorted_tail row_cmp first (rows ++ last ∷ []) ascend) row rest
]

-- each of two next rows is the other, or comes after it
same_or_above : (Is : List ℕ → Type 0) (rows : List (List ℕ)) (one other : List ℕ) → AreFirstOf Is (rows ++ one ∷ []) → AreFirstOf Is (rows ++ other ∷ []) →
    (one ≡ other) ⊎ IsBelow other one
same_or_above Is rows one other first second = elim (second.others one (first.each one (Contains-push rows one))) [
  | inl told ↦ elim (Contains-append_cases rows (other ∷ []) one told) [
    | inl early ↦ absurd (not_below_itself one (last_above rows one first.ascending one early))
    | inr last ↦ elim (in_cases other one [] last) [ inl same ↦ inl (sym same) | inr none ↦ absurd (in_none one none) ]
  ]
  | inr after ↦ inr (after other (Contains-push rows other))
]

pub same_next : (Is : List ℕ → Type 0) (rows : List (List ℕ)) (one other : List ℕ) → AreFirstOf Is (rows ++ one ∷ []) → AreFirstOf Is (rows ++ other ∷ []) →
    one ≡ other
same_next Is rows one other first second = elim (same_or_above Is rows one other first second) [
  | inl same ↦ same
  | inr below ↦ elim (same_or_above Is rows other one second first) [
    | inl same ↦ sym same
    | inr above ↦ absurd (not_below_itself one (below_trans one other one above below))
  ]
]
