-- Of the first candidates the histories were told: what follows for the histories.
use Rattle.std.proofs.Common.{◌≡◌, ℕ, ◌≤◌, ◌⊎◌, inl, inr, List, [], ◌∷◌, ◌++◌, length, None, sym, subst, arith}
use Rattle.std.specs.Prelude.{Contains}
use Rattle.std.specs.List.{AllByRecursion}
use Rattle.std.specs.List.Sorted.{IsStrictlySortedBy}
use Rattle.std.proofs.lemmas.List.Elements.{Contains-append_left, Contains-append_right, Contains-append_cases}
use Rattle.cc_defs.specs.Histories.{AreAllOf, AreFirstOf}
use Rattle.cc_defs.specs.Limits.{most_histories}
use Rattle.cc_defs.specs.Resolved.{Query}
use Rattle.cc_defs.specs.Rows.{IsBelow, row_cmp}
use Rattle.cc_general.specs.GeneralRuns.{AreJudged, HasNoGeneral, WentThrough}
use Rattle.cc_lists.proofs.Members.{all_append, in_cases, in_first, in_none}
use Rattle.cc_query.proofs.Rows.{first_more, first_none, not_below_itself}
use Rattle.cc_rivals.specs.Wides.{HistoriesHaveNoRivals, rivals_refusal}
use Rattle.cc_wide.specs.WideLaws.{WideDescription}
use Rattle.cc_wide.specs.WideRules.{IsCandidate, IsGeneral, IsRival}

in_all : (P : List ℕ → Type 0) (rows : List (List ℕ)) → AllByRecursion P rows → (row : List ℕ) → Contains rows row → P row
in_all P [] all row there = absurd (in_none row there)
in_all P (first ∷ rows) all row there = elim (in_cases first row rows there) [
  | inl same ↦ subst P same all.0
  | inr rest ↦ in_all P rows all.1 row rest
]

last_above : (rows : List (List ℕ)) (last : List ℕ) → IsStrictlySortedBy row_cmp (rows ++ last ∷ []) → (row : List ℕ) → Contains rows row → IsBelow row last
unfolding IsStrictlySortedBy
last_above [] last ascend row there = absurd (in_none row there)
last_above (first ∷ rows) last ascend row there = elim (in_cases first row rows there) [
  | inl same ↦ subst (λ (r : List ℕ). IsBelow r last) same
      (in_all (IsBelow first) (rows ++ last ∷ []) ascend.0 last (Contains-append_right rows (last ∷ []) last (in_first last [])))
  | inr rest ↦ last_above rows last ascend.1 row rest
]

-- a member of a list with one more behind it
one_more : (rows : List (List ℕ)) (last row : List ℕ) → Contains (rows ++ last ∷ []) row → Contains rows row ⊎ (last ≡ row)
one_more rows last row there = elim (Contains-append_cases rows (last ∷ []) row there) [
  | inl early ↦ inl early
  | inr end ↦ elim (in_cases last row [] end) [
    | inl same ↦ inr same
    | inr none ↦ absurd (in_none row none)
  ]
]

-- none was gone through yet
pub gone_none : (w : WideDescription) (q : Query) (horizon : ℕ) → WentThrough w q horizon [] []
gone_none w q horizon = record {
  first = first_none (IsCandidate w q horizon);
  few = omega arith;
  within = tt;
  judged = λ row. ((λ there. absurd (in_none row there)), (λ both. absurd (in_none row both.0)));
}

module _ (law : HistoriesHaveNoRivals) (w : WideDescription) (q : Query) (horizon : ℕ) where
  abbrev Is : List ℕ → Type 0
  Is row = IsGeneral w q horizon row

  is_candidate : (row : List ℕ) → Is row → IsCandidate w q horizon row
  is_candidate row is = ((law w q horizon row).0 is).0

  pub no_history : (row other : List ℕ) → IsRival w horizon row other → Is row → ⊥
  no_history row other rival is = ((law w q horizon row).0 is).1 other rival

  pub all_told : (rows told : List (List ℕ)) → AreAllOf (IsCandidate w q horizon) rows → AreJudged w q horizon rows told → AreFirstOf Is told → AreAllOf Is told
  all_told rows told all judged first = record {
    ascending = first.ascending;
    members = λ row. ((λ there. ((judged row).0 there).1), (λ is. (judged row).1 ((all.members row).1 (is_candidate row is), is)));
  }

  pub none_told : (rows : List (List ℕ)) → AreAllOf (IsCandidate w q horizon) rows → AreJudged w q horizon rows [] → HasNoGeneral w q horizon
  none_told rows all judged row is = in_none row ((judged row).1 ((all.members row).1 (is_candidate row is), is))

  -- ---- one candidate more

  module _ (rows told : List (List ℕ)) (row : List ℕ) (first : AreFirstOf (IsCandidate w q horizon) (rows ++ row ∷ [])) (judged : AreJudged w q horizon rows told) where
    here : Contains (rows ++ row ∷ []) row
    here = Contains-append_right rows (row ∷ []) row (in_first row [])

    pub candidate : IsCandidate w q horizon row
    candidate = first.each row here

    pub untold : Contains told row → ⊥
    untold there = not_below_itself row (last_above rows row first.ascending row ((judged row).0 there).0)

    judged_pass : (Is row → ⊥) → AreJudged w q horizon (rows ++ row ∷ []) told
    judged_pass none other = (
      (λ there. let both = (judged other).0 there in (Contains-append_left rows (row ∷ []) other both.0, both.1)),
      (λ both. elim (one_more rows row other both.0) [
        | inl early ↦ (judged other).1 (early, both.1)
        | inr same ↦ absurd (none (subst Is (sym same) both.1))
      ]),
    )

    module _ (is : Is row) where
      judged_more : AreJudged w q horizon (rows ++ row ∷ []) (told ++ row ∷ [])
      judged_more other = (
        (λ there. elim (one_more told row other there) [
          | inl early ↦ (Contains-append_left rows (row ∷ []) other ((judged other).0 early).0, ((judged other).0 early).1)
          | inr same ↦ (subst (Contains (rows ++ row ∷ [])) same here, subst Is same is)
        ]),
        (λ both. elim (one_more rows row other both.0) [
          | inl early ↦ Contains-append_left told (row ∷ []) other ((judged other).1 (early, both.1))
          | inr same ↦ subst (Contains (told ++ row ∷ [])) same (Contains-append_right told (row ∷ []) row (in_first row []))
        ]),
      )

      pub first_told : AreFirstOf Is told → AreFirstOf Is (told ++ row ∷ [])
      first_told before = first_more Is told row before is untold
          (λ other so apart. elim (first.others other (is_candidate other so)) [
            | inl there ↦ elim (one_more rows row other there) [
              | inl early ↦ absurd (apart ((judged other).1 (early, so)))
              | inr same ↦ inl (sym same)
            ]
            | inr after ↦ inr (after row here)
          ])

  -- it was gone through, too
  module _ (rows told : List (List ℕ)) (row : List ℕ) (first : AreFirstOf (IsCandidate w q horizon) (rows ++ row ∷ [])) (few : length (rows ++ row ∷ []) ≤ most_histories)
      (gone : WentThrough w q horizon rows told) (within : rivals_refusal w horizon row ≡ None) where
    gone_on : (then : List (List ℕ)) → AreJudged w q horizon (rows ++ row ∷ []) then → WentThrough w q horizon (rows ++ row ∷ []) then
    gone_on then judged = record {
      first = first;
      few = few;
      within = all_append (λ (r : List ℕ). rivals_refusal w horizon r ≡ None) rows (row ∷ []) gone.within (within, tt);
      judged = judged;
    }

    pub gone_pass : (Is row → ⊥) → WentThrough w q horizon (rows ++ row ∷ []) told
    gone_pass none = gone_on told (judged_pass rows told row first gone.judged none)

    pub gone_more : Is row → WentThrough w q horizon (rows ++ row ∷ []) (told ++ row ∷ [])
    gone_more is = gone_on (told ++ row ∷ []) (judged_more rows told row first gone.judged is)
