-- The first rows of a kind, one by one, and the listing of histories that goes on after a key.
use Rattle.std.proofs.Common.{◌≡◌, ℕ, ◌⊎◌, inl, inr, List, [], ◌∷◌, ◌++◌, Option, Some, None, sym, subst}
use Rattle.std.specs.Prelude.{Contains}
use Rattle.std.specs.List.{AllByRecursion}
use Rattle.std.specs.List.Sorted.{IsStrictlySortedBy}
use Rattle.std.proofs.lemmas.Cmp.{nat_list_cmp_total, tied_itself}
use Rattle.std.proofs.lemmas.List.Elements.{Contains-append_left, Contains-append_right, Contains-append_cases}
use Rattle.cc_defs.specs.Description.{Description}
use Rattle.cc_defs.specs.Histories.{IsHistory, IsListing, AreAllOf, AreFirst, AreFirstOf}
use Rattle.cc_defs.specs.Resolved.{Query}
use Rattle.cc_defs.specs.Rows.{row_cmp, IsBelow}
use Rattle.cc_lists.proofs.Members.{in_none, in_first, in_rest, in_cases}

abbrev pub IsAscending : List (List ℕ) → Type 0
IsAscending rows = IsStrictlySortedBy row_cmp rows

pub not_below_itself : (row : List ℕ) → IsBelow row row → ⊥
not_below_itself row below = let same = tied_itself nat_list_cmp_total row in cc

pub below_trans : (a b c : List ℕ) → IsBelow a b → IsBelow b c → IsBelow a c
below_trans a b c ab bc = nat_list_cmp_total.trans a b c ab bc

all_from_each : (low : List ℕ) (rows : List (List ℕ)) → ((row : List ℕ) → Contains rows row → IsBelow low row) → AllByRecursion (λ row. row_cmp low row ≡ Rattle.std.specs.declared.cmp.Ordering.TheVariants.Less) rows
all_from_each low [] each = tt
all_from_each low (row ∷ rows) each = (each row (in_first row rows), all_from_each low rows (λ r there. each r (in_rest row r rows there)))

each_from_all : (low : List ℕ) (rows : List (List ℕ)) → AllByRecursion (λ row. row_cmp low row ≡ Rattle.std.specs.declared.cmp.Ordering.TheVariants.Less) rows → (row : List ℕ) → Contains rows row → IsBelow low row
each_from_all low [] all row there = absurd (in_none row there)
each_from_all low (first ∷ rows) all row there = elim (in_cases first row rows there) [
  | inl same ↦ subst (λ (w : List ℕ). IsBelow low w) same all.0
  | inr rest ↦ each_from_all low rows all.1 row rest
]

-- rows that ascend, and behind them others that ascend and are above each of them
pub ascend_behind : (rows more : List (List ℕ)) → IsAscending rows → IsAscending more →
    ((row other : List ℕ) → Contains rows row → Contains more other → IsBelow row other) → IsAscending (rows ++ more)
unfolding IsStrictlySortedBy
ascend_behind [] more ascend more_ascend above = more_ascend
ascend_behind (row ∷ rows) more ascend more_ascend above = (
  all_from_each row (rows ++ more) (λ other there. elim (Contains-append_cases rows more other there) [
    | inl before ↦ each_from_all row rows ascend.0 other before
    | inr behind ↦ above row other (in_first row rows) behind
  ]),
  ascend_behind rows more ascend.1 more_ascend (λ r other there. above r other (in_rest row r rows there)),
)

last_above : (rows : List (List ℕ)) (last : List ℕ) → IsAscending (rows ++ last ∷ []) → (row : List ℕ) → Contains rows row → IsBelow row last
unfolding IsStrictlySortedBy
last_above [] last ascend row there = absurd (in_none row there)
last_above (first ∷ rows) last ascend row there = elim (in_cases first row rows there) [
  | inl same ↦ subst (λ (w : List ℕ). IsBelow w last) same
      (each_from_all first (rows ++ last ∷ []) ascend.0 last (Contains-append_right rows (last ∷ []) last (in_first last [])))
  | inr rest ↦ last_above rows last ascend.1 row rest
]

ascend_front : (rows : List (List ℕ)) (last : List ℕ) → IsAscending (rows ++ last ∷ []) → IsAscending rows
unfolding IsStrictlySortedBy
ascend_front [] last ascend = tt
ascend_front (row ∷ rows) last ascend = (
  all_from_each row rows (λ other there. each_from_all row (rows ++ last ∷ []) ascend.0 other (Contains-append_left rows (last ∷ []) other there)),
  ascend_front rows last ascend.1,
)

-- ---- one row of a kind more

module _ (Is : List ℕ → Type 0) where
  pub first_none : AreFirstOf Is []
  unfolding IsStrictlySortedBy
  first_none = record {
    ascending = tt;
    each = λ row there. absurd (in_none row there);
    others = λ row is. inr (λ told there. absurd (in_none told there));
  }

  -- the least one that was not told yet is the next
  pub first_more : (rows : List (List ℕ)) (next : List ℕ) → AreFirstOf Is rows → Is next → (Contains rows next → ⊥) →
      ((row : List ℕ) → Is row → (Contains rows row → ⊥) → (row ≡ next) ⊎ IsBelow next row) →
      AreFirstOf Is (rows ++ next ∷ [])
  unfolding IsStrictlySortedBy
  first_more rows next first is_so apart least =
      let above : (row : List ℕ) → Contains rows row → IsBelow row next = λ row there. elim (first.others next is_so) [
        | inl told ↦ absurd (apart told)
        | inr after ↦ after row there
      ] in
      record {
        ascending = ascend_behind rows (next ∷ []) first.ascending (tt, tt) (λ row other there last. elim (in_cases next other [] last) [
          | inl same ↦ subst (λ (w : List ℕ). IsBelow row w) same (above row there)
          | inr none ↦ absurd (in_none other none)
        ]);
        each = λ row there. elim (Contains-append_cases rows (next ∷ []) row there) [
          | inl told ↦ first.each row told
          | inr last ↦ elim (in_cases next row [] last) [
            | inl same ↦ subst Is same is_so
            | inr none ↦ absurd (in_none row none)
          ]
        ];
        others = λ row is. elim (first.others row is) [
          | inl told ↦ inl (Contains-append_left rows (next ∷ []) row told)
          | inr after ↦ elim (least row is (λ told. not_below_itself row (after row told))) [
            | inl same ↦ inl (subst (λ (w : List ℕ). Contains (rows ++ next ∷ []) w) (sym same) (Contains-append_right rows (next ∷ []) next (in_first next [])))
            | inr below ↦ inr (λ told there. elim (Contains-append_cases rows (next ∷ []) told there) [
              | inl early ↦ after told early
              | inr last ↦ elim (in_cases next told [] last) [
                | inl same ↦ subst (λ (w : List ℕ). IsBelow w row) same below
                | inr none ↦ absurd (in_none told none)
              ]
            ])
          ]
        ];
      }

  -- and those before the last one
  pub first_front : (rows : List (List ℕ)) (last : List ℕ) → AreFirstOf Is (rows ++ last ∷ []) → AreFirstOf Is rows
  first_front rows last first = record {
    ascending = ascend_front rows last first.ascending;
    each = λ row there. first.each row (Contains-append_left rows (last ∷ []) row there);
    others = λ row is. elim (first.others row is) [
      | inr after ↦ inr (λ told there. after told (Contains-append_left rows (last ∷ []) told there))
      | inl there ↦ elim (Contains-append_cases rows (last ∷ []) row there) [
        | inl early ↦ inl early
        | inr end ↦ elim (in_cases last row [] end) [
          | inl same ↦ inr (λ told early. subst (λ (w : List ℕ). IsBelow told w) same (last_above rows last first.ascending told early))
          | inr none ↦ absurd (in_none row none)
        ]
      ]
    ];
  }

  -- the first ones are all, where no other one is there
  pub first_are_all : (rows : List (List ℕ)) → AreFirstOf Is rows →
      ((row : List ℕ) → Is row → (Contains rows row → ⊥) → ⊥) → AreAllOf Is rows
  first_are_all rows first none = record {
    ascending = first.ascending;
    members = λ row. (
      first.each row,
      λ is. elim (first.others row is) [
        | inl told ↦ told
        | inr after ↦ absurd (none row is (λ told. not_below_itself row (after row told)))
      ],
    );
  }

-- ---- after a key

weaker : (d : Description) (q : Query) (horizon : ℕ) (key : Option (List ℕ)) (last row : List ℕ) → IsHistory d q horizon key last → IsHistory d q horizon (Some last) row →
    IsHistory d q horizon key row
weaker d q horizon None last row is history = record { path = history.path; meets = history.meets; after = tt }
weaker d q horizon (Some low) last row is history =
    record { path = history.path; meets = history.meets; after = below_trans low last row is.after history.after }

pub resumed : (d : Description) (q : Query) (horizon : ℕ) (key : Option (List ℕ)) (told : List (List ℕ)) (last : List ℕ) (later : List (List ℕ)) →
    AreFirst d q horizon key (told ++ last ∷ []) → IsListing d q horizon (Some last) later → IsListing d q horizon key ((told ++ last ∷ []) ++ later)
resumed d q horizon key told last later first listing =
    let there : Contains (told ++ last ∷ []) last = Contains-append_right told (last ∷ []) last (in_first last []) in
    let up_to : (row : List ℕ) → Contains (told ++ last ∷ []) row → (row ≡ last) ⊎ IsBelow row last = λ row in_told. elim (Contains-append_cases told (last ∷ []) row in_told) [
      | inl early ↦ inr (last_above told last first.ascending row early)
      | inr end ↦ elim (in_cases last row [] end) [ inl same ↦ inl (sym same) | inr none ↦ absurd (in_none row none) ]
    ] in
    record {
      ascending = ascend_behind (told ++ last ∷ []) later first.ascending listing.ascending (λ row other in_told in_later.
          let above : IsBelow last other = ((listing.members other).0 in_later).after in
          elim (up_to row in_told) [
            | inl same ↦ subst (λ (w : List ℕ). IsBelow w other) (sym same) above
            | inr below ↦ below_trans row last other below above
          ]);
      members = λ row. (
        (λ in_both. elim (Contains-append_cases (told ++ last ∷ []) later row in_both) [
          | inl in_told ↦ first.each row in_told
          | inr in_later ↦ weaker d q horizon key last row (first.each last there) ((listing.members row).0 in_later)
        ]),
        (λ history. elim (first.others row history) [
          | inl in_told ↦ Contains-append_left (told ++ last ∷ []) later row in_told
          | inr after ↦ Contains-append_right (told ++ last ∷ []) later row
              ((listing.members row).1 (record { path = history.path; meets = history.meets; after = after last there }))
        ]),
      );
    }
