-- The text of a row's indexes: how it is spelled and read, and that it says no two rows.
use Rattle.std.proofs.Common.{◌≡◌, ◌∙◌, ℕ, List, [], ◌∷◌, ◌++◌, map, sym, subst, ap, append_assoc, refl}
use Rattle.std.specs.Prelude.{decimal}
use Rattle.std.specs.List.{AllByRecursion, join_with_byte}
use Rattle.cc_log.specs.Fronts.{HasNoNumber, IsNumberAt}
use Rattle.cc_log.proofs.Numbers.{no_number, one_number}
use Rattle.cc_defs.specs.LogTexts.{IsShort}
use Rattle.cc_silent.specs.RivalParts.{AreIndexes, IsRowText}

-- ---- spelled

-- the indexes with a comma between each two
abbrev pub joined : List ℕ → List ℕ
joined row = join_with_byte 44 (map decimal row)

indexes_spelled : (row text : List ℕ) → AreIndexes text row → AllByRecursion IsShort row × (text ≡ joined row ++ 10 ∷ [])
indexes_spelled [] text is = absurd is
indexes_spelled (index ∷ []) text is = ((is.formed, tt), is.spelled)
indexes_spelled (index ∷ next ∷ row) text (behind, is, more) =
    let (short, spelled) = indexes_spelled (next ∷ row) behind more in (
      (is.formed, short),
      is.spelled ∙ ap (λ (t : List ℕ). decimal index ++ 44 ∷ t) spelled ∙ sym (append_assoc (decimal index) (44 ∷ joined (next ∷ row)) (10 ∷ [])),
    )

indexes_there : (index : ℕ) (row : List ℕ) → AllByRecursion IsShort (index ∷ row) → AreIndexes (joined (index ∷ row) ++ 10 ∷ []) (index ∷ row)
indexes_there index [] short = record { formed = short.0; spelled = refl; ends = refl }
indexes_there index (next ∷ row) short = (
  joined (next ∷ row) ++ 10 ∷ [],
  record { formed = short.0; spelled = append_assoc (decimal index) (44 ∷ joined (next ∷ row)) (10 ∷ []); ends = refl },
  indexes_there next row short.1,
)

pub row_spelled : (row text : List ℕ) → IsRowText text row → AllByRecursion IsShort row × (text ≡ joined row ++ 10 ∷ [])
row_spelled [] text is = (tt, is)
row_spelled (index ∷ row) text is = indexes_spelled (index ∷ row) text is

pub row_there : (row : List ℕ) → AllByRecursion IsShort row → IsRowText (joined row ++ 10 ∷ []) row
row_there [] short = refl
row_there (index ∷ row) short = indexes_there index row short

-- ---- of one row

one_indexes : (row other text : List ℕ) → AreIndexes text row → AreIndexes text other → row ≡ other
one_indexes [] other text is so = absurd is
one_indexes (i ∷ row) [] text is so = absurd so
one_indexes (i ∷ []) (j ∷ []) text is so = ap (λ (n : ℕ). n ∷ []) (one_number text i j (10 ∷ []) (10 ∷ []) is so).0
one_indexes (i ∷ []) (j ∷ m ∷ other) text is (after, so, others) = absurd (let e = (one_number text i j (10 ∷ []) (44 ∷ after) is so).1 in cc)
one_indexes (i ∷ n ∷ row) (j ∷ []) text (behind, is, more) so = absurd (let e = (one_number text i j (44 ∷ behind) (10 ∷ []) is so).1 in cc)
one_indexes (i ∷ n ∷ row) (j ∷ m ∷ other) text (behind, is, more) (after, so, others) =
    let (first, rest) = one_number text i j (44 ∷ behind) (44 ∷ after) is so in
    ap (λ (k : ℕ). k ∷ n ∷ row) first
    ∙ ap (λ (l : List ℕ). j ∷ l) (one_indexes (n ∷ row) (m ∷ other) behind more (subst (λ (t : List ℕ). AreIndexes t (m ∷ other)) (let e : after ≡ behind = cc in e) others))

-- where no number is, there is no index
pub none_at : (row text : List ℕ) → HasNoNumber text → AreIndexes text row → ⊥
none_at [] text none is = is
none_at (index ∷ []) text none is = none index (10 ∷ []) is
none_at (index ∷ next ∷ row) text none (behind, is, more) = none index (44 ∷ behind) is

pub no_feed : (row text : List ℕ) → text ≡ 10 ∷ [] → AreIndexes text row → ⊥
no_feed row text feed is = none_at row (10 ∷ []) (no_number (10 ∷ []) refl) (subst (λ (t : List ℕ). AreIndexes t row) feed is)

pub one_row : (row other text : List ℕ) → IsRowText text row → IsRowText text other → row ≡ other
one_row [] [] text is so = refl
one_row [] (index ∷ other) text is so = absurd (no_feed (index ∷ other) text is so)
one_row (index ∷ row) [] text is so = absurd (no_feed (index ∷ row) text so is)
one_row (index ∷ row) (next ∷ other) text is so = one_indexes (index ∷ row) (next ∷ other) text is so

pub no_row_text : (text : List ℕ) → (text ≡ 10 ∷ [] → ⊥) → ((row : List ℕ) → AreIndexes text row → ⊥) → (row : List ℕ) → IsRowText text row → ⊥
no_row_text text feed none [] is = feed is
no_row_text text feed none (index ∷ row) is = none (index ∷ row) is

-- ---- read index by index: behind those that were made, the rest is to be read

pub record IndexesSoFar (text made rest : List ℕ) : Type 0 where
  pub to : (more : List ℕ) → AreIndexes rest more → AreIndexes text (made ++ more)
  pub from : (row : List ℕ) → AreIndexes text row → (more : List ℕ) × (row ≡ made ++ more) × AreIndexes rest more

module _ (text made rest : List ℕ) (so_far : IndexesSoFar text made rest) where
  pub none_there : HasNoNumber rest → (row : List ℕ) → AreIndexes text row → ⊥
  none_there none row is = let (more, whole, left) = so_far.from row is in none_at more rest none left

  module _ (index : ℕ) (behind : List ℕ) (at : IsNumberAt rest index behind) where
    stopped : (behind ≡ 10 ∷ [] → ⊥) → ((next : List ℕ) → behind ≡ 44 ∷ next → ⊥) → (more : List ℕ) → AreIndexes rest more → ⊥
    stopped feed comma [] left = left
    stopped feed comma (i ∷ []) left = feed (sym (one_number rest i index (10 ∷ []) behind left at).1)
    stopped feed comma (i ∷ j ∷ more) (after, left, others) = comma after (sym (one_number rest i index (44 ∷ after) behind left at).1)

    pub stops_there : (behind ≡ 10 ∷ [] → ⊥) → ((next : List ℕ) → behind ≡ 44 ∷ next → ⊥) → (row : List ℕ) → AreIndexes text row → ⊥
    stops_there feed comma row is = let (more, whole, left) = so_far.from row is in stopped feed comma more left

    module _ (next : List ℕ) (comma : behind ≡ 44 ∷ next) where
      put : (more : List ℕ) → AreIndexes next more → AreIndexes rest (index ∷ more)
      put [] is = absurd is
      put (i ∷ more) is = (next, subst (IsNumberAt rest index) comma at, is)

      taken : (row more : List ℕ) → row ≡ made ++ more → AreIndexes rest more → (others : List ℕ) × (row ≡ (made ++ index ∷ []) ++ others) × AreIndexes next others
      taken row [] whole left = absurd left
      taken row (i ∷ []) whole left = absurd (let e = (one_number rest i index (10 ∷ []) behind left at).1 in cc)
      taken row (i ∷ j ∷ more) whole (after, left, others) =
          let (first, behind_is) = one_number rest i index (44 ∷ after) behind left at in (
            j ∷ more,
            whole ∙ ap (λ (n : ℕ). made ++ n ∷ j ∷ more) first ∙ sym (append_assoc made (index ∷ []) (j ∷ more)),
            subst (λ (t : List ℕ). AreIndexes t (j ∷ more)) (let e : after ≡ next = cc in e) others,
          )

      pub goes_on : IndexesSoFar text (made ++ index ∷ []) next
      goes_on = record {
        to = λ more is. subst (AreIndexes text) (sym (append_assoc made (index ∷ []) more)) (so_far.to (index ∷ more) (put more is));
        from = λ row is. let (more, whole, left) = so_far.from row is in taken row more whole left;
      }
