-- The last horizon of a run, by its lines and by how long its text is.
use Rattle.std.proofs.Common.{◌≡◌, ◌∙◌, ℕ, ◌+◌, ◌<◌, false, List, [], ◌∷◌, ◌++◌, length, flat_map, Option, Some, None, refl, sym, subst, ap, ap₂, arith, append-nil}
use Rattle.std.specs.Prelude.{IfSome, is_some}
use Rattle.cc_defs.specs.declared.event.Ending.{Ending}
use Rattle.cc_defs.specs.declared.event.Ending.TheVariants as endings
use Rattle.cc_defs.specs.declared.log.EndWord.{EndWord}
use Rattle.cc_defs.specs.declared.log.EndWord.TheVariants as words
use Rattle.cc_defs.specs.Description.{Description}
use Rattle.cc_defs.specs.Histories.{AreFirstOf, IsHistory}
use Rattle.cc_defs.specs.Resolved.{Query}
use Rattle.cc_defs.specs.Runs.{Ask, Step, Section, Horizon, Histories, Conditions, Claim, Failure, EndsWith, IsTrueOf, MayEndWithin, TellsHistories, denied_rows, horizon_events, key_row, optional, row_told, rows_of, section_events}
use Rattle.cc_lists.proofs.LinesRead.{IsAlike}
use Rattle.cc_query.proofs.HorizonsAlike.{AreAlike, other_word, same_section, same_silent}
use Rattle.cc_query.proofs.SameRows.{same_next}
use Rattle.cc_query.proofs.TextSizes.{ending_events, failed_longer, section_longer, size}

same_rows : (one other : Section) (last : Option (List ℕ)) → IsAlike one other → one.last ≡ last → rows_of one ≡ denied_rows other ++ optional last
same_rows one other last alike is =
    ap₂ (λ (steps : List Step) (row : Option (List ℕ)). flat_map row_told steps ++ optional row) alike.0 is

module _ (d : Description) (q : Query) (ask : Ask) (at : ℕ) where
  abbrev IsRow : List ℕ → Type 0
  IsRow = IsHistory d q at (key_row ask)

  -- a section that ended with `found` told its last history
  found_last : (section : Section) → TellsHistories d q ask at section → EndsWith words.Found section → section.last ≡ None → ⊥
  found_last section tells found none =
      let enough : ask.count ≡ Some (length (rows_of section)) = tells.enough found in
      let denied : length (denied_rows section) < length (rows_of section) =
      subst (λ (count : Option ℕ). IfSome count (λ most. length (denied_rows section) < most)) enough tells.denied in
      let all : length (rows_of section) ≡ length (denied_rows section) =
      ap (λ (last : Option (List ℕ)). length (denied_rows section ++ optional last)) none ∙ ap (λ (rows : List (List ℕ)). length rows) (append-nil (denied_rows section)) in
      omega (arith, denied, all)

  -- no ending comes before the end word
  unended : (section : Section) (ending : Ending) → section.word ≡ None → MayEndWithin ask at (Histories section) ending → ⊥
  unended section (endings.Complete horizon listed) open_still ends = let word = sym open_still ∙ ends.2 in absurd cc
  unended section (endings.Asked horizon listed) open_still ends = let word = sym open_still ∙ ends.2 in absurd cc
  unended section (endings.Spent horizon listed) open_still ends = let word = sym open_still ∙ ends.2 in absurd cc
  unended section ending open_still ends = absurd ends

  unended_size : (section : Section) (ending : Option Ending) → section.word ≡ None → IfSome ending (MayEndWithin ask at (Histories section)) →
      size d (ending_events ending) ≡ 0
  unended_size section None open_still ends = refl
  unended_size section (Some ending) open_still ends = absurd (unended section ending open_still ends)

  -- of two sections with the same lines and as much text it is not so that one told a last history, and the other did not
  not_longer : (one other : Section) (row : List ℕ) (word : Option EndWord) (ending last : Option Ending) → other.word ≡ word → IsAlike one other →
      TellsHistories d q ask at one → TellsHistories d q ask at other → IfSome ending (MayEndWithin ask at (Histories one)) → one.last ≡ None → other.last ≡ Some row →
      size d (section_events false at one) + size d (ending_events ending) ≡ size d (section_events false at other) + size d (ending_events last) → ⊥
  not_longer one other row (Some word) ending last is alike tells other_tells ends none some same =
      let found = other_tells.undenied (ap (λ (o : Option (List ℕ)). is_some o) some) (ap (λ (o : Option EndWord). is_some o) is) in
      found_last one tells (alike.1 ∙ found) none
  not_longer one other row None ending last is alike tells other_tells ends none some same =
      let longer = section_longer d false at one other row alike none some in
      let unsaid = unended_size one ending (alike.1 ∙ is) ends in
      omega (arith, longer, unsaid, same)

  alike_back : (one other : Section) → IsAlike one other → IsAlike other one
  alike_back one other alike = (sym alike.0, sym alike.1)

  same_last : (one other : Section) (row last : Option (List ℕ)) (ending behind : Option Ending) → one.last ≡ row → other.last ≡ last → IsAlike one other →
      TellsHistories d q ask at one → TellsHistories d q ask at other →
      IfSome ending (MayEndWithin ask at (Histories one)) → IfSome behind (MayEndWithin ask at (Histories other)) →
      size d (section_events false at one) + size d (ending_events ending) ≡ size d (section_events false at other) + size d (ending_events behind) →
      one.last ≡ other.last
  same_last one other None None ending behind is other_is alike tells other_tells ends other_ends same = is ∙ sym other_is
  same_last one other None (Some last) ending behind is other_is alike tells other_tells ends other_ends same =
      absurd (not_longer one other last other.word ending behind refl alike tells other_tells ends is other_is same)
  same_last one other (Some row) None ending behind is other_is alike tells other_tells ends other_ends same =
      absurd (not_longer other one row one.word behind ending refl (alike_back one other alike) other_tells tells other_ends other_is is (sym same))
  same_last one other (Some row) (Some last) ending behind is other_is alike tells other_tells ends other_ends same =
      let here : AreFirstOf IsRow (denied_rows other ++ row ∷ []) =
      subst (λ (rows : List (List ℕ)). AreFirstOf IsRow rows) (same_rows one other (Some row) alike is) tells.first in
      let there : AreFirstOf IsRow (denied_rows other ++ last ∷ []) =
      subst (λ (rows : List (List ℕ)). AreFirstOf IsRow rows) (same_rows other other (Some last) (refl, refl) other_is) other_tells.first in
      is ∙ ap (λ (r : List ℕ). Some r) (same_next IsRow (denied_rows other) row last here there) ∙ sym other_is

  -- ---- claims

  failing_size : (conditions claim : Section) (ending : Option Ending) → EndsWith words.Found claim → IfSome ending (MayEndWithin ask at (Claim conditions claim)) →
      size d (ending_events ending) ≡ 0
  failing_size conditions claim None found ends = refl
  failing_size conditions claim (Some (endings.Spent horizon listed)) found ends =
      let word = other_word claim words.Found words.Spent found ends.2 in absurd cc
  failing_size conditions claim (Some ending) found ends = absurd ends

  not_failing : (first one second other : Section) (row : List ℕ) (ending last : Option Ending) → Claim first one ≡ Claim second other → EndsWith words.Found one →
      IfSome ending (MayEndWithin ask at (Claim first one)) →
      size d (horizon_events at (Claim first one)) + size d (ending_events ending)
      ≡ size d (horizon_events at (Failure second other row)) + size d (ending_events last) → ⊥
  not_failing first one second other row ending last alike found ends same =
      let longer = failed_longer d at second other row in
      let as_long = ap (λ (h : Horizon). size d (horizon_events at h)) alike in
      let unsaid = failing_size first one ending found ends in
      omega (arith, longer, as_long, unsaid, same)

  pub horizons_same : (one other : Horizon) (ending last : Option Ending) → IsTrueOf d q ask at one → IsTrueOf d q ask at other →
      IfSome ending (MayEndWithin ask at one) → IfSome last (MayEndWithin ask at other) → AreAlike one other →
      size d (horizon_events at one) + size d (ending_events ending) ≡ size d (horizon_events at other) + size d (ending_events last) → one ≡ other
  horizons_same (Histories one) (Histories other) ending last is other_is ends other_ends alike same =
      ap (λ (s : Section). Histories s) (same_section one other alike
      (same_last one other one.last other.last ending last refl refl alike is.1 other_is.1 ends other_ends same))
  horizons_same (Conditions one) (Conditions other) ending last is other_is ends other_ends alike same =
      ap (λ (s : Section). Conditions s) (same_silent one other alike is.1.silent other_is.1.silent)
  horizons_same (Claim first one) (Claim second other) ending last is other_is ends other_ends alike same =
      ap₂ (λ (c s : Section). Claim c s) (same_silent first second alike.0 is.1.silent other_is.1.silent) (same_silent one other alike.1 is.3.silent other_is.3.silent)
  horizons_same (Claim first one) (Failure second other row) ending last is other_is ends other_ends alike same =
      absurd (not_failing first one second other row ending last
      (ap₂ (λ (c s : Section). Claim c s) (same_silent first second alike.0 is.1.silent other_is.1.silent) (same_silent one other alike.1 is.3.silent other_is.3.silent))
      (alike.1.1 ∙ other_is.4) ends same)
  horizons_same (Failure first one row) (Claim second other) ending last is other_is ends other_ends alike same =
      absurd (not_failing second other first one row last ending
      (sym (ap₂ (λ (c s : Section). Claim c s) (same_silent first second alike.0 is.1.silent other_is.1.silent) (same_silent one other alike.1 is.3.silent other_is.3.silent)))
      (sym alike.1.1 ∙ is.4) other_ends (sym same))
  horizons_same (Failure first one row) (Failure second other behind) ending last is other_is ends other_ends alike same =
      ap₂ (λ (c s : Section). Failure c s row) (same_silent first second alike.0 is.1.silent other_is.1.silent) (same_silent one other alike.1 is.3.silent other_is.3.silent)
      ∙ ap (λ (r : List ℕ). Failure second other r) (same_next (IsHistory d q at None) [] row behind is.5 other_is.5)
  horizons_same one other ending last is other_is ends other_ends alike same = absurd alike
