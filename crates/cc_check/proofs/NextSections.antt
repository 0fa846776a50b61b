-- The section that comes next is the first of the sections that are ahead.
use Rattle.std.proofs.Common.{◌≡◌, ℕ, ◌+◌, Bool, List, [], ◌∷◌, ◌++◌, length, drop, Option, Some, None, refl, sym, ap, subst, ◌∙◌, append-nil, arith}
use Rattle.std.specs.Borrow.{Bor}
use Rattle.std.specs.List.{AllByRecursion}
use Rattle.cc_defs.specs.declared.log.LogLine.{LogLine}
use Rattle.cc_defs.specs.declared.log.LogLine.TheVariants as lines
use Rattle.cc_defs.specs.declared.log.Version.{Version}
use Rattle.cc_defs.specs.LogBytes.{IsSpelled}
use Rattle.cc_defs.specs.Logs.{SectionText, AreSections, IsNoHeading}
use Rattle.cc_check.specs.declared.line.Heading.{Heading}
use Rattle.cc_check.specs.declared.sections.Section.{Section}
use Rattle.cc_check.specs.Parts.{IsFewAhead, IsInside, next_view}
use Rattle.cc_check.specs.SectionTexts.{SectionsAhead, AreAhead, AreAheadFrom, IsAheadBehind, IsTextOf}
use Rattle.cc_check.specs.Texts.{AreTexts}
use Rattle.cc_log.proofs.ConvertingLines.{one_spelled}
use Rattle.cc_check.proofs.EntryThere.{texts_there}
use Rattle.cc_check.proofs.FirstTexts.{one_list}

-- ---- where the lines of a section end

-- no such item is the first
abbrev BeginsOtherwise : {X : Type 0} → (X → Type 0) → List X → Type 0
BeginsOtherwise No [] = Unit {0}
BeginsOtherwise No (x ∷ xs) = No x → ⊥

tails : {X : Type 0} (x y : X) (xs ys : List X) → x ∷ xs ≡ y ∷ ys → xs ≡ ys
tails {X = X} x y xs ys is = ap (λ (t : List X). drop 1 t) is

module _ {X : Type 0} (No : X → Type 0) where
  one_front : (xs ys rest others : List X) → AllByRecursion No xs → AllByRecursion No ys → BeginsOtherwise No rest → BeginsOtherwise No others →
      xs ++ rest ≡ ys ++ others → (xs ≡ ys) × (rest ≡ others)
  one_front [] [] rest others none none_too begins begins_too is = (refl, is)
  one_front [] (y ∷ ys) rest others none none_too begins begins_too is = absurd (subst (BeginsOtherwise No) is begins none_too.0)
  one_front (x ∷ xs) [] rest others none none_too begins begins_too is = absurd (subst (BeginsOtherwise No) (sym is) begins_too none.0)
  one_front (x ∷ xs) (y ∷ ys) rest others none none_too begins begins_too is =
      let first : x ≡ y = cc in
      let more = one_front xs ys rest others none.1 none_too.1 begins begins_too (tails x y (xs ++ rest) (ys ++ others) is) in
      (ap (λ (z : X). z ∷ xs) first ∙ ap (λ (zs : List X). y ∷ zs) more.0, more.1)

begins_headed : (version : Version) (line : ℕ) (texts : List (List ℕ)) (sections : List SectionText) → AreSections version line texts sections →
    BeginsOtherwise (IsNoHeading version) texts
begins_headed version line texts [] nil = subst (BeginsOtherwise (IsNoHeading version)) (sym nil) tt
begins_headed version line texts (section ∷ sections) (heading, rest, is, at, spelled, none, more, same) =
    subst (BeginsOtherwise (IsNoHeading version)) (sym is) (λ none_first. none_first section.conditions section.horizon spelled)

none_left : (version : Version) (line : ℕ) (sections : List SectionText) → AreSections version line [] sections → sections ≡ []
none_left version line [] nil = refl
none_left version line (section ∷ sections) (heading, rest, is, at, spelled, none, more, same) = absurd cc

-- ---- the section that comes next

abbrev section_conditions : LogLine → Bool → Bool
section_conditions (lines.Section conditions horizon) other = conditions
section_conditions (lines.Derived clause chain) other = other
section_conditions (lines.Block row) other = other
section_conditions (lines.End word) other = other

abbrev section_horizon : LogLine → ℕ
section_horizon (lines.Section conditions horizon) = horizon
section_horizon (lines.Derived clause chain) = 0
section_horizon (lines.Block row) = 0
section_horizon (lines.End word) = 0

module _ (version : Version) (line : ℕ) (heading : Heading) (behind inside : Bor (List ℕ)) (count : ℕ) where
  abbrev section : Section
  section = record { version = version; conditions = heading.conditions; horizon = heading.horizon; line = line; bytes = inside }

  abbrev ahead_of : Option (Heading × Bor (List ℕ)) → SectionsAhead
  ahead_of next = record { version = version; line = line + 1 + count; next = next_view next }

  is_of : (first : SectionText) (text : List ℕ) → first.version ≡ version → first.line ≡ line → IsSpelled version text (lines.Section first.conditions first.horizon) →
      IsSpelled version text (lines.Section heading.conditions heading.horizon) → AreTexts version inside.now first.texts → IsTextOf section first
  is_of first text same at spelled read are =
      let one = one_spelled version text (lines.Section first.conditions first.horizon) (lines.Section heading.conditions heading.horizon) spelled read in
      record {
        version = same;
        conditions = ap (λ (l : LogLine). section_conditions l heading.conditions) one;
        horizon = ap section_horizon one;
        line = at;
        texts = are;
      }

  next_of : (next : Option (Heading × Bor (List ℕ))) → IsInside version behind.now inside.now count next → (first : SectionText) (sections : List SectionText)
      (text : List ℕ) (rest texts : List (List ℕ)) → AreTexts version behind.now texts → texts ≡ first.texts ++ rest → AllByRecursion (IsNoHeading version) first.texts →
      AreSections version (line + 1 + length first.texts) rest sections →
      AreTexts version inside.now first.texts × AreAheadFrom version (line + 1 + count) (next_view next) sections
  next_of None i first sections text rest texts are parts none more =
      let whole = one_list version behind.now texts i.texts are (subst (λ (t : List ℕ). AreTexts version t i.texts) i.parted i.are) in
      let (same, last) = one_front (IsNoHeading version) first.texts i.texts rest [] none i.none
      (begins_headed version (line + 1 + length first.texts) rest sections more) tt (sym parts ∙ whole ∙ sym (append-nil i.texts)) in (
        subst (λ (ts : List (List ℕ)). AreTexts version inside.now ts) (sym same) i.are,
        none_left version (line + 1 + length first.texts) sections
            (subst (λ (ts : List (List ℕ)). AreSections version (line + 1 + length first.texts) ts sections) last more),
      )
  next_of (Some (other, others)) i first sections text rest texts are parts none more =
      let (after, headed, join) = i.parted in
      let (outer, outer_are) = texts_there version others.now in
      let whole = one_list version behind.now texts (i.texts ++ after ∷ outer) are (join outer outer_are) in
      let (same, last) = one_front (IsNoHeading version) first.texts i.texts rest (after ∷ outer) none i.none
      (begins_headed version (line + 1 + length first.texts) rest sections more) (λ no_heading. no_heading other.conditions other.horizon headed)
      (sym parts ∙ whole) in
      let counted : length first.texts ≡ count = ap length same ∙ sym i.counted in (
        subst (λ (ts : List (List ℕ)). AreTexts version inside.now ts) (sym same) i.are,
        (
          after,
          outer,
          headed,
          outer_are,
          subst (λ (n : ℕ). AreSections version (line + 1 + n) (after ∷ outer) sections) counted
              (subst (λ (ts : List (List ℕ)). AreSections version (line + 1 + length first.texts) ts sections) last more),
        ),
      )

  -- what is ahead, by what is seen of it
  pub ahead_here : (ahead : SectionsAhead) (next : Option (Heading × Bor (List ℕ))) → record { version = version; line = line; next = next_view next } ≡ ahead →
      next ≡ Some (heading, behind) → (all : List SectionText) → AreAhead ahead all → AreAheadFrom version line (next_view (Some (heading, behind))) all
  ahead_here ahead next same some all are =
      subst (λ (n : Option (Heading × Bor (List ℕ))). AreAheadFrom version line (next_view n) all) some (subst (λ (a : SectionsAhead). AreAhead a all) (sym same) are)

  pub section_next : (next : Option (Heading × Bor (List ℕ))) → IsInside version behind.now inside.now count next → (all : List SectionText) →
      AreAheadFrom version line (next_view (Some (heading, behind))) all → IsAheadBehind all (Some section) (ahead_of next)
  section_next next i [] (text, texts, read, are, split) = absurd cc
  section_next next i (first ∷ sections) (text, texts, read, are, (head, rest, parts, at, spelled, none, more, same)) =
      let text_is : head ≡ text = cc in
      let texts_are : texts ≡ first.texts ++ rest = tails text head texts (first.texts ++ rest) parts in
      let (are_inside, are_ahead) = next_of next i first sections text rest texts are texts_are none more in (
        first,
        sections,
        refl,
        is_of first text same at (subst (λ (t : List ℕ). IsSpelled version t (lines.Section first.conditions first.horizon)) text_is spelled) read are_inside,
        are_ahead,
      )

  few_next : (next : Option (Heading × Bor (List ℕ))) → IsInside version behind.now inside.now count next → IsFewAhead line (Some (heading, behind)) → IsFewAhead (line + 1 + count) next
  few_next None i few = tt
  few_next (Some (other, others)) i few =
      let less = i.fewer in
      let most = few.0 in
      let room = few.1 in
      (omega arith, omega arith)

  -- what is ahead of the others is sections still, and not too long
  pub still_there : (old next : Option (Heading × Bor (List ℕ))) → old ≡ Some (heading, behind) → IsInside version behind.now inside.now count next → IsFewAhead line old →
      ((all : List SectionText) × AreAheadFrom version line (next_view old) all) → IsFewAhead (line + 1 + count) next × ((others : List SectionText) × AreAhead (ahead_of next) others)
  still_there old next some i few (all, are) =
      let here = subst (λ (n : Option (Heading × Bor (List ℕ))). AreAheadFrom version line (next_view n) all) some are in
      let (text, others, same, is, left) = section_next next i all here in
      (few_next next i (subst (IsFewAhead line) some few), (others, left))
