-- Both versions of a log are judged alike: what is found of a line in the one is found of it in the other.
use Rattle.std.proofs.Common.{◌≡◌, ◌∙◌, ap, ℕ, ◌+◌, Bool, true, false, inl, inr, List, [], ◌∷◌, ◌++◌, length, map, refl, sym, subst, arith}
use Rattle.cc_defs.specs.declared.log.EndWord.{EndWord}
use Rattle.cc_defs.specs.declared.log.EndWord.TheVariants as words
use Rattle.cc_defs.specs.declared.log.LogLine.{LogLine}
use Rattle.cc_defs.specs.declared.log.LogLine.TheVariants as lines
use Rattle.cc_defs.specs.declared.log.LogVerdict.{LogVerdict}
use Rattle.cc_defs.specs.declared.log.Version.{Version}
use Rattle.cc_defs.specs.Clauses.{Literal}
use Rattle.cc_defs.specs.LogVersions.{counts_in, other_version, own_behind}
use Rattle.cc_defs.specs.LogBytes.{line_meant}
use Rattle.cc_defs.specs.Logs.{AreJudged, AreSections, IsContinued, IsFollowed, IsNext, IsVerdictBehind, SectionText, Standing, Subject, at_first}
use Rattle.cc_defs.specs.Sections.{Axioms, Finding, Reading, Right, Trailed, Wrong, IsEnded, IsFound, IsJudged, row_denial}
use Rattle.cc_log.specs.Versions.{OtherVersionsAreJudgedAlike}
use Rattle.cc_log.proofs.ConvertingBytes.{verdict_behind, verdict_of}
use Rattle.cc_log.proofs.ConvertingLines.{CanWriteAll, NameEarlier, all_written, is_within, meant, names_front, names_rest, no_heading, own_after, read_as, sayable_formed, sayable_names, spelled, texts_in, written_front, written_of, written_rest}
use Rattle.cc_log.proofs.ConvertingParts.{Part, has_parts, own_in, said_of, section_in, sections_are}

length_push : {A : Type 0} (xs : List A) (x : A) → length (xs ++ x ∷ []) ≡ length xs + 1
length_push [] x = refl
length_push (y ∷ xs) x = let more = length_push xs x in omega arith

-- the own number of the next clause
pub own_pushed : (before : List (List Literal)) (added : List Literal) (own behind : ℕ) → own ≡ length before + 1 → behind ≡ own + 1 →
    behind ≡ length (before ++ added ∷ []) + 1
own_pushed before added own behind at more = let long = length_push before added in omega arith

-- ---- a section

-- lines of a version, with blocks
abbrev pub reading_of : Version → Reading
reading_of version = record { version = version; blocks = true }

module _ (v w : Version) (counts : Bool → ℕ → ℕ) where
  ended_alike : (word : EndWord) (blocks line own : ℕ) (others : List LogLine) (finding : Finding) →
      CanWriteAll v counts own others → CanWriteAll w counts own others →
      IsEnded v word blocks line (texts_in v counts own others) finding → IsEnded w word blocks line (texts_in w counts own others) finding
  ended_alike word blocks line own [] finding here there is = is
  ended_alike word blocks line own (next ∷ others) finding here there (inl (none, is)) = absurd (none (written_of v own next) (spelled v own next here.0))
  ended_alike word blocks line own (next ∷ others) finding here there (inr (other, is)) = inr ((written_of w own next, spelled w own next there.0), is)

  module _ (axioms : Axioms) (before : List (List Literal)) (blocks line own : ℕ) (Goes Other : List (List Literal) → ℕ → Type 0) (others : List LogLine) (finding : Finding) where
    -- what is found behind a line that adds a clause
    abbrev GoOnAlike : LogLine → Type 0
    GoOnAlike one = own_behind counts own one ≡ own + 1 → (added : List Literal) (count : ℕ) → Goes (before ++ added ∷ []) count → Other (before ++ added ∷ []) count

    line_alike : (one : LogLine) → GoOnAlike one → CanWriteAll v counts (own_behind counts own one) others → CanWriteAll w counts (own_behind counts own one) others →
        IsJudged (reading_of v) axioms before blocks line Goes (texts_in v counts (own_behind counts own one) others) finding one →
        IsJudged (reading_of w) axioms before blocks line Other (texts_in w counts (own_behind counts own one) others) finding one
    line_alike (lines.Section conditions horizon) next here there is = is
    line_alike (lines.End word) next here there (inl (ends, is)) = inl (ends, ended_alike word blocks line own others finding here there is)
    line_alike (lines.End word) next here there (inr wrong) = inr wrong
    line_alike (lines.Derived clause chain) next here there (inl behind) = inl behind
    line_alike (lines.Derived clause chain) next here there (inr (inl wrong)) = inr (inl wrong)
    line_alike (lines.Derived clause chain) next here there (inr (inr (none, is, over, reached, goes))) = inr (inr (none, is, over, reached, next refl clause blocks goes))
    line_alike (lines.Block row) next here there (inl behind) = inl behind
    line_alike (lines.Block row) next here there (inr (inl wrong)) = inr (inl wrong)
    line_alike (lines.Block row) next here there (inr (inr (none, is, goes))) = inr (inr (none, is, next refl (row_denial axioms.sizes row) (blocks + 1) goes))

  found_alike : (axioms : Axioms) (before : List (List Literal)) (blocks line own : ℕ) (all : List LogLine) (finding : Finding) → own ≡ length before + 1 → NameEarlier counts own all →
      CanWriteAll v counts own all → CanWriteAll w counts own all → IsFound (reading_of v) axioms before blocks line (texts_in v counts own all) finding →
      IsFound (reading_of w) axioms before blocks line (texts_in w counts own all) finding
  found_alike axioms before blocks line own [] finding at names here there is = is
  found_alike axioms before blocks line own (one ∷ others) finding at names here there (inl (none, is)) = absurd (none (written_of v own one) (spelled v own one here.0))
  found_alike axioms before blocks line own (one ∷ others) finding at names here there (inr (read, is, judged)) =
      let behind = own_behind counts own one in
      let Goes : List (List Literal) → ℕ → Type 0 = λ after count. IsFound (reading_of v) axioms after count (line + 1) (texts_in v counts behind others) finding in
      let Other : List (List Literal) → ℕ → Type 0 = λ after count. IsFound (reading_of w) axioms after count (line + 1) (texts_in w counts behind others) finding in
      let says : line_meant v (length before + 1) read ≡ one = subst (λ (n : ℕ). line_meant v n read ≡ one) at
      (ap (line_meant v own) (read_as v own one read here.0 is) ∙ meant v own one names.0) in
      let says_too : line_meant w (length before + 1) (written_of w own one) ≡ one = subst (λ (n : ℕ). line_meant w n (written_of w own one) ≡ one) at (meant w own one names.0) in
      let next : own_behind counts own one ≡ own + 1 → (added : List Literal) (count : ℕ) → Goes (before ++ added ∷ []) count → Other (before ++ added ∷ []) count =
      λ more added count goes. found_alike axioms (before ++ added ∷ []) count (line + 1) behind others finding
      (own_pushed before added own behind at more) names.1 here.1 there.1 goes in
      let found = line_alike axioms before blocks line own Goes Other others finding one next here.1 there.1
      (subst (IsJudged (reading_of v) axioms before blocks line Goes (texts_in v counts behind others) finding) says judged) in
      inr (
        written_of w own one,
        spelled w own one there.0,
        subst (IsJudged (reading_of w) axioms before blocks line Other (texts_in w counts behind others) finding) (sym says_too) found,
      )

-- ---- what follows a section

continued_alike : (Goes Other : Standing → Type 0) → ((next : Standing) → Goes next → Other next) → (standing : Standing) (conditions : Bool) (word : EndWord) (blocks line : ℕ)
    (verdict : LogVerdict) → IsContinued Goes standing conditions word blocks line verdict → IsContinued Other standing conditions word blocks line verdict
continued_alike Goes Other next standing conditions words.Empty blocks line verdict is = next _ is
continued_alike Goes Other next standing true words.Found blocks line verdict is = next _ is
continued_alike Goes Other next standing false words.Found blocks line verdict is = is
continued_alike Goes Other next standing conditions words.Spent blocks line verdict is = is

followed_alike : (Goes Other : Standing → Type 0) → ((next : Standing) → Goes next → Other next) → (standing : Standing) (conditions : Bool) (finding : Finding)
    (verdict : LogVerdict) → IsFollowed Goes standing conditions finding verdict → IsFollowed Other standing conditions finding verdict
followed_alike Goes Other next standing conditions (Wrong line _) verdict is = is
followed_alike Goes Other next standing conditions (Trailed word line _) verdict is = is
followed_alike Goes Other next standing conditions (Right word blocks line) verdict is = continued_alike Goes Other next standing conditions word blocks line verdict is

-- ---- the sections of a log

module _ (v w : Version) (subject : Subject) where
  abbrev counts : Bool → ℕ → ℕ
  counts = counts_in subject

  next_alike : (a b : Version) (standing : Standing) (part : Part) → IsNext subject standing (section_in a counts part) → IsNext subject standing (section_in b counts part)
  next_alike a b standing part is = record { conditions = is.conditions; horizon = is.horizon; within = is.within }

  judged_alike : (standing : Standing) (own : ℕ) (parts : List Part) (verdict : LogVerdict) → NameEarlier counts own (said_of parts) →
      CanWriteAll v counts own (said_of parts) → CanWriteAll w counts own (said_of parts) →
      AreJudged subject standing (map (section_in v counts) parts) verdict → AreJudged subject standing (map (section_in w counts) parts) verdict
  judged_alike standing own [] verdict names here there is = is
  judged_alike standing own (part ∷ parts) verdict names here there (inl (out, is)) = inl (λ h. out (next_alike w v standing part h), is)
  judged_alike standing own (part ∷ parts) verdict names here there (inr (is_next, (finding, found, follows))) =
      let own_there = own_in v counts part in
      let axioms = subject.axioms part.conditions part.horizon in
      let found_too = found_alike v w counts axioms axioms.clauses 0 (part.line + 1) own_there part.inside finding refl (names_front counts own_there part.inside (said_of parts) names.1)
      (written_front counts v own_there part.inside (said_of parts) here.1) (written_front counts w own_there part.inside (said_of parts) there.1) found in
      let next = λ (after : Standing) (h : AreJudged subject after (map (section_in v counts) parts) verdict).
      judged_alike after (own_after counts own_there part.inside) parts verdict (names_rest counts own_there part.inside (said_of parts) names.1)
      (written_rest counts v own_there part.inside (said_of parts) here.1)
      (written_rest counts w own_there part.inside (said_of parts) there.1) h in
      inr (
        next_alike v w standing part is_next,
        (
          finding,
          found_too,
          followed_alike (λ after. AreJudged subject after (map (section_in v counts) parts) verdict) (λ after. AreJudged subject after (map (section_in w counts) parts) verdict)
              next standing part.conditions finding verdict follows,
        ),
      )

  sections_alike : (first : LogLine) (others : List LogLine) (sections : List SectionText) (verdict : LogVerdict) → NameEarlier counts 1 (first ∷ others) →
      CanWriteAll v counts 1 (first ∷ others) → CanWriteAll w counts 1 (first ∷ others) → AreSections v 2 (texts_in v counts 1 (first ∷ others)) sections →
      AreJudged subject (at_first subject) sections verdict → IsVerdictBehind w subject (texts_in w counts 1 (first ∷ others)) verdict
  sections_alike first others sections verdict names here there are judged =
      let has = has_parts v counts 2 1 (first ∷ others) sections here are in
      let names_said = subst (NameEarlier counts 1) has.said names in
      let here_said = subst (CanWriteAll v counts 1) has.said here in
      let there_said = subst (CanWriteAll w counts 1) has.said there in
      let judged_said = subst (λ (ss : List SectionText). AreJudged subject (at_first subject) ss verdict) has.written judged in
      inr (inr (
        map (section_in w counts) has.parts,
        subst (λ (ls : List LogLine). AreSections w 2 (texts_in w counts 1 ls) (map (section_in w counts) has.parts)) (sym has.said)
            (sections_are w counts 2 1 has.parts has.are there_said),
        judged_alike (at_first subject) 1 has.parts verdict names_said here_said there_said judged_said,
      ))

  behind_alike : (all : List LogLine) (verdict : LogVerdict) → NameEarlier counts 1 all → CanWriteAll v counts 1 all → CanWriteAll w counts 1 all →
      IsVerdictBehind v subject (texts_in v counts 1 all) verdict → IsVerdictBehind w subject (texts_in w counts 1 all) verdict
  behind_alike [] verdict names here there is = is
  behind_alike (first ∷ others) verdict names here there (inl (none, is)) = absurd (none (written_of v 1 first) (spelled v 1 first here.0))
  behind_alike (first ∷ others) verdict names here there (inr (inl (none, read, is))) =
      inr (inl (no_heading w 1 first there.0 (is_within v 1 first here.0 none), (written_of w 1 first, spelled w 1 first there.0), is))
  behind_alike (first ∷ others) verdict names here there (inr (inr (sections, are, judged))) = sections_alike first others sections verdict names here there are judged

-- ---- the law

pub other_versions_are_judged_alike : OtherVersionsAreJudgedAlike
other_versions_are_judged_alike subject version said verdict sayable entered is =
    let counts = counts_in subject in
    let other = other_version version in
    let formed = sayable_formed counts 1 said sayable in
    let here = all_written counts version 1 said formed entered in
    let there = all_written counts other 1 said formed entered in
    verdict_of subject counts said verdict other there
    (behind_alike version other subject said verdict (sayable_names counts 1 said sayable) here there (verdict_behind subject counts said verdict version here is))
