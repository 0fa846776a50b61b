-- An accepted log has its lines.
use Rattle.std.proofs.Common.{◌≡◌, ◌∙◌, ℕ, ◌+◌, ◌≤◌, Bool, true, false, not, inl, inr, List, [], ◌∷◌, ◌++◌, length, length-append, Option, None, refl, sym, ap, subst, arith}
use Rattle.cc_defs.specs.declared.lists.Key.{Key}
use Rattle.cc_defs.specs.declared.log.EndWord.{EndWord}
use Rattle.cc_defs.specs.declared.log.EndWord.TheVariants as words
use Rattle.cc_defs.specs.declared.log.LogLine.{LogLine}
use Rattle.cc_defs.specs.declared.log.LogLine.TheVariants as lines
use Rattle.cc_defs.specs.declared.log.LogVerdict.TheVariants as verdicts
use Rattle.cc_defs.specs.declared.log.Version.{Version}
use Rattle.cc_defs.specs.declared.log.Version.TheVariants.{First, Second}
use Rattle.cc_defs.specs.ClauseLists.{clause_list}
use Rattle.cc_defs.specs.Description.{Description}
use Rattle.cc_defs.specs.Limits.{most_clauses, most_log_bytes, most_variables}
use Rattle.cc_defs.specs.LogBytes.{IsSpelled, binary_header}
use Rattle.cc_defs.specs.LogTexts.{IsShort, header}
use Rattle.cc_defs.specs.LogVersions.{AreSayable, counts_in, header_of, line_bytes, own_behind}
use Rattle.cc_defs.specs.Logs.{AreSections, IsFollowed, SectionText, Standing, at_first}
use Rattle.cc_defs.specs.Resolved.{Query}
use Rattle.cc_defs.specs.Runs.{axioms_of, first_horizon, last_horizon}
use Rattle.cc_defs.specs.Sections.{Finding, Right, Trailed, Wrong, IsFound}
use Rattle.cc_theory.specs.Theories.{rules_refusal}
use Rattle.cc_lists.specs.Subjects.{subject_of}
use Rattle.cc_judge.specs.Judging.{AreJudgedWithin, HasGoodAxioms, HasSections, limit_of}
use Rattle.cc_log.specs.Versions.{HaveEntries}
use Rattle.cc_log.proofs.Converting.{reading_of}
use Rattle.cc_convert.specs.Laws.{AcceptedLogsSayLines, SaysLines}
use Rattle.cc_convert.specs.Saying.{AreSaid, AreSayableBy, IsHeadedBy, OpensWithin}
use Rattle.cc_convert.proofs.Bounds.{form_low}
use Rattle.cc_convert.proofs.Inside.{IsLow, SaysTexts, inside_said, says_more, says_none}
use Rattle.cc_convert.proofs.Joined.{both_long, entries_few, entries_joined, joined, lines_few, lines_joined}
use Rattle.cc_convert.proofs.Spoken.{section_sayable}

-- ---- what follows a section of an accepted log

-- The section is right, and this holds of a standing behind it, at no earlier horizon.
record GoesBehind (Goes : Standing → Type 0) (standing : Standing) (finding : Finding) : Type 0 where
  word : EndWord
  blocks : ℕ
  line : ℕ
  right : finding ≡ Right word blocks line
  next : Standing
  goes : Goes next
  later : standing.horizon ≤ next.horizon

module _ (Goes : Standing → Type 0) (standing : Standing) (from to blocked : ℕ) where
  goes_behind : (conditions : Bool) (finding : Finding) → IsFollowed Goes standing conditions finding (verdicts.Accepted from to blocked) → GoesBehind Goes standing finding
  goes_behind conditions (Wrong line _) is = absurd cc
  goes_behind conditions (Trailed words.Empty line _) is = absurd cc
  goes_behind true (Trailed words.Found line _) is = absurd cc
  goes_behind false (Trailed words.Found line _) is = absurd cc
  goes_behind conditions (Trailed words.Spent line _) is = absurd cc
  goes_behind conditions (Right words.Empty blocks line) is =
      record { word = words.Empty; blocks = blocks; line = line; right = refl; next = _; goes = is; later = omega arith }
  goes_behind true (Right words.Found blocks line) is =
      record { word = words.Found; blocks = blocks; line = line; right = refl; next = _; goes = is; later = omega arith }
  goes_behind false (Right words.Found blocks line) is = absurd cc
  goes_behind conditions (Right words.Spent blocks line) is = absurd cc

-- ---- the sections of a log

-- the headings of an accepted log
abbrev may : Description → Query → Option Key → Bool → ℕ → Type 0
may d q key conditions horizon = (first_horizon q key ≤ horizon) × (horizon ≤ last_horizon q key) × (limit_of d q key conditions horizon ≡ None)

module _ (d : Description) (q : Query) (key : Option Key) where
  opens : (line : LogLine) → IsHeadedBy (may d q key) line → OpensWithin d q key line
  opens (lines.Section conditions horizon) is = is
  opens (lines.Derived clause chain) is = tt
  opens (lines.Block row) is = tt
  opens (lines.End word) is = tt

  said_by : (own : ℕ) (all : List LogLine) → AreSayableBy (may d q key) (counts_in (subject_of d q key)) own all → AreSaid d q key own all
  said_by own [] is = tt
  said_by own (line ∷ others) is = (is.0, opens line is.1, said_by (own_behind (counts_in (subject_of d q key)) own line) others is.2)

module _ (d : Description) (q : Query) (key : Option Key) (short : IsShort (last_horizon q key)) (version : Version) (from to blocked : ℕ) where
  abbrev counts : Bool → ℕ → ℕ
  counts = counts_in (subject_of d q key)

  limits_low : (conditions : Bool) (horizon : ℕ) → limit_of d q key conditions horizon ≡ None →
      ((axioms_of d q key conditions horizon).variables ≤ most_variables) × (counts conditions horizon ≤ most_clauses)
  limits_low conditions horizon none = form_low (rules_refusal d horizon) (clause_list d q horizon (not conditions) key) none

  one_said : (own horizon : ℕ) (conditions : Bool) (line : ℕ) (heading : List ℕ) (texts rest : List (List ℕ)) (word : EndWord) (blocks last : ℕ) →
      first_horizon q key ≤ horizon → horizon ≤ last_horizon q key → limit_of d q key conditions horizon ≡ None → HasGoodAxioms d q key conditions horizon →
      IsSpelled version heading (lines.Section conditions horizon) → own ≤ 500000000 → length (texts ++ rest) ≤ most_log_bytes → length (heading ++ joined (texts ++ rest)) ≤ most_log_bytes →
      ((behind : ℕ) → behind + length rest ≤ 500000000 → SaysTexts (may d q key) (counts_in (subject_of d q key)) version behind rest) →
      IsFound (reading_of version) (axioms_of d q key conditions horizon) ((axioms_of d q key conditions horizon).clauses) 0 line texts (Right word blocks last) →
      SaysTexts (may d q key) (counts_in (subject_of d q key)) version own (heading ∷ (texts ++ rest))
  one_said own horizon conditions line heading texts rest word blocks last low high none good spelled room many few behind found =
      let axioms = axioms_of d q key conditions horizon in
      let (most, clauses) = limits_low conditions horizon none in
      let long = length-append heading (joined (texts ++ rest)) in
      let both = both_long texts rest in
      let is_low : IsLow (may d q key) (counts_in (subject_of d q key)) version axioms = record { most = most; positions = good.positions } in
      says_more (may d q key) (counts_in (subject_of d q key)) version own (lines.Section conditions horizon) heading (texts ++ rest) (heading_is version spelled)
      (section_sayable own conditions horizon (omega arith) (omega arith)) (low, high, none)
      (inside_said (may d q key) (counts_in (subject_of d q key)) version axioms is_low rest behind word blocks last axioms.clauses 0 line (length axioms.clauses + 1) texts good.over refl
      (omega arith) (omega arith) found) where
        heading_is : (v : Version) → IsSpelled v heading (lines.Section conditions horizon) → heading ≡ line_bytes v own (lines.Section conditions horizon)
        heading_is First is = is.spelled
        heading_is Second is = is.spelled

  sections_said : (standing : Standing) (own line : ℕ) (texts : List (List ℕ)) (sections : List SectionText) → AreSections version line texts sections →
      AreJudgedWithin (subject_of d q key) (limit_of d q key) (HasGoodAxioms d q key) standing sections (verdicts.Accepted from to blocked) →
      first_horizon q key ≤ standing.horizon → own + length texts ≤ 500000000 → length texts ≤ most_log_bytes → length (joined texts) ≤ most_log_bytes →
      SaysTexts (may d q key) (counts_in (subject_of d q key)) version own texts
  sections_said standing own line texts [] are judged low room many few = subst (SaysTexts (may d q key) (counts_in (subject_of d q key)) version own) (sym are) (says_none (may d q key) (counts_in (subject_of d q key)) version own)
  sections_said standing own line texts (section ∷ sections) are (inl (out, is)) low room many few = absurd cc
  sections_said standing own line texts (section ∷ sections) (heading, rest, is, at, spelled, none, are, same) (inr (is_next, within, good, (finding, found, follows))) low room many few =
      let behind = goes_behind (λ next. AreJudgedWithin (subject_of d q key) (limit_of d q key) (HasGoodAxioms d q key) next sections (verdicts.Accepted from to blocked)) standing from to blocked
      section.conditions finding follows in
      let conditions = section.conditions in
      let horizon = section.horizon in
      let axioms = axioms_of d q key conditions horizon in
      let horizon_is = is_next.horizon in
      let horizon_most = is_next.within in
      let later = behind.later in
      let counted = ap length is in
      let split = length-append section.texts rest in
      let whole = ap (λ (ts : List (List ℕ)). length (joined ts)) is in
      let parts = length-append heading (joined (section.texts ++ rest)) in
      let both = both_long section.texts rest in
      let found_right = subst (λ (f : Finding). IsFound (reading_of section.version) axioms axioms.clauses 0 (section.line + 1) section.texts f) behind.right found in
      let found_here = subst (λ (v : Version). IsFound (reading_of v) axioms axioms.clauses 0 (section.line + 1) section.texts (Right behind.word behind.blocks behind.line)) same found_right in
      subst (SaysTexts (may d q key) (counts_in (subject_of d q key)) version own) (sym is)
      (one_said own horizon conditions (section.line + 1) heading section.texts rest behind.word behind.blocks behind.line (omega arith) (omega arith) within good spelled
      (omega arith) (omega arith) (omega arith)
      (λ after small. sections_said behind.next after (line + 1 + length section.texts) rest sections are behind.goes (omega arith) small (omega arith) (omega arith))
      found_here)

  -- ---- the log

  texts_said : (texts : List (List ℕ)) (sections : List SectionText) → AreSections version 2 texts sections →
      AreJudgedWithin (subject_of d q key) (limit_of d q key) (HasGoodAxioms d q key) (at_first (subject_of d q key)) sections (verdicts.Accepted from to blocked) →
      length texts ≤ most_log_bytes → length (joined texts) ≤ most_log_bytes → SaysTexts (may d q key) (counts_in (subject_of d q key)) version 1 texts
  texts_said texts sections are judged many few = sections_said (at_first (subject_of d q key)) 1 2 texts sections are judged (omega arith) (omega arith) many few

-- ---- the law

sayable_all : (d : Description) (q : Query) (key : Option Key) (own : ℕ) (all : List LogLine) → AreSaid d q key own all → AreSayable (counts_in (subject_of d q key)) own all
sayable_all d q key own [] said = tt
sayable_all d q key own (line ∷ others) said =
    (said.0.formed, said.0.numbers, said.0.earlier, sayable_all d q key (own_behind (counts_in (subject_of d q key)) own line) others said.2)

entries_all : (d : Description) (q : Query) (key : Option Key) (own : ℕ) (all : List LogLine) → AreSaid d q key own all → HaveEntries (counts_in (subject_of d q key)) own all
entries_all d q key own [] said = tt
entries_all d q key own (line ∷ others) said = (said.0.entry, entries_all d q key (own_behind (counts_in (subject_of d q key)) own line) others said.2)

module _ (d : Description) (q : Query) (key : Option Key) (bytes : List ℕ) where
  says_lines : (version : Version) (texts : List (List ℕ)) → bytes ≡ header_of version ++ joined texts → SaysTexts (may d q key) (counts_in (subject_of d q key)) version 1 texts → SaysLines d q key bytes
  says_lines version texts is says = record {
    version = version;
    said = says.said;
    lines = is ∙ ap (λ (t : List ℕ). header_of version ++ t) says.written;
    each = said_by d q key 1 says.said says.each;
    sayable = sayable_all d q key 1 says.said (said_by d q key 1 says.said says.each);
    entries = entries_all d q key 1 says.said (said_by d q key 1 says.said says.each);
  }

  of_sections : (from to blocked : ℕ) (sections : List SectionText) → length bytes ≤ most_log_bytes → IsShort (last_horizon q key) → HasSections bytes sections →
      AreJudgedWithin (subject_of d q key) (limit_of d q key) (HasGoodAxioms d q key) (at_first (subject_of d q key)) sections (verdicts.Accepted from to blocked) → SaysLines d q key bytes
  of_sections from to blocked sections few short (inl (behind, is, (texts, entries, are))) judged =
      let long = ap length is ∙ length-append binary_header behind in
      let whole = entries_joined behind texts entries in
      let long_texts = ap length whole in
      let many = entries_few behind texts entries in
      says_lines Second texts (is ∙ ap (λ (t : List ℕ). binary_header ++ t) (sym whole))
      (texts_said d q key short Second from to blocked texts sections are judged (omega arith) (omega arith))
  of_sections from to blocked sections few short (inr (plain, (texts, split, are))) judged =
      let whole : bytes ≡ header ++ joined texts = sym (lines_joined bytes) ∙ ap joined split in
      let long = ap length whole ∙ length-append header (joined texts) in
      let counted = ap length split in
      let many = lines_few bytes in
      says_lines First texts whole (texts_said d q key short First from to blocked texts sections are judged (omega arith) (omega arith))

pub accepted_logs_say_lines : AcceptedLogsSayLines
accepted_logs_say_lines d q key bytes first last blocked few short (inl (line, reason, misread, is)) = absurd cc
accepted_logs_say_lines d q key bytes first last blocked few short (inr (sections, has, judged)) = of_sections d q key bytes first last blocked sections few short has judged
