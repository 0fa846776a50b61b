-- How many lines and blocks there are: no more than bytes.
use Rattle.std.proofs.Common.{◌≡◌, ◌≢◌, ℕ, ◌+◌, ◌<◌, ◌≤◌, ◌⊎◌, Bool, true, false, inl, inr, suc, List, [], ◌∷◌, ◌++◌, length, refl, sym, subst, ap, arith, length-append}
use Rattle.std.specs.Prelude.{◌==◌, if◌then◌else◌}
use Rattle.cc_check.specs.declared.judge.Finding.{Finding as Found}
use Rattle.cc_check.specs.declared.judge.Finding.TheVariants as findings
use Rattle.cc_check.specs.Clauses.{plain_finding, reading_as}
use Rattle.cc_check.specs.Splits.{Parts, IsSplit, IsSplitBehind, IsSplitOf}
use Rattle.cc_defs.specs.declared.log.Cause.{Cause}
use Rattle.cc_defs.specs.declared.log.Cause.TheVariants as causes
use Rattle.cc_defs.specs.declared.log.EndWord.{EndWord}
use Rattle.cc_defs.specs.declared.log.EndWord.TheVariants as words
use Rattle.cc_defs.specs.declared.log.LogLine.{LogLine}
use Rattle.cc_defs.specs.declared.log.LogLine.TheVariants as lines
use Rattle.cc_defs.specs.Clauses.{Literal}
use Rattle.cc_defs.specs.declared.log.Version.{Version}
use Rattle.cc_defs.specs.declared.log.Version.TheVariants.{First, Second}
use Rattle.cc_defs.specs.LogBytes.{AreEntries, binary_header, entry_bytes, line_meant}
use Rattle.cc_defs.specs.LogTexts.{before_lines, header, lines_in}
use Rattle.cc_defs.specs.Logs.{SectionText, Standing, AreSections}
use Rattle.cc_defs.specs.Sections.{Axioms, Finding, Right, Trailed, Wrong, IsEnded, IsFound, IsJudged, row_denial}
use Rattle.cc_judge.specs.declared.standing.Next.{Next}
use Rattle.cc_judge.specs.declared.standing.Next.TheVariants as nexts
use Rattle.cc_judge.specs.declared.standing.Standing.{Standing as Held}
use Rattle.cc_judge.specs.Judging.{HasSections}
use Rattle.cc_judge.specs.Standings.{AreFew, HasRoom, IsBehind, IsBehindFinding, IsBehindTrail, IsEarly, IsForward}

-- ---- within a section

pub ended : (version : Version) (other : EndWord) (blocks line : ℕ) (texts : List (List ℕ)) (word : EndWord) (count end_line : ℕ) → IsEnded version other blocks line texts (Right word count end_line) →
    (word ≡ other) × (count ≡ blocks) × (end_line ≡ line)
ended version other blocks line [] word count end_line is = (cc, cc, cc)
ended version other blocks line (text ∷ texts) word count end_line (inl (none, is)) = absurd cc
ended version other blocks line (text ∷ texts) word count end_line (inr (read, is)) = absurd cc

-- no more blocks than lines, and the end is one of the lines
abbrev IsCounted : (blocks line : ℕ) → List (List ℕ) → Finding → Type 0
IsCounted blocks line texts (Right word count end_line) = (count ≤ blocks + length texts) × (end_line < line + length texts)
IsCounted blocks line texts (Trailed word end_line reason) = end_line < line + length texts
IsCounted blocks line texts (Wrong at reason) = Unit {0}

counted_one_more : (blocks line : ℕ) (text : List ℕ) (texts : List (List ℕ)) (finding : Finding) → IsCounted blocks (line + 1) texts finding → IsCounted blocks line (text ∷ texts) finding
counted_one_more blocks line text texts (Right word count end_line) is = let counts = is.0 in let ends = is.1 in (omega arith, omega arith)
counted_one_more blocks line text texts (Trailed word end_line reason) is = omega arith
counted_one_more blocks line text texts (Wrong at reason) is = tt

counted_block_more : (blocks line : ℕ) (text : List ℕ) (texts : List (List ℕ)) (finding : Finding) → IsCounted (blocks + 1) (line + 1) texts finding →
    IsCounted blocks line (text ∷ texts) finding
counted_block_more blocks line text texts (Right word count end_line) is = let counts = is.0 in let ends = is.1 in (omega arith, omega arith)
counted_block_more blocks line text texts (Trailed word end_line reason) is = omega arith
counted_block_more blocks line text texts (Wrong at reason) is = tt

module _ (version : Version) (axioms : Axioms) (finding : Finding) where
  wrong_counted : (blocks line at : ℕ) (reason : Cause) (texts : List (List ℕ)) → finding ≡ Wrong at reason → IsCounted blocks line texts finding
  wrong_counted blocks line at reason texts is = subst (IsCounted blocks line texts) (sym is) tt

  trail_counted : (blocks line : ℕ) (word : EndWord) (reason : Cause) (text : List ℕ) (texts : List (List ℕ)) → finding ≡ Trailed word line reason →
      IsCounted blocks line (text ∷ texts) finding
  trail_counted blocks line word reason text texts is = subst (IsCounted blocks line (text ∷ texts)) (sym is) (omega arith)

  end_counted : (other : EndWord) (blocks line : ℕ) (text : List ℕ) (texts : List (List ℕ)) → IsEnded version other blocks line texts finding → IsCounted blocks line (text ∷ texts) finding
  end_counted other blocks line text [] is = subst (IsCounted blocks line (text ∷ [])) (sym is) (omega arith, omega arith)
  end_counted other blocks line text (next ∷ texts) (inl (none, is)) = trail_counted blocks line other causes.Form text (next ∷ texts) is
  end_counted other blocks line text (next ∷ texts) (inr (read, is)) = trail_counted blocks line other causes.Section text (next ∷ texts) is

  module _ (before : List (List Literal)) (blocks line : ℕ) (text : List ℕ) (texts : List (List ℕ)) (Goes : List (List Literal) → ℕ → Type 0)
      (next : (after : List (List Literal)) (count : ℕ) → Goes after count → IsCounted count (line + 1) texts finding) where
    line_counted : (said : LogLine) → IsJudged (reading_as version true) axioms before blocks line Goes texts finding said → IsCounted blocks line (text ∷ texts) finding
    line_counted (lines.Section conditions horizon) is = wrong_counted blocks line line causes.Section (text ∷ texts) is
    line_counted (lines.End other) (inl (right, is)) = end_counted other blocks line text texts is
    line_counted (lines.End other) (inr (wrong, is)) = wrong_counted blocks line line causes.Section (text ∷ texts) is
    line_counted (lines.Derived clause chain) (inl (there, is)) = wrong_counted blocks line line causes.Section (text ∷ texts) is
    line_counted (lines.Derived clause chain) (inr (inl (none, (reason, wrongly, is)))) = wrong_counted blocks line line reason (text ∷ texts) is
    line_counted (lines.Derived clause chain) (inr (inr (none, is_clause, over, reached, goes))) =
        counted_one_more blocks line text texts finding (next (before ++ clause ∷ []) blocks goes)
    line_counted (lines.Block row) (inl (there, is)) = wrong_counted blocks line line causes.Section (text ∷ texts) is
    line_counted (lines.Block row) (inr (inl (none, wrong, is))) = wrong_counted blocks line line causes.Row (text ∷ texts) is
    line_counted (lines.Block row) (inr (inr (none, is_row, goes))) =
        counted_block_more blocks line text texts finding (next (before ++ row_denial axioms.sizes row ∷ []) (blocks + 1) goes)

  pub found_counted : (before : List (List Literal)) (blocks line : ℕ) (texts : List (List ℕ)) → IsFound (reading_as version true) axioms before blocks line texts finding →
      IsCounted blocks line texts finding
  found_counted before blocks line [] is = wrong_counted blocks line line causes.Section [] is
  found_counted before blocks line (text ∷ texts) (inl (none, is)) = wrong_counted blocks line line causes.Form (text ∷ texts) is
  found_counted before blocks line (text ∷ texts) (inr (read, is, judged)) =
      line_counted before blocks line text texts (λ after count. IsFound (reading_as version true) axioms after count (line + 1) texts finding)
      (λ after count goes. found_counted after count (line + 1) texts goes) (line_meant version (length before + 1) read) judged

pub room_for : (axioms : Axioms) (blocked : ℕ) (section : SectionText) (found : Found) → IsEarly blocked section →
    IsFound (reading_as section.version true) axioms axioms.clauses 0 (section.line + 1) section.texts (plain_finding found) → HasRoom blocked found
room_for axioms blocked section (findings.Right word count end_line) early is =
    let few = found_counted section.version axioms (Right word count end_line) axioms.clauses 0 (section.line + 1) section.texts is in
    let counts = few.0 in let ends = few.1 in let first = early.0 in let last = early.1 in (omega arith, omega arith)
room_for axioms blocked section (findings.Trailed word end_line reason) early is =
    let ends = found_counted section.version axioms (Trailed word end_line reason) axioms.clauses 0 (section.line + 1) section.texts is in
    let last = early.1 in omega arith
room_for axioms blocked section (findings.Wrong line reason) early is = tt

-- ---- behind it

-- where it goes on, the blocks are counted, and the horizon is the same one or, behind an empty clause, the next
pub moved : (standing : Standing) (conditions : Bool) (word : EndWord) (blocks line : ℕ) (held : Held) → IsBehind standing conditions word blocks line (nexts.Goes held) →
    (held.blocked ≡ standing.blocked + blocks) × ((held.horizon ≡ standing.horizon) ⊎ ((word ≡ words.Empty) × (held.horizon ≡ standing.horizon + 1)))
moved standing true words.Empty blocks line held is = (ap (λ (s : Standing). s.blocked) is, inr (refl, ap (λ (s : Standing). s.horizon) is))
moved standing false words.Empty blocks line held is = (ap (λ (s : Standing). s.blocked) is, inr (refl, ap (λ (s : Standing). s.horizon) is))
moved standing true words.Found blocks line held is = (ap (λ (s : Standing). s.blocked) is, inl (ap (λ (s : Standing). s.horizon) is))
moved standing false words.Found blocks line held is = absurd cc
moved standing true words.Spent blocks line held is = absurd cc
moved standing false words.Spent blocks line held is = absurd cc

-- where a wrong line stands behind its end, nothing goes on
pub trail_stays : (conditions : Bool) (word : EndWord) (line : ℕ) (reason : Cause) (held : Held) → IsBehindTrail conditions word line reason (nexts.Goes held) → ⊥
trail_stays true words.Empty line reason held is = absurd cc
trail_stays false words.Empty line reason held is = absurd cc
trail_stays true words.Found line reason held is = absurd cc
trail_stays false words.Found line reason held is = absurd cc
trail_stays true words.Spent line reason held is = absurd cc
trail_stays false words.Spent line reason held is = absurd cc

pub forward : (axioms : Axioms) (standing : Standing) (section : SectionText) (conditions : Bool) (finding : Finding) (next : Next) → IsEarly standing.blocked section →
    IsFound (reading_as section.version true) axioms axioms.clauses 0 (section.line + 1) section.texts finding → IsBehindFinding standing conditions finding next → IsForward standing section next
forward axioms standing section conditions finding (nexts.Wrong line reason) early found is = tt
forward axioms standing section conditions (Wrong line reason) (nexts.Goes held) early found is = absurd cc
forward axioms standing section conditions (Trailed word line reason) (nexts.Goes held) early found is = absurd (trail_stays conditions word line reason held is)
forward axioms standing section conditions (Right word count end_line) (nexts.Goes held) early found is =
    let few = found_counted section.version axioms (Right word count end_line) axioms.clauses 0 (section.line + 1) section.texts found in
    let first = early.0 in let counts = few.0 in
    let both = moved standing conditions word count end_line held is in
    let more = both.0 in
    (elim both.1 [ inl same ↦ omega arith | inr up ↦ (let higher = up.1 in omega arith) ], omega arith)

-- ---- the texts of bytes

shorter : (stops : Bool) (byte : ℕ) (lines : List (List ℕ)) → length (if stops then (10 ∷ []) ∷ lines else before_lines byte lines) ≤ suc (length lines)
shorter true byte lines = omega arith
shorter false byte [] = omega arith
shorter false byte (line ∷ lines) = omega arith

lines_few : (bytes : List ℕ) → length (lines_in bytes) ≤ length bytes
lines_few [] = omega arith
lines_few (byte ∷ bytes) = let rest = lines_few bytes in let front = shorter (byte == 10) byte (lines_in bytes) in omega arith

entry_some : (line : LogLine) → 1 ≤ length (entry_bytes line)
entry_some (lines.Section conditions horizon) = omega arith
entry_some (lines.Derived clause chain) = omega arith
entry_some (lines.Block row) = omega arith
entry_some (lines.End words.Empty) = omega arith
entry_some (lines.End words.Found) = omega arith
entry_some (lines.End words.Spent) = omega arith

some_long : (bytes : List ℕ) → bytes ≢ [] → 1 ≤ length bytes
some_long [] some = absurd (some refl)
some_long (byte ∷ bytes) some = omega arith

entries_few : (bytes : List ℕ) (texts : List (List ℕ)) → AreEntries bytes texts → length texts ≤ length bytes
entries_few bytes [] are = omega arith
entries_few bytes (text ∷ texts) (inl (line, is, (rest, whole, more))) =
    let front = entry_some line in
    let long : length text ≡ length (entry_bytes line) = ap (λ (t : List ℕ). length t) is.spelled in
    let both : length bytes ≡ length (text ++ rest) = ap (λ (t : List ℕ). length t) whole in
    let parts = length-append text rest in
    let others = entries_few rest texts more in omega arith
entries_few bytes (text ∷ texts) (inr (none, some, same, last)) =
    let front = some_long bytes some in
    let alone : length texts ≡ 0 = ap (λ (l : List (List ℕ)). length l) last in omega arith

-- ---- the sections of a split log

split_behind : (version : Version) (texts : List (List ℕ)) (sections : List SectionText) → IsSplitBehind version texts (Parts sections) →
    AreSections version 2 texts sections
split_behind version [] sections is = absurd cc
split_behind version (text ∷ texts) sections (inl (none, is)) = absurd cc
split_behind version (text ∷ texts) sections (inr (inl (none, read, is))) = absurd cc
split_behind version (text ∷ texts) sections (inr (inr (others, are, is))) =
    let same : others ≡ sections = cc in subst (λ (l : List SectionText). AreSections version 2 (text ∷ texts) l) same are

split_of : (lines : List (List ℕ)) (sections : List SectionText) → IsSplitOf lines (Parts sections) →
    (texts : List (List ℕ)) × (lines ≡ header ∷ texts) × AreSections First 2 texts sections
split_of [] sections is = absurd cc
split_of (text ∷ texts) sections (inl (other, is)) = absurd cc
split_of (text ∷ texts) sections (inr (same, behind)) = (texts, ap (λ (t : List ℕ). t ∷ texts) same, split_behind First texts sections behind)

pub has_sections : (bytes : List ℕ) (sections : List SectionText) → IsSplit bytes (Parts sections) → HasSections bytes sections
has_sections bytes sections (inl (behind, is, (texts, entries, split))) = inl (behind, is, (texts, entries, split_behind Second texts sections split))
has_sections bytes sections (inr (plain, split)) = inr (plain, split_of (lines_in bytes) sections split)

few_of : (bytes : List ℕ) (sections : List SectionText) → length bytes ≤ 268435456 → HasSections bytes sections → AreFew sections
few_of bytes sections most (inl (behind, is, (texts, entries, are))) =
    let whole : length bytes ≡ length (binary_header ++ behind) = ap (λ (t : List ℕ). length t) is in
    let parts = length-append binary_header behind in
    let few = entries_few behind texts entries in (Second, texts, are, omega arith)
few_of bytes sections most (inr (plain, (texts, is, are))) =
    let few = lines_few bytes in
    let as_many : length (lines_in bytes) ≡ suc (length texts) = ap (λ (l : List (List ℕ)). length l) is in
    (First, texts, are, omega arith)

pub are_few : (bytes : List ℕ) (sections : List SectionText) → length bytes ≤ 268435456 → IsSplit bytes (Parts sections) → AreFew sections
are_few bytes sections most split = few_of bytes sections most (has_sections bytes sections split)

-- ---- sections one after another

-- these sections are left, behind so many lines and no more blocks
pub record AreLeft (sections : List SectionText) (blocked : ℕ) : Type 0 where
  pub version : Version
  pub line : ℕ
  pub texts : List (List ℕ)
  pub are : AreSections version line texts sections
  pub most : line + length texts ≤ 268435458
  pub few : blocked ≤ line

-- the texts of a first section and of the others
many : (texts : List (List ℕ)) (heading : List ℕ) (inside rest : List (List ℕ)) → texts ≡ heading ∷ inside ++ rest → length texts ≡ 1 + length inside + length rest
many texts heading inside rest is =
    let longer = length-append inside rest in
    let whole : length texts ≡ suc (length (inside ++ rest)) = ap (λ (l : List (List ℕ)). length l) is in omega arith

pub early : (section : SectionText) (sections : List SectionText) (blocked : ℕ) → AreLeft (section ∷ sections) blocked → IsEarly blocked section
early section sections blocked left =
    let (heading, rest, texts, at, read, none, others, same) = left.are in
    let count = many left.texts heading section.texts rest texts in
    let most = left.most in let few = left.few in
    (omega arith, omega arith)

pub left_behind : (section : SectionText) (sections : List SectionText) (blocked more : ℕ) → AreLeft (section ∷ sections) blocked →
    more ≤ section.line + 1 + length section.texts → AreLeft sections more
left_behind section sections blocked more left less =
    let (heading, rest, texts, at, read, none, others, same) = left.are in
    let count = many left.texts heading section.texts rest texts in
    let most = left.most in
    record {
      version = left.version;
      line = left.line + 1 + length section.texts;
      texts = rest;
      are = others;
      most = omega arith;
      few = omega arith;
    }
