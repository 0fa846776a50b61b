-- The chains of an accepted log name earlier clauses alone.
use Rattle.std.proofs.Common.{◌≡◌, ◌∙◌, ap, ℕ, ◌+◌, ◌-◌, ◌<◌, Bool, true, false, inl, inr, List, [], ◌∷◌, ◌++◌, length, map, refl, sym, subst, arith}
use Rattle.std.specs.List.{AllByRecursion}
use Rattle.std.proofs.lemmas.Option.{slice_get_within}
use Rattle.cc_defs.specs.declared.log.EndWord.{EndWord}
use Rattle.cc_defs.specs.declared.log.EndWord.TheVariants as words
use Rattle.cc_defs.specs.declared.log.LogLine.{LogLine}
use Rattle.cc_defs.specs.declared.log.LogLine.TheVariants as lines
use Rattle.cc_defs.specs.declared.log.LogVerdict.TheVariants as verdicts
use Rattle.cc_defs.specs.declared.log.Version.{Version}
use Rattle.cc_defs.specs.declared.log.Version.TheVariants.{First, Second}
use Rattle.cc_defs.specs.Clauses.{Literal, IsNumbered, Reaches, ReachesFrom}
use Rattle.cc_defs.specs.LogBytes.{HasNumbers, chain_behind, line_meant}
use Rattle.cc_defs.specs.LogTexts.{IsFormed}
use Rattle.cc_defs.specs.LogVersions.{AreEarlier, AreSayable, NamesEarlier, counts_in, own_behind}
use Rattle.cc_defs.specs.Logs.{AreJudged, IsFollowed, IsVerdictBehind, SectionText, Standing, Subject, at_first}
use Rattle.cc_defs.specs.Sections.{Axioms, Finding, Right, Trailed, Wrong, IsEnded, IsFound, IsJudged, row_denial}
use Rattle.cc_log.specs.Versions.{AcceptedLogsAreSayable}
use Rattle.cc_log.proofs.Converting.{own_pushed, reading_of}
use Rattle.cc_log.proofs.ConvertingBytes.{verdict_behind}
use Rattle.cc_log.proofs.ConvertingLines.{CanWriteAll, NameEarlier, all_written, own_after, read_as, spelled, texts_in, written_front, written_of, written_rest}
use Rattle.cc_log.proofs.ConvertingParts.{Part, has_parts, own_in, said_of, section_in}

-- ---- a chain

numbered_earlier : (clauses : List (List Literal)) (number : ℕ) (clause : List Literal) → IsNumbered clauses number clause → (0 < number) × (number < length clauses + 1)
numbered_earlier clauses number clause (some, is) = let within = slice_get_within clauses (number - 1) clause is in (some, omega arith)

earlier_from : (clauses : List (List Literal)) (from : List Literal) (number : ℕ) (chain : List ℕ) (clause : List Literal) → (0 < number) × (number < length clauses + 1) →
    ReachesFrom clauses from chain clause → AreEarlier (length clauses + 1) (number ∷ chain)
earlier_from clauses from number [] clause is reached = is
earlier_from clauses from number (pivot ∷ []) clause is reached = absurd reached
earlier_from clauses from number (pivot ∷ other ∷ chain) clause is (there, next, numbered, resolvent, more) =
    (is.0, is.1, earlier_from clauses next other chain clause (numbered_earlier clauses other there numbered) more)

earlier : (clauses : List (List Literal)) (chain : List ℕ) (clause : List Literal) → Reaches clauses chain clause → AreEarlier (length clauses + 1) chain
earlier clauses [] clause reached = absurd reached
earlier clauses (number ∷ chain) clause (first, numbered, more) = earlier_from clauses first number chain clause (numbered_earlier clauses number first numbered) more

-- ---- what a line says when it is read back, whatever it names

-- a chain with distances, and back: what is no number of an earlier clause does not become one
abbrev twice : Version → ℕ → List ℕ → List ℕ
twice First own chain = chain
twice Second own chain = chain_behind own (chain_behind own chain)

behind_earlier : (own : ℕ) (chain : List ℕ) → AreEarlier own (chain_behind own (chain_behind own chain)) → AreEarlier own chain
behind_earlier own [] is = tt
behind_earlier own (number ∷ []) is = let some = is.0 in let below = is.1 in (omega arith, omega arith)
behind_earlier own (number ∷ pivot ∷ chain) is = let some = is.0 in let below = is.1 in (omega arith, omega arith, behind_earlier own chain is.2)

twice_earlier : (version : Version) (own : ℕ) (chain : List ℕ) → AreEarlier own (twice version own chain) → AreEarlier own chain
twice_earlier First own chain is = is
twice_earlier Second own chain is = behind_earlier own chain is

abbrev again : Version → ℕ → LogLine → LogLine
again version own (lines.Section conditions horizon) = lines.Section conditions horizon
again version own (lines.Derived clause chain) = lines.Derived clause (twice version own chain)
again version own (lines.Block row) = lines.Block row
again version own (lines.End word) = lines.End word

again_is : (version : Version) (own : ℕ) (line : LogLine) → line_meant version own (written_of version own line) ≡ again version own line
again_is First own (lines.Section conditions horizon) = refl
again_is First own (lines.Derived clause chain) = refl
again_is First own (lines.Block row) = refl
again_is First own (lines.End word) = refl
again_is Second own (lines.Section conditions horizon) = refl
again_is Second own (lines.Derived clause chain) = refl
again_is Second own (lines.Block row) = refl
again_is Second own (lines.End word) = refl

-- ---- lines

module _ (version : Version) (counts : Bool → ℕ → ℕ) where
  names_append : (own : ℕ) (xs ys : List LogLine) → NameEarlier counts own xs → NameEarlier counts (own_after counts own xs) ys → NameEarlier counts own (xs ++ ys)
  names_append own [] ys front behind = behind
  names_append own (x ∷ xs) ys front behind = (front.0, names_append (own_behind counts own x) xs ys front.1 behind)

  -- behind an end that is right stands nothing
  ended_names : (word end : EndWord) (blocks count line last own : ℕ) (others : List LogLine) →
      IsEnded version word blocks line (texts_in version counts own others) (Right end count last) → NameEarlier counts own others
  ended_names word end blocks count line last own [] is = tt
  ended_names word end blocks count line last own (next ∷ others) (inl (none, is)) = absurd cc
  ended_names word end blocks count line last own (next ∷ others) (inr (other, is)) = absurd cc

  module _ (axioms : Axioms) (before : List (List Literal)) (blocks line own : ℕ) (at : own ≡ length before + 1) (others : List LogLine) (word : EndWord) (count last : ℕ)
      (Goes : List (List Literal) → ℕ → Type 0) where
    -- behind a line that adds a clause
    abbrev GoesEarlier : LogLine → Type 0
    GoesEarlier one = own_behind counts own one ≡ own + 1 → (added : List Literal) (more : ℕ) → Goes (before ++ added ∷ []) more → NameEarlier counts (own_behind counts own one) others

    line_names : (one : LogLine) → GoesEarlier one →
        IsJudged (reading_of version) axioms before blocks line Goes (texts_in version counts (own_behind counts own one) others) (Right word count last) (again version own one) →
        NamesEarlier own one × NameEarlier counts (own_behind counts own one) others
    line_names (lines.Section conditions horizon) next is = absurd cc
    line_names (lines.End end) next (inl (ends, is)) = (tt, ended_names end word blocks count line last own others is)
    line_names (lines.End end) next (inr (out, is)) = absurd cc
    line_names (lines.Derived clause chain) next (inl (some, is)) = absurd cc
    line_names (lines.Derived clause chain) next (inr (inl (none, (_, wrong, is)))) = absurd cc
    line_names (lines.Derived clause chain) next (inr (inr (none, is, over, reached, goes))) =
        (twice_earlier version own chain (subst (λ (n : ℕ). AreEarlier n (twice version own chain)) (sym at) (earlier before (twice version own chain) clause reached)), next refl clause blocks goes)
    line_names (lines.Block row) next (inl (some, is)) = absurd cc
    line_names (lines.Block row) next (inr (inl (none, wrong, is))) = absurd cc
    line_names (lines.Block row) next (inr (inr (none, is, goes))) = (tt, next refl (row_denial axioms.sizes row) (blocks + 1) goes)

  found_names : (axioms : Axioms) (before : List (List Literal)) (blocks line own : ℕ) (all : List LogLine) (word : EndWord) (count last : ℕ) → own ≡ length before + 1 →
      CanWriteAll version counts own all → IsFound (reading_of version) axioms before blocks line (texts_in version counts own all) (Right word count last) → NameEarlier counts own all
  found_names axioms before blocks line own [] word count last at can is = tt
  found_names axioms before blocks line own (one ∷ others) word count last at can (inl (none, is)) = absurd (none (written_of version own one) (spelled version own one can.0))
  found_names axioms before blocks line own (one ∷ others) word count last at can (inr (read, is, judged)) =
      let behind = own_behind counts own one in
      let Goes : List (List Literal) → ℕ → Type 0 = λ after more. IsFound (reading_of version) axioms after more (line + 1) (texts_in version counts behind others) (Right word count last) in
      let next : own_behind counts own one ≡ own + 1 → (added : List Literal) (more : ℕ) → Goes (before ++ added ∷ []) more → NameEarlier counts behind others =
      λ same added more goes. found_names axioms (before ++ added ∷ []) more (line + 1) behind others word count last
      (own_pushed before added own behind at same) can.1 goes in
      let says : line_meant version (length before + 1) read ≡ again version own one =
      subst (λ (n : ℕ). line_meant version n read ≡ again version own one) at
      (ap (line_meant version own) (read_as version own one read can.0 is) ∙ again_is version own one) in
      line_names axioms before blocks line own at others word count last Goes one next
      (subst (IsJudged (reading_of version) axioms before blocks line Goes (texts_in version counts behind others) (Right word count last)) says judged)

-- ---- sections

-- The section is right, and this holds of what is behind it.
record GoesBehind (Goes : Standing → Type 0) (finding : Finding) : Type 0 where
  word : EndWord
  blocks : ℕ
  line : ℕ
  right : finding ≡ Right word blocks line
  next : Standing
  goes : Goes next

goes_behind : (Goes : Standing → Type 0) (standing : Standing) (conditions : Bool) (finding : Finding) (from to blocked : ℕ) →
    IsFollowed Goes standing conditions finding (verdicts.Accepted from to blocked) → GoesBehind Goes finding
goes_behind Goes standing conditions (Wrong line _) from to blocked is = absurd cc
goes_behind Goes standing conditions (Trailed words.Empty line _) from to blocked is = absurd cc
goes_behind Goes standing true (Trailed words.Found line _) from to blocked is = absurd cc
goes_behind Goes standing false (Trailed words.Found line _) from to blocked is = absurd cc
goes_behind Goes standing conditions (Trailed words.Spent line _) from to blocked is = absurd cc
goes_behind Goes standing conditions (Right words.Empty blocks line) from to blocked is = record { word = words.Empty; blocks = blocks; line = line; right = refl; next = _; goes = is }
goes_behind Goes standing true (Right words.Found blocks line) from to blocked is = record { word = words.Found; blocks = blocks; line = line; right = refl; next = _; goes = is }
goes_behind Goes standing false (Right words.Found blocks line) from to blocked is = absurd cc
goes_behind Goes standing conditions (Right words.Spent blocks line) from to blocked is = absurd cc

module _ (version : Version) (subject : Subject) (to blocked : ℕ) where
  abbrev counts : Bool → ℕ → ℕ
  counts = counts_in subject

  judged_names : (standing : Standing) (own : ℕ) (parts : List Part) → CanWriteAll version counts own (said_of parts) →
      AreJudged subject standing (map (section_in version counts) parts) (verdicts.Accepted subject.first to blocked) → NameEarlier counts own (said_of parts)
  judged_names standing own [] can is = tt
  judged_names standing own (part ∷ parts) can (inl (out, is)) = absurd cc
  judged_names standing own (part ∷ parts) can (inr (is_next, (finding, found, follows))) =
      let own_there = own_in version counts part in
      let axioms = subject.axioms part.conditions part.horizon in
      let behind = goes_behind (λ next. AreJudged subject next (map (section_in version counts) parts) (verdicts.Accepted subject.first to blocked)) standing part.conditions finding
      subject.first to blocked follows in
      let inside = found_names version counts axioms axioms.clauses 0 (part.line + 1) own_there part.inside behind.word behind.blocks behind.line refl
      (written_front counts version own_there part.inside (said_of parts) can.1)
      (subst (IsFound (reading_of version) axioms axioms.clauses 0 (part.line + 1) (texts_in version counts own_there part.inside)) behind.right found) in (
        tt,
        names_append version counts own_there part.inside (said_of parts) inside
            (judged_names behind.next (own_after counts own_there part.inside) parts (written_rest counts version own_there part.inside (said_of parts) can.1) behind.goes),
      )

  behind_names : (all : List LogLine) → CanWriteAll version counts 1 all →
      IsVerdictBehind version subject (texts_in version counts 1 all) (verdicts.Accepted subject.first to blocked) → NameEarlier counts 1 all
  behind_names [] can is = tt
  behind_names (first ∷ others) can (inl (none, is)) = absurd cc
  behind_names (first ∷ others) can (inr (inl (none, read, is))) = absurd cc
  behind_names (first ∷ others) can (inr (inr (sections, are, judged))) =
      let has = has_parts version counts 2 1 (first ∷ others) sections can are in
      subst (NameEarlier counts 1) (sym has.said)
      (judged_names (at_first subject) 1 has.parts (subst (CanWriteAll version counts 1) has.said can)
      (subst (λ (ss : List SectionText). AreJudged subject (at_first subject) ss (verdicts.Accepted subject.first to blocked)) has.written judged))

-- ---- the law

names_sayable : (counts : Bool → ℕ → ℕ) (own : ℕ) (all : List LogLine) → AllByRecursion IsFormed all → AllByRecursion HasNumbers all → NameEarlier counts own all →
    AreSayable counts own all
names_sayable counts own [] formed numbers names = tt
names_sayable counts own (line ∷ others) formed numbers names =
    (formed.0, numbers.0, names.0, names_sayable counts (own_behind counts own line) others formed.1 numbers.1 names.1)

pub accepted_logs_are_sayable : AcceptedLogsAreSayable
accepted_logs_are_sayable subject version said last blocked formed numbers entered is =
    let counts = counts_in subject in
    let can = all_written counts version 1 said formed entered in
    names_sayable counts 1 said formed numbers
    (behind_names version subject last blocked said can (verdict_behind subject counts said (verdicts.Accepted subject.first last blocked) version can is))
