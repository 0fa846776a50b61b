-- The lines of a right section, one after another.
use Rattle.std.proofs.Common.{◌≡◌, ◌∙◌, ℕ, ◌+◌, ◌<◌, ◌≤◌, List, [], ◌∷◌, ◌++◌, length, length-append, append-nil, refl, sym, ap, subst, arith}
use Rattle.std.proofs.lemmas.List.Elements.{recursion_from_All}
use Rattle.std.specs.List.{join_with_byte}
use Rattle.cc_check.specs.declared.sections.Section.{Section}
use Rattle.cc_check.specs.SectionTexts.{IsRightOf}
use Rattle.cc_check.specs.Texts.{AreTexts}
use Rattle.cc_check.proofs.EntryThere.{texts_there}
use Rattle.cc_defs.specs.declared.log.EndWord.TheVariants as words
use Rattle.cc_defs.specs.declared.log.LogLine.{LogLine}
use Rattle.cc_defs.specs.declared.log.LogLine.TheVariants as lines
use Rattle.cc_defs.specs.declared.log.Version.{Version}
use Rattle.cc_defs.specs.declared.log.Version.TheVariants.{First, Second}
use Rattle.cc_defs.specs.Clauses.{IsOver}
use Rattle.cc_defs.specs.Limits.{most_log_bytes}
use Rattle.cc_defs.specs.LogBytes.{end_word_bytes, entry_bytes, line_behind}
use Rattle.cc_defs.specs.LogTexts.{line_parts}
use Rattle.cc_defs.specs.LogVersions.{line_bytes, lines_bytes, own_behind}
use Rattle.cc_defs.specs.Sections.{Axioms}
use Rattle.cc_form.specs.Forms.{IsForm}
use Rattle.cc_convert.specs.Saying.{AreLinesOf, AreSayableBy, IsSayableAt, MayNot, no_axioms}
use Rattle.cc_convert.proofs.Inside.{IsLow, inside_said, says_none}
use Rattle.cc_convert.proofs.Joined.{entries_few, entries_joined, joined, lines_few, lines_joined}

-- ---- a line has some bytes

word_some : (word : _) → 0 < length (end_word_bytes word)
word_some words.Empty = omega arith
word_some words.Found = omega arith
word_some words.Spent = omega arith

entry_some : (line : LogLine) → 0 < length (entry_bytes line)
entry_some (lines.Section conditions horizon) = omega arith
entry_some (lines.Derived clause chain) = omega arith
entry_some (lines.Block row) = omega arith
entry_some (lines.End word) = word_some word

line_some : (version : Version) (own : ℕ) (line : LogLine) → 0 < length (line_bytes version own line)
line_some First own line = let long = length-append (join_with_byte 32 (line_parts line)) (10 ∷ []) in omega arith
line_some Second own line = entry_some (line_behind own line)

-- ---- how far the lines are read

regroup : {X : Type 0} (front : List X) (x : X) (others : List X) → front ++ x ∷ others ≡ (front ++ x ∷ []) ++ others
regroup [] x others = refl
regroup (y ∷ front) x others = ap (λ l. y ∷ l) (regroup front x others)

-- These lines of a section are read, its heading first, and the others are left in its last bytes.
pub record AreReadTo (axioms : Axioms) (section : Section) (own : ℕ) (rest : List ℕ) (said : List LogLine) : Type 0 where
  pub front : List LogLine
  pub left : List LogLine
  pub headed : said ≡ lines.Section section.conditions section.horizon ∷ front
  pub written : section.bytes.now ≡ lines_bytes section.version no_axioms (length axioms.clauses + 1) (front ++ left)
  pub sayable : AreSayableBy MayNot no_axioms (length axioms.clauses + 1) (front ++ left)
  pub here : rest ≡ lines_bytes section.version no_axioms own left
  pub still : AreSayableBy MayNot no_axioms own left

-- The line that comes next, and the others.
pub record HasNext (version : Version) (own : ℕ) (rest : List ℕ) : Type 0 where
  pub line : LogLine
  pub behind : List ℕ
  pub sayable : IsSayableAt own line
  pub is : rest ≡ line_bytes version own line ++ behind

texts_few : (version : Version) (bytes : List ℕ) (texts : List (List ℕ)) → AreTexts version bytes texts → (joined texts ≡ bytes) × (length texts ≤ length bytes)
texts_few First bytes texts are = (ap joined are ∙ lines_joined bytes, subst (λ (ts : List (List ℕ)). length ts ≤ length bytes) (sym are) (lines_few bytes))
texts_few Second bytes texts are = (entries_joined bytes texts are, entries_few bytes texts are)

module _ (axioms : Axioms) (section : Section) where
  pub begun : IsForm axioms → length section.bytes.now ≤ most_log_bytes → IsRightOf axioms section → (own : ℕ) → own ≡ length axioms.clauses + 1 →
      AreReadTo axioms section own section.bytes.now (lines.Section section.conditions section.horizon ∷ [])
  begun form few (word, blocks, line, found) own at =
      let (texts, are) = texts_there section.version section.bytes.now in
      let (whole, many) = texts_few section.version section.bytes.now texts are in
      let none_more = append-nil texts in
      let counted = ap length none_more in
      let count = form.count in
      let least = form.axioms.least in
      let long = ap length whole in
      let low : IsLow MayNot no_axioms section.version axioms = record { most = form.most; positions = omega arith } in
      let says = inside_said MayNot no_axioms section.version axioms low [] (λ own room. says_none MayNot no_axioms section.version own) word blocks line
      axioms.clauses 0 (section.line + 1) (length axioms.clauses + 1) texts (recursion_from_All (IsOver axioms.variables) axioms.clauses form.axioms.over) refl (omega arith) (omega arith)
      (found (record { version = section.version; conditions = section.conditions; horizon = section.horizon; line = section.line; texts = texts })
      (record { version = refl; conditions = refl; horizon = refl; line = refl; texts = are })) in
      let written : section.bytes.now ≡ lines_bytes section.version no_axioms (length axioms.clauses + 1) says.said = sym whole ∙ ap joined (sym none_more) ∙ says.written in
      record {
        front = [];
        left = says.said;
        headed = refl;
        written = written;
        sayable = says.each;
        here = subst (λ (n : ℕ). section.bytes.now ≡ lines_bytes section.version no_axioms n says.said) (sym at) written;
        still = subst (λ (n : ℕ). AreSayableBy MayNot no_axioms n says.said) (sym at) says.each;
      }

  module _ (own : ℕ) (rest : List ℕ) (said : List LogLine) (read : AreReadTo axioms section own rest said) where
    one_left : (left : List LogLine) → rest ≡ lines_bytes section.version no_axioms own left → AreSayableBy MayNot no_axioms own left → (length rest ≡ 0 → ⊥) →
        HasNext section.version own rest
    one_left [] here still some = absurd (some (ap length here))
    one_left (line ∷ others) here still some =
        record { line = line; behind = lines_bytes section.version no_axioms (own_behind no_axioms own line) others; sayable = still.0; is = here }

    pub next_there : (length rest ≡ 0 → ⊥) → HasNext section.version own rest
    next_there some = one_left read.left read.here read.still some

    more_from : (left : List LogLine) → rest ≡ lines_bytes section.version no_axioms own left → AreSayableBy MayNot no_axioms own left → (length rest ≡ 0 → ⊥) →
        section.bytes.now ≡ lines_bytes section.version no_axioms (length axioms.clauses + 1) (read.front ++ left) →
        AreSayableBy MayNot no_axioms (length axioms.clauses + 1) (read.front ++ left) → (found : LogLine) (behind : List ℕ) →
        ((line : LogLine) (others : List ℕ) → IsSayableAt own line → rest ≡ line_bytes section.version own line ++ others → (found ≡ line) × (behind ≡ others)) →
        AreReadTo axioms section (own_behind no_axioms own found) behind (said ++ found ∷ []) × (length behind < length rest)
    more_from [] here still some written sayable found behind is = absurd (some (ap length here))
    more_from (line ∷ others) here still some written sayable found behind is =
        let (same, after) = is line (lines_bytes section.version no_axioms (own_behind no_axioms own line) others) still.0 here in
        let long = ap length here ∙ length-append (line_bytes section.version own line) (lines_bytes section.version no_axioms (own_behind no_axioms own line) others) in
        let counted = ap length after in
        let some_bytes = line_some section.version own line in
        let split = regroup read.front line others in (
          record {
            front = read.front ++ line ∷ [];
            left = others;
            headed = ap (λ (l : List LogLine). l ++ found ∷ []) read.headed ∙ ap (λ (l : LogLine). (lines.Section section.conditions section.horizon ∷ read.front) ++ l ∷ []) same;
            written = subst (λ (l : List LogLine). section.bytes.now ≡ lines_bytes section.version no_axioms (length axioms.clauses + 1) l) split written;
            sayable = subst (AreSayableBy MayNot no_axioms (length axioms.clauses + 1)) split sayable;
            here = subst (λ (l : LogLine). behind ≡ lines_bytes section.version no_axioms (own_behind no_axioms own l) others) (sym same) after;
            still = subst (λ (l : LogLine). AreSayableBy MayNot no_axioms (own_behind no_axioms own l) others) (sym same) still.2;
          },
          omega arith,
        )

    pub more_read : (length rest ≡ 0 → ⊥) → (found : LogLine) (behind : List ℕ) →
        ((line : LogLine) (others : List ℕ) → IsSayableAt own line → rest ≡ line_bytes section.version own line ++ others → (found ≡ line) × (behind ≡ others)) →
        AreReadTo axioms section (own_behind no_axioms own found) behind (said ++ found ∷ []) × (length behind < length rest)
    more_read some found behind is = more_from read.left read.here read.still some read.written read.sayable found behind is

    none_from : (left : List LogLine) → rest ≡ lines_bytes section.version no_axioms own left → length rest ≡ 0 → left ≡ []
    none_from [] here none = refl
    none_from (line ∷ others) here none =
        let long = ap length here ∙ length-append (line_bytes section.version own line) (lines_bytes section.version no_axioms (own_behind no_axioms own line) others) in
        let some = line_some section.version own line in absurd (omega arith)

    pub all_read : length rest ≡ 0 → AreLinesOf axioms section said
    all_read none =
        let whole : read.front ++ read.left ≡ read.front = ap (λ (l : List LogLine). read.front ++ l) (none_from read.left read.here none) ∙ append-nil read.front in
        record {
          inside = read.front;
          headed = read.headed;
          written = subst (λ (l : List LogLine). section.bytes.now ≡ lines_bytes section.version no_axioms (length axioms.clauses + 1) l) whole read.written;
          sayable = subst (AreSayableBy MayNot no_axioms (length axioms.clauses + 1)) whole read.sayable;
        }
