-- The sections of a log over clauses: right lines, right sections, and the first line of a section that is not right.
use Rattle.std.specs.Prelude.{◌≡◌, ◌≢◌, ℕ, ◌+◌, ◌<◌, ◌≤◌, ◌⊎◌, ◌↔◌, Bool, true, false, List, [], ◌∷◌, ◌++◌, length, Contains}
use Rattle.cc_defs.specs.declared.log.Cause.{Cause}
use Rattle.cc_defs.specs.declared.log.Cause.TheVariants as causes
use Rattle.cc_defs.specs.declared.log.EndWord.{EndWord}
use Rattle.cc_defs.specs.declared.log.EndWord.TheVariants as words
use Rattle.cc_defs.specs.declared.log.LogLine.{LogLine}
use Rattle.cc_defs.specs.declared.log.LogLine.TheVariants as lines
use Rattle.cc_defs.specs.ClauseForms.{positive}
use Rattle.cc_defs.specs.Clauses.{Literal, IsClause, IsOver, Reaches, opposite}
use Rattle.cc_defs.specs.declared.log.Version.{Version}
use Rattle.cc_defs.specs.LogBytes.{IsSpelled, line_meant}
use Rattle.cc_defs.specs.Rows.{IsRow}

-- the axioms of a section: the sizes of its positions, how many variables there are, and the clauses, numbered from 1
pub record Axioms : Type 0 where
  pub sizes : List ℕ
  pub variables : ℕ
  pub clauses : List (List Literal)

-- the clause that denies a row: one of the values of its positions is another
abbrev pub denial_from : ℕ → List ℕ → List ℕ → List Literal
denial_from first [] row = []
denial_from first (size ∷ sizes) [] = []
denial_from first (size ∷ sizes) (index ∷ row) = opposite (positive (first + index)) ∷ denial_from (first + size) sizes row

abbrev pub row_denial : List ℕ → List ℕ → List Literal
row_denial sizes row = denial_from 1 sizes row

-- ---- right lines

-- A line is right over the clauses before it, and adds this clause.
abbrev pub IsRight : Axioms → List (List Literal) → LogLine → List Literal → Type 0
IsRight axioms before (lines.Derived clause chain) added = Reaches before chain clause × (added ≡ clause)
IsRight axioms before (lines.Block row) added = IsRow axioms.sizes row × (added ≡ row_denial axioms.sizes row)
IsRight axioms before (lines.Section conditions horizon) added = ⊥
IsRight axioms before (lines.End word) added = ⊥

-- no clause is empty
abbrev pub HasNoEmpty : List (List Literal) → Type 0
HasNoEmpty clauses = Contains clauses [] → ⊥

-- lines one after another, each right and none behind an empty clause; these clauses are there afterwards
abbrev pub AreRight : Axioms → List (List Literal) → List LogLine → List (List Literal) → Type 0
AreRight axioms before [] after = after ≡ before
AreRight axioms before (line ∷ others) after =
    HasNoEmpty before × ((added : List Literal) × IsRight axioms before line added × AreRight axioms (before ++ added ∷ []) others after)

-- the word `empty` stands exactly where a clause is empty
abbrev pub EndsRightly : List (List Literal) → EndWord → Type 0
EndsRightly clauses word = (word ≡ words.Empty) ↔ Contains clauses []

-- a section without its heading: right lines, and a right end
pub record IsRightSection (axioms : Axioms) (inside : List LogLine) (word : EndWord) : Type 0 where
  pub clauses : List (List Literal)
  pub right : AreRight axioms axioms.clauses inside clauses
  pub ends : EndsRightly clauses word

-- ---- the first line that is not right, and its first cause

-- the numbers of clauses that a chain names, and its pivots
abbrev pub AreNamed : ℕ → List ℕ → Type 0
AreNamed count [] = Unit {0}
AreNamed count (number ∷ []) = (0 < number) × (number ≤ count)
AreNamed count (number ∷ pivot ∷ chain) = (0 < number) × (number ≤ count) × AreNamed count chain

-- what is wrong with a derived line, by the first cause that it has
abbrev pub IsWrongly : Axioms → List (List Literal) → List Literal → List ℕ → Cause → Type 0
IsWrongly axioms before clause chain causes.Literal = (IsClause clause × IsOver axioms.variables clause) → ⊥
IsWrongly axioms before clause chain causes.Number =
    IsClause clause × IsOver axioms.variables clause × (AreNamed (length before) chain → ⊥)
IsWrongly axioms before clause chain causes.Pivot =
    IsClause clause × IsOver axioms.variables clause × AreNamed (length before) chain × ((reached : List Literal) → Reaches before chain reached → ⊥)
IsWrongly axioms before clause chain causes.Clause =
    IsClause clause × IsOver axioms.variables clause × AreNamed (length before) chain
    × ((reached : List Literal) × Reaches before chain reached × (reached ≢ clause))
IsWrongly axioms before clause chain causes.Header = ⊥
IsWrongly axioms before clause chain causes.Form = ⊥
IsWrongly axioms before clause chain causes.Section = ⊥
IsWrongly axioms before clause chain causes.Row = ⊥
IsWrongly axioms before clause chain causes.NotRefuted = ⊥

-- what a section's lines are found to be: right, with its end word, the number of its blocks and the line of its end; right up to
-- this line, which ends it with this word, and behind it stands a line that is wrong for this cause; or a line before its end is
-- not right
pub data Finding : Type 0 where
  Right : (word : EndWord) → (blocks line : ℕ) → Finding
  Trailed : (word : EndWord) → (line : ℕ) → Cause → Finding
  Wrong : (line : ℕ) → Cause → Finding

-- How the lines of a section are read: the version that they are written in, and whether a row may be blocked among them.
pub record Reading : Type 0 where
  pub version : Version
  pub blocks : Bool

-- a text is that of no line
abbrev pub HasNoForm : Version → List ℕ → Type 0
HasNoForm version text = (line : LogLine) → IsSpelled version text line → ⊥

-- What stands behind the end of a section is out of its place.
abbrev pub IsEnded : Version → EndWord → ℕ → ℕ → List (List ℕ) → Finding → Type 0
IsEnded version word blocks line [] finding = finding ≡ Right word blocks line
IsEnded version word blocks line (text ∷ texts) finding =
    (HasNoForm version text × (finding ≡ Trailed word line causes.Form))
    ⊎ (((other : LogLine) × IsSpelled version text other) × (finding ≡ Trailed word line causes.Section))

-- A row is blocked at this number: it may not be where no row may, nor behind an empty clause; and it is a row of the section.
abbrev pub IsBlockJudged : Bool → Axioms → List (List Literal) → (blocks line : ℕ) → (List (List Literal) → ℕ → Type 0) → Finding → List ℕ → Type 0
IsBlockJudged false axioms before blocks line Goes finding row = finding ≡ Wrong line causes.Section
IsBlockJudged true axioms before blocks line Goes finding row =
    (Contains before [] × (finding ≡ Wrong line causes.Section))
    ⊎ (HasNoEmpty before × (IsRow axioms.sizes row → ⊥) × (finding ≡ Wrong line causes.Row))
    ⊎ (HasNoEmpty before × IsRow axioms.sizes row × Goes (before ++ row_denial axioms.sizes row ∷ []) (blocks + 1))

-- A line that is read so at this number; `Goes` says what is found behind it, of the clauses that are there then and of how
-- many blocks.
abbrev pub IsJudged : Reading → Axioms → List (List Literal) → (blocks line : ℕ) → (List (List Literal) → ℕ → Type 0) → List (List ℕ) → Finding → LogLine → Type 0
IsJudged reading axioms before blocks line Goes texts finding (lines.Section conditions horizon) = finding ≡ Wrong line causes.Section
IsJudged reading axioms before blocks line Goes texts finding (lines.End word) =
    (EndsRightly before word × IsEnded reading.version word blocks line texts finding)
    ⊎ ((EndsRightly before word → ⊥) × (finding ≡ Wrong line causes.Section))
IsJudged reading axioms before blocks line Goes texts finding (lines.Derived clause chain) =
    (Contains before [] × (finding ≡ Wrong line causes.Section))
    ⊎ (HasNoEmpty before × ((cause : Cause) × IsWrongly axioms before clause chain cause × (finding ≡ Wrong line cause)))
    ⊎ (HasNoEmpty before × IsClause clause × IsOver axioms.variables clause × Reaches before chain clause × Goes (before ++ clause ∷ []) blocks)
IsJudged reading axioms before blocks line Goes texts finding (lines.Block row) = IsBlockJudged reading.blocks axioms before blocks line Goes finding row

-- What the lines of a section are found to be, read so, behind these clauses and so many blocks; `line` is the number in the log of
-- the first of them. A section that ends without an end line is wrong one line behind its last.
abbrev pub IsFound : Reading → Axioms → List (List Literal) → (blocks line : ℕ) → List (List ℕ) → Finding → Type 0
IsFound reading axioms before blocks line [] finding = finding ≡ Wrong line causes.Section
IsFound reading axioms before blocks line (text ∷ texts) finding =
    (HasNoForm reading.version text × (finding ≡ Wrong line causes.Form))
    ⊎ ((read : LogLine) × IsSpelled reading.version text read
    × IsJudged reading axioms before blocks line (λ after count. IsFound reading axioms after count (line + 1) texts finding) texts finding
    (line_meant reading.version (length before + 1) read))
