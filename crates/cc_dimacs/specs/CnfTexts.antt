-- Texts in the DIMACS form of CNF: what they spell, the line of the first fault of one that spells nothing, and the text of an export.
use Rattle.std.specs.Prelude.{◌≡◌, ◌≢◌, ◌+◌, ◌<◌, ◌≤◌, ◌⊎◌, ◌||◌, ◌==◌, ℕ, Bool, true, false, not, if◌then◌else◌, List, [], ◌∷◌, ◌++◌, map, flat_map, length, max, codes, decimal}
use Rattle.std.specs.List.{AllByRecursion, filter}
use Rattle.cc_defs.specs.declared.refusal.Fault.{Fault}
use Rattle.cc_defs.specs.declared.refusal.Fault.TheVariants as faults
use Rattle.cc_defs.specs.declared.refusal.LimitAt.TheVariants as limits
use Rattle.cc_defs.specs.Clauses.{Literal, IsLiteralOver}
use Rattle.cc_defs.specs.Limits.{most_cnf_variables}
use Rattle.cc_defs.specs.LogTexts.{IsShort, lines_in, literal_text}
use Rattle.cc_defs.specs.Refusals.{past, refused}
use Rattle.cc_dimacs.specs.Cnfs.{PlainCnf, AreOver}

-- ---- lines and words

-- a line with its number, from 1
pub record Line : Type 0 where
  pub number : ℕ
  pub text : List ℕ

abbrev pub begins_with : ℕ → List ℕ → Bool
begins_with byte [] = false
begins_with byte (first ∷ others) = first == byte

-- a line that begins with `%` ends the text
abbrev pub is_end : List ℕ → Bool
is_end text = begins_with 37 text

-- a line that begins with `c` is a comment
abbrev pub is_comment : Line → Bool
is_comment line = begins_with 99 line.text

-- the lines before the one that ends the text, numbered from this number on
abbrev pub numbered_lines : ℕ → List (List ℕ) → List Line
numbered_lines number [] = []
numbered_lines number (text ∷ texts) =
    if is_end text then [] else (record { number = number; text = text }) ∷ numbered_lines (number + 1) texts

-- the lines that are no comments
abbrev pub told_lines : List ℕ → List Line
told_lines bytes = filter (λ line. not (is_comment line)) (numbered_lines 1 (lines_in bytes))

-- how many lines the text has, with the one that ends it
abbrev pub count_lines : List (List ℕ) → ℕ
count_lines [] = 0
count_lines (text ∷ texts) = if is_end text then 1 else 1 + count_lines texts

-- the last line of the text; an empty text has line 1
abbrev pub last_line : List ℕ → ℕ
last_line bytes = max 1 (count_lines (lines_in bytes))

-- tab, line feed, carriage return and space
abbrev pub is_space : ℕ → Bool
is_space byte = (byte == 32) || ((byte == 9) || ((byte == 13) || (byte == 10)))

abbrev pub before_pieces : ℕ → List (List ℕ) → List (List ℕ)
before_pieces byte [] = (byte ∷ []) ∷ []
before_pieces byte (piece ∷ pieces) = (byte ∷ piece) ∷ pieces

-- the pieces between spaces, empty ones among them
abbrev pub pieces_in : List ℕ → List (List ℕ)
pieces_in [] = [] ∷ []
pieces_in (byte ∷ bytes) = if is_space byte then [] ∷ pieces_in bytes else before_pieces byte (pieces_in bytes)

abbrev pub is_some_piece : List ℕ → Bool
is_some_piece [] = false
is_some_piece (byte ∷ bytes) = true

abbrev pub words_in : List ℕ → List (List ℕ)
words_in text = filter is_some_piece (pieces_in text)

-- a word with the number of its line
pub record Word : Type 0 where
  pub line : ℕ
  pub text : List ℕ

abbrev pub words_of : Line → List Word
words_of line = map (λ text. record { line = line.number; text = text }) (words_in line.text)

abbrev pub texts_of : List Word → List (List ℕ)
texts_of words = map (λ word. word.text) words

-- ---- what a text spells

-- the words of the first line: `p cnf`, how many variables there are, and how many clauses
pub record IsHeading (words : List (List ℕ)) (variables count : ℕ) : Type 0 where
  pub variables_short : IsShort variables
  pub count_short : IsShort count
  pub spelled : words ≡ codes "p" ∷ codes "cnf" ∷ decimal variables ∷ decimal count ∷ []

-- the words of a clause: its literals, a negation with a hyphen, and a 0
abbrev pub clause_words : List Literal → List (List ℕ)
clause_words clause = map literal_text clause ++ codes "0" ∷ []

-- Of the lines that are no comments the first is a heading, and the words of all others are those of so many clauses.
pub record IsCnfText (bytes : List ℕ) (cnf : PlainCnf) : Type 0 where
  pub first : Line
  pub others : List Line
  pub lines : told_lines bytes ≡ first ∷ others
  pub heading : IsHeading (words_in first.text) cnf.variables (length cnf.clauses)
  pub spelled : texts_of (flat_map words_of others) ≡ flat_map clause_words cnf.clauses
  pub over : AreOver cnf.variables cnf.clauses

-- ---- the first fault

-- Words with which so many clauses over so many variables can begin: whole ones, and the literals of one that has not ended.
pub record Begins (variables count : ℕ) (words : List (List ℕ)) : Type 0 where
  pub clauses : List (List Literal)
  pub rest : List Literal
  pub over : AreOver variables clauses
  pub rest_over : AllByRecursion (IsLiteralOver variables) rest
  pub few : length clauses ≤ count
  pub fewer : rest ≢ [] → length clauses < count
  pub spelled : words ≡ flat_map clause_words clauses ++ map literal_text rest

-- the first word behind which no text can go on
pub record IsFirstWrong (variables count : ℕ) (words : List Word) (wrong : Word) : Type 0 where
  pub before : List Word
  pub behind : List Word
  pub parted : words ≡ before ++ wrong ∷ behind
  pub begins : Begins variables count (texts_of before)
  pub wrongs : Begins variables count (texts_of (before ++ wrong ∷ [])) → ⊥

-- the text ends within a clause, or with too few of them
pub record LacksClauses (variables count : ℕ) (words : List Word) : Type 0 where
  pub begins : Begins variables count (texts_of words)
  pub none : (clauses : List (List Literal)) → AreOver variables clauses → length clauses ≡ count →
      texts_of words ≡ flat_map clause_words clauses → ⊥

-- what is wrong behind a heading, and on which line
abbrev pub IsFaultBehind : List ℕ → (variables count : ℕ) → List Word → ℕ → Type 0
IsFaultBehind bytes variables count words line =
    ((wrong : Word) × IsFirstWrong variables count words wrong × (line ≡ wrong.line))
    ⊎ (LacksClauses variables count words × (line ≡ last_line bytes))

-- there is no line for a heading, or it is none
abbrev pub IsFaultIn : List ℕ → List Line → ℕ → Type 0
IsFaultIn bytes [] line = line ≡ last_line bytes
IsFaultIn bytes (first ∷ others) line =
    (((variables count : ℕ) → IsHeading (words_in first.text) variables count → ⊥) × (line ≡ first.number))
    ⊎ ((variables : ℕ) × (count : ℕ) × IsHeading (words_in first.text) variables count
    × IsFaultBehind bytes variables count (flat_map words_of others) line)

-- the line of the first fault of a text, or its last line where something is missing
abbrev pub IsCnfFault : List ℕ → ℕ → Type 0
IsCnfFault bytes line = IsFaultIn bytes (told_lines bytes) line

-- 19 exactly where the text is none; else too many variables
abbrev pub IsCnfRefusal : List ℕ → Fault → Type 0
IsCnfRefusal bytes (faults.Refused refusal) =
    ((line : ℕ) × IsCnfFault bytes line × (refusal ≡ refused 19 0 line))
    ⊎ ((cnf : PlainCnf) × IsCnfText bytes cnf × (most_cnf_variables < cnf.variables) × (refusal ≡ past limits.CnfVariables))
IsCnfRefusal bytes faults.OutOfMemory = Unit {0}

-- ---- the text of an export

abbrev pub clause_line : List Literal → List ℕ
clause_line clause = flat_map (λ literal. literal_text literal ++ codes " ") clause ++ codes "0" ++ 10 ∷ []

-- a comment with the horizon, and the heading
abbrev pub heading_text : (horizon variables count : ℕ) → List ℕ
heading_text horizon variables count =
    codes "c ccalc horizon " ++ decimal horizon ++ 10 ∷ []
    ++ codes "p cnf " ++ decimal variables ++ codes " " ++ decimal count ++ 10 ∷ []

-- behind these a line a clause
abbrev pub export_of : ℕ → PlainCnf → List ℕ
export_of horizon cnf = heading_text horizon cnf.variables (length cnf.clauses) ++ flat_map clause_line cnf.clauses
