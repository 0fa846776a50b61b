-- A text read word by word: the numbers that words spell, the clauses that they make, and where the first one stands that is wrong.
use Rattle.std.specs.Prelude.{◌≡◌, ℕ, ◌+◌, ◌-◌, ◌*◌, ◌<◌, ◌≤◌, ◌==◌, ◌||◌, nat_lt, nat_le, Bool, true, false, not, if◌then◌else◌, List, [], ◌∷◌, ◌++◌, length, decimal, Option, Some, None, Result, Ok, Err}
use Rattle.std.specs.List.{filter}
use Rattle.cc_defs.specs.declared.refusal.Fault.{Fault}
use Rattle.cc_defs.specs.declared.refusal.Fault.TheVariants as faults
use Rattle.cc_defs.specs.Clauses.{Literal}
use Rattle.cc_defs.specs.Limits.{most_cnf_variables}
use Rattle.cc_defs.specs.LogTexts.{IsShort, lines_in}
use Rattle.cc_defs.specs.Refusals.{refused}
use Rattle.cc_defs.specs.Tokens.{is_digit}
use Rattle.cc_dimacs.specs.declared.lines.Told.{Told}
use Rattle.cc_dimacs.specs.declared.lines.Told.TheVariants as tolds
use Rattle.cc_dimacs.specs.CnfTexts.{IsHeading, Line, count_lines, is_comment, is_space, last_line, numbered_lines, told_lines, words_in}

-- ---- words

-- behind digits that spell this number: at most nine, and none behind a zero
abbrev pub number_from : ℕ → List ℕ → Option ℕ
number_from number [] = Some number
number_from number (byte ∷ bytes) =
    if is_digit byte then (if (number == 0) || nat_lt 99999999 number then None else number_from (10 * number + (byte - 48)) bytes) else None

abbrev pub number_of : List ℕ → Option ℕ
number_of [] = None
number_of (byte ∷ bytes) = if is_digit byte then number_from (byte - 48) bytes else None

abbrev pub positive_of : Option ℕ → Option Literal
positive_of None = None
positive_of (Some number) = Some (record { variable = number; positive = true })

abbrev pub negative_of : Option ℕ → Option Literal
negative_of None = None
negative_of (Some number) = if number == 0 then None else Some (record { variable = number; positive = false })

-- the literal that a word spells, or the 0 behind a clause as a positive one
abbrev pub named_of : List ℕ → Option Literal
named_of [] = None
named_of (byte ∷ bytes) = if byte == 45 then negative_of (number_of bytes) else positive_of (number_of (byte ∷ bytes))

-- a text that begins with no space
abbrev pub BeginsBare : List ℕ → Type 0
BeginsBare [] = Unit {0}
BeginsBare (byte ∷ bytes) = is_space byte ≡ false

-- the first word of a line, and what stands behind it
abbrev pub IsFirstWord : (line word rest : List ℕ) → Type 0
IsFirstWord line word rest = (words_in line ≡ word ∷ words_in rest) × (length rest < length line)

-- words that begin with this word
abbrev pub BeginWith : List ℕ → List (List ℕ) → Type 0
BeginWith word words = (others : List (List ℕ)) × (words ≡ word ∷ others)

-- with a number, or with none
abbrev pub BeginWithNumber : (line : List ℕ) → ℕ → (rest : List ℕ) → Type 0
BeginWithNumber line number rest = IsShort number × (words_in line ≡ decimal number ∷ words_in rest)

abbrev pub BeginWithNone : (line : List ℕ) → Type 0
BeginWithNone line = (number : ℕ) → IsShort number → BeginWith (decimal number) (words_in line) → ⊥

-- a line that is no heading
abbrev pub IsNoHeading : (line : List ℕ) → Type 0
IsNoHeading line = (variables count : ℕ) → IsHeading (words_in line) variables count → ⊥

-- ---- clauses

-- How many clauses have ended, whether one has begun, and they themselves where they are kept.
pub record Taken : Type 0 where
  pub done : ℕ
  pub is_open : Bool
  pub clauses : List (List Literal)
  pub rest : List Literal

abbrev pub nothing_taken : Taken
nothing_taken = record { done = 0; is_open = false; clauses = []; rest = [] }

abbrev pub clause_ended : Bool → Taken → Taken
clause_ended kept taken = record {
  done = taken.done + 1;
  is_open = false;
  clauses = if kept then taken.clauses ++ taken.rest ∷ [] else taken.clauses;
  rest = [];
}

abbrev pub literal_taken : Bool → Taken → Literal → Taken
literal_taken kept taken literal = record {
  done = taken.done;
  is_open = true;
  clauses = taken.clauses;
  rest = if kept then taken.rest ++ literal ∷ [] else taken.rest;
}

abbrev pub named_step : Bool → (variables count : ℕ) → Taken → Option Literal → Option Taken
named_step kept variables count taken None = None
named_step kept variables count taken (Some literal) =
    if nat_le count taken.done then None
    else (if literal.variable == 0 then Some (clause_ended kept taken)
    else (if nat_lt variables literal.variable then None else Some (literal_taken kept taken literal)))

-- a word more
abbrev pub word_step : Bool → (variables count : ℕ) → Taken → List ℕ → Option Taken
word_step kept variables count taken word = named_step kept variables count taken (named_of word)

abbrev pub then_word : Bool → (variables count : ℕ) → Option Taken → List ℕ → Option Taken
then_word kept variables count None word = None
then_word kept variables count (Some taken) word = word_step kept variables count taken word

abbrev pub then_words : Bool → (variables count : ℕ) → Option Taken → List (List ℕ) → Option Taken
then_words kept variables count taken [] = taken
then_words kept variables count taken (word ∷ words) = then_words kept variables count (then_word kept variables count taken word) words

-- are the clauses over so many variables kept
abbrev pub is_kept : ℕ → Bool
is_kept variables = nat_le variables most_cnf_variables

-- what they are with a word and with words more, or that one is wrong
abbrev pub word_read : (variables count : ℕ) → Taken → List ℕ → Option Taken
word_read variables count taken word = word_step (is_kept variables) variables count taken word

abbrev pub line_read : (variables count : ℕ) → Taken → (line : List ℕ) → Option Taken
line_read variables count taken line = then_words (is_kept variables) variables count (Some taken) (words_in line)

abbrev pub IsRead : Option Taken → Taken → Bool → Type 0
IsRead read taken right = read ≡ (if right then Some taken else None)

-- ---- lines

abbrev pub on_line : ℕ → Option Taken → (Taken → Result Taken ℕ) → Result Taken ℕ
on_line number None go = Err number
on_line number (Some taken) go = go taken

-- what the words of lines make, or the number of the first line with a wrong word
abbrev pub judged : Bool → (variables count : ℕ) → Taken → List Line → Result Taken ℕ
judged kept variables count taken [] = Ok taken
judged kept variables count taken (line ∷ lines) =
    on_line line.number (then_words kept variables count (Some taken) (words_in line.text)) (λ more. judged kept variables count more lines)

abbrev pub lines_read : (variables count : ℕ) → Taken → List Line → Result Taken ℕ
lines_read variables count taken lines = judged (is_kept variables) variables count taken lines

-- it is the refusal of this line, or memory was wanting
abbrev pub IsWrongLine : Result Taken ℕ → Fault → Type 0
IsWrongLine (Ok taken) (faults.Refused refusal) = ⊥
IsWrongLine (Err line) (faults.Refused refusal) = refusal ≡ refused 19 0 line
IsWrongLine found faults.OutOfMemory = Unit {0}

-- the lines that are no comments, of a text whose first line has this number
abbrev pub told_from : ℕ → List ℕ → List Line
told_from number text = filter (λ line. not (is_comment line)) (numbered_lines number (lines_in text))

-- the number of its last line
abbrev pub last_from : ℕ → List ℕ → ℕ
last_from number text = number - 1 + count_lines (lines_in text)

-- a text whose first line that is no comment is this one, with what stands behind it
abbrev pub IsTextFrom : (bytes : List ℕ) → ℕ → (line behind : List ℕ) → Type 0
IsTextFrom bytes number line behind =
    (told_lines bytes ≡ (record { number = number; text = line }) ∷ told_from (number + 1) behind)
    × (last_line bytes ≡ last_from (number + 1) behind)

-- Of a text whose first line has this number: the next line that is no comment, with what stands behind it, or the number of the
-- last line.
abbrev pub IsNextTold : ℕ → List ℕ → Told → Type 0
IsNextTold number text (tolds.Line at line behind) =
    (told_from number text ≡ (record { number = at; text = line.now }) ∷ told_from (at + 1) behind.now)
    × (last_from number text ≡ last_from (at + 1) behind.now)
    × (number ≤ at) × (at + length behind.now < number + length text)
IsNextTold number text (tolds.End last) = (told_from number text ≡ []) × (last_from number text ≡ last)
