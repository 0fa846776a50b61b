-- What the answers of sure mode mean: each value at the first horizon that has a history is what is told of it.
use Rattle.std.specs.Prelude.{◌≡◌, ◌+◌, ◌<◌, ℕ, List, [], ◌∷◌, ◌++◌, codes, decimal, flat_map, length, Contains, IsSomeAnd, None, Some, slice_get}
use Rattle.cc_corollaries.specs.Corollaries.{MeetsThem, NoneBelow, NoneMeetsThem, none_text}
use Rattle.cc_corollaries.specs.Ran.{AskedSurely, IsTried}
use Rattle.cc_defs.specs.Description.{Description, sizes_at}
use Rattle.cc_defs.specs.Events.{of_horizon}
use Rattle.cc_defs.specs.Histories.{AreFirst}
use Rattle.cc_defs.specs.Resolved.{Query}
use Rattle.cc_defs.specs.Texts.{history_text, key_line}
use Rattle.cc_ports.specs.Contents.{Contents}
use Rattle.cc_silent.specs.Sought.{HasValue}
use Rattle.cc_sure.specs.declared.answer.Answer.{Answer}
use Rattle.cc_sure.specs.declared.answer.Answer.TheVariants as answers
use Rattle.cc_tell.specs.declared.status.Status.TheVariants as statuses
use Rattle.cc_tell_modes.specs.SureTexts.{answer_lines}

-- the example of this number, from 1, is a path that meets the conditions and has the value at the position
abbrev pub IsShownBy : Description → Query → (horizon : ℕ) → (examples : List (List ℕ)) → (position value number : ℕ) → Type 0
IsShownBy d q horizon examples position value number =
    (before : ℕ) × (number ≡ before + 1) × IsSomeAnd (slice_get examples before) (λ row. MeetsThem d q horizon row × HasValue position value row)

-- a path that meets the conditions has it not
abbrev pub SomeLacks : Description → Query → (horizon position value : ℕ) → Type 0
SomeLacks d q horizon position value = (row : List ℕ) × MeetsThem d q horizon row × (HasValue position value row → ⊥)

-- Certain: each has it. Possible: the example of the number that is told has it, and another path has not. Impossible: none has it.
abbrev pub IsSo : Description → Query → (horizon : ℕ) → (examples : List (List ℕ)) → (position value : ℕ) → Answer → Type 0
IsSo d q horizon examples position value answers.Certain = (row : List ℕ) → MeetsThem d q horizon row → HasValue position value row
IsSo d q horizon examples position value (answers.Possible example) =
    IsShownBy d q horizon examples position value example × SomeLacks d q horizon position value
IsSo d q horizon examples position value answers.Impossible = (row : List ℕ) → MeetsThem d q horizon row → HasValue position value row → ⊥

-- what is told of a position: histories that were found for its values, and the answers to these
pub record OfPosition : Type 0 where
  pub found : List (List ℕ)
  pub answers : List Answer

-- all examples, in the order of their numbers: the first one, and those that were found for each position
abbrev pub examples_in : (first : List ℕ) → List OfPosition → List (List ℕ)
examples_in first told = first ∷ flat_map (λ (one : OfPosition). one.found) told

-- each example is a path that meets the conditions
abbrev pub AreExamples : Description → Query → (horizon : ℕ) → List (List ℕ) → Type 0
AreExamples d q horizon examples = (row : List ℕ) → Contains examples row → MeetsThem d q horizon row

-- a position of so many values has an answer for each of them and no other, and each is so
abbrev pub AllSo : Description → Query → (horizon : ℕ) → (examples : List (List ℕ)) → (position size : ℕ) → List Answer → Type 0
AllSo d q horizon examples position size told =
    (length told ≡ size) × ((value : ℕ) → value < size → IsSomeAnd (slice_get told value) (IsSo d q horizon examples position value))

-- each position is answered, with these examples
abbrev pub AreAnswered : Description → Query → (horizon : ℕ) → (examples : List (List ℕ)) → List OfPosition → Type 0
AreAnswered d q horizon examples told = (position size : ℕ) → slice_get (sizes_at d horizon) position ≡ Some size →
    IsSomeAnd (slice_get told position) (λ one. AllSo d q horizon examples position size one.answers)

-- ---- what is printed

-- examples, numbered from this number on, each with its key
abbrev pub examples_text : Description → (horizon number : ℕ) → List (List ℕ) → List ℕ
examples_text d horizon number [] = []
examples_text d horizon number (row ∷ rows) =
    of_horizon horizon (codes "example " ++ decimal number) ++ history_text d horizon row ++ key_line horizon row ++ examples_text d horizon (number + 1) rows

-- positions from this one on: the examples that were found for each, and a line for each of its values
abbrev pub positions_text : Description → (horizon number position : ℕ) → List OfPosition → List ℕ
positions_text d horizon number position [] = []
positions_text d horizon number position (one ∷ others) =
    examples_text d horizon number one.found ++ answer_lines d position 0 one.answers ++ positions_text d horizon (number + length one.found) (position + 1) others

abbrev pub answers_text : Description → Query → (horizon : ℕ) → (first : List ℕ) → List OfPosition → List ℕ
answers_text d q horizon first told =
    none_text q horizon ++ examples_text d horizon 1 (first ∷ []) ++ positions_text d horizon 2 0 told ++ codes "complete" ++ 10 ∷ []

-- ---- what it means

-- Code 0: at the first horizon that has a history each value of each constant at each step is certain, possible or impossible as it is told.
abbrev pub SureMeansSo : Type 0
SureMeansSo = (d : Description) (q : Query) (after : Contents) → AskedSurely d q statuses.Right after →
    (horizon : ℕ) × (first : List ℕ) × (told : List OfPosition) × IsTried q horizon × NoneBelow d q horizon
    × AreFirst d q horizon None (first ∷ []) × (length told ≡ length (sizes_at d horizon)) × AreExamples d q horizon (examples_in first told)
    × AreAnswered d q horizon (examples_in first told) told
    × (after.out ≡ answers_text d q horizon first told)

-- Code 1: no path of a length of the range meets the conditions.
abbrev pub NothingSureMeansNone : Type 0
NothingSureMeansNone = (d : Description) (q : Query) (after : Contents) → AskedSurely d q statuses.Not after →
    (horizon : ℕ) → IsTried q horizon → NoneMeetsThem d q horizon
