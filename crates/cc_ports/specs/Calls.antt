-- The calls of a desk, as a record of them.
use Rattle.std.specs.Prelude.{◌≡◌, ℕ, ◌+◌, ◌≤◌, List, [], ◌∷◌, ◌++◌, map, flat_map, length, Option, option_map}
use Rattle.std.specs.List.{AllByRecursion}
use Rattle.cc_ports.specs.declared.desk.To.{To}

-- a file was to be opened; bytes were to be read, at most so many; a log was to be begun; bytes were to be given to an output
pub data Call : Type 0 where
  Opens : (name : List ℕ) → Call
  Reads : (room : ℕ) → Call
  Begins : (name : List ℕ) → Call
  Gives : (to : To) → (bytes : List ℕ) → Call

-- after one more call, whether it was done or failed
abbrev pub with_call : Call → Option (List Call) → Option (List Call)
with_call call record_kept = option_map (λ calls. calls ++ call ∷ []) record_kept

abbrev pub with_calls : List Call → Option (List Call) → Option (List Call)
with_calls more record_kept = option_map (λ calls. calls ++ more) record_kept

-- the names of the files that were to be opened, and of the logs that were to be begun
abbrev pub name_opened : Call → List (List ℕ)
name_opened (Opens name) = name ∷ []
name_opened (Reads room) = []
name_opened (Begins name) = []
name_opened (Gives to bytes) = []

abbrev pub name_begun : Call → List (List ℕ)
name_begun (Opens name) = []
name_begun (Reads room) = []
name_begun (Begins name) = name ∷ []
name_begun (Gives to bytes) = []

abbrev pub names_opened : List Call → List (List ℕ)
names_opened calls = flat_map name_opened calls

abbrev pub names_begun : List Call → List (List ℕ)
names_begun calls = flat_map name_begun calls

-- The calls that read a file whole, which has at most so many bytes: it is opened, and then read in pieces of at most 4,096 bytes,
-- at most once more than it may have bytes.
pub record AreReadings (name : List ℕ) (most : ℕ) (calls : List Call) : Type 0 where
  pub rooms : List ℕ
  pub calls_are : calls ≡ Opens name ∷ map Reads rooms
  pub small : AllByRecursion (λ room. room ≤ 4096) rooms
  pub turns : length rooms ≤ most + 1

-- The calls that give bytes whole to one output.
pub record AreGivings (to : To) (calls : List Call) : Type 0 where
  pub parts : List (List ℕ)
  pub calls_are : calls ≡ map (Gives to) parts

-- what a run does with a desk: it reads a file, in pieces of at most so many bytes each; it begins a log; or it gives bytes to an output
pub data Act : Type 0 where
  ReadsFile : (name : List ℕ) → (rooms : List ℕ) → Act
  BeginsLog : (name : List ℕ) → Act
  GivesBytes : (to : To) → (bytes : List ℕ) → Act

abbrev pub calls_of : Act → List Call
calls_of (ReadsFile name rooms) = Opens name ∷ map Reads rooms
calls_of (BeginsLog name) = Begins name ∷ []
calls_of (GivesBytes to bytes) = Gives to bytes ∷ []

-- The calls are those of such acts, one after another, and no others: so nothing is read but a file that was just opened.
pub record AreActs (calls : List Call) : Type 0 where
  pub acts : List Act
  pub calls_are : calls ≡ flat_map calls_of acts
