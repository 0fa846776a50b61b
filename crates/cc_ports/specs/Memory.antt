-- Files in memory, and a desk in memory as its callers see it.
use Rattle.std.specs.Prelude.{◌≡◌, ℕ, ◌+◌, ◌≤◌, Bool, true, false, min, List, [], length, slice_index_or, Option, option_map, Contains, nat_eq}
use Rattle.std.specs.List.{position}
use Rattle.std.specs.Cmp.Lexicographic.{pointwise}
use Rattle.cc_ports.specs.declared.desk.To.{To}
use Rattle.cc_ports.specs.declared.desk.To.TheVariants as outputs
use Rattle.cc_ports.specs.Contents.{Contents, output_of}
use Rattle.cc_ports.specs.Sheet.{Sheet}

-- the place of the first file of this name
abbrev pub place_in : List (List ℕ × List ℕ) → List ℕ → Option ℕ
place_in files name = position (λ file. pointwise nat_eq file.0 name) files

-- the bytes of the file at a place; none past the last file
abbrev pub bytes_at : List (List ℕ × List ℕ) → ℕ → List ℕ
bytes_at files place = (slice_index_or files place ([], [])).1

-- the bytes of the first file of this name
abbrev pub file_in : List (List ℕ × List ℕ) → List ℕ → Option (List ℕ)
file_in files name = option_map (bytes_at files) (place_in files name)

-- the files, the numbers of the calls that fail, the most bytes that a read gives, how many calls there were, what is
-- left of the file being read, the outputs with their room, whether a log was begun, and the faults so far
pub record Memory : Type 0 where
  pub files : List (List ℕ × List ℕ)
  pub fails : List ℕ
  pub most : ℕ
  pub calls : ℕ
  pub rest : List ℕ
  pub out : Sheet
  pub err : Sheet
  pub log : Sheet
  pub begun : Bool
  pub read_faults : ℕ
  pub write_faults : ℕ

-- a desk on which no call was made
abbrev pub new_memory : List (List ℕ × List ℕ) → List ℕ → ℕ → List ℕ → Memory
new_memory files fails most room = record {
  files = files;
  fails = fails;
  most = most;
  calls = 0;
  rest = [];
  out = record { bytes = []; room = slice_index_or room 0 0 };
  err = record { bytes = []; room = slice_index_or room 1 0 };
  log = record { bytes = []; room = slice_index_or room 2 0 };
  begun = false;
  read_faults = 0;
  write_faults = 0;
}

abbrev pub contents_of : Memory → Contents
contents_of m = record { files = file_in m.files; rest = m.rest; out = m.out.bytes; err = m.err.bytes; log = m.log.bytes; keeps = true }

-- the same where what is given to Log is dropped until a log was begun
abbrev pub dropping_contents_of : Memory → Contents
dropping_contents_of m = record (contents_of m) { keeps = m.begun }

abbrev pub room_of : To → Memory → ℕ
room_of outputs.Out m = m.out.room
room_of outputs.Err m = m.err.room
room_of outputs.Log m = m.log.room

-- the number after this one; a count stands still at the greatest u64
abbrev pub next : ℕ → ℕ
next count = min (count + 1) 18446744073709551615

-- the number of the next call, from 1, is among those that fail
abbrev pub CallFails : Memory → Type 0
CallFails m = Contains m.fails (next m.calls)

-- an output has no room left
abbrev pub IsFull : To → Memory → Type 0
IsFull to m = room_of to m ≤ length (output_of to (contents_of m))

-- no call changes these
pub record KeepsSetting (old new : Memory) : Type 0 where
  pub files : new.files ≡ old.files
  pub fails : new.fails ≡ old.fails
  pub most : new.most ≡ old.most
  pub out_room : new.out.room ≡ old.out.room
  pub err_room : new.err.room ≡ old.err.room
  pub log_room : new.log.room ≡ old.log.room
