-- The fields of a desk in memory.
use Rattle.std.specs.Prelude.{ℕ, ◌<◌, List, [], drop, Option, Some, None}
use Rattle.cc_ports.specs.Memory.{Memory, bytes_at}
use Rattle.cc_ports.specs.declared.memory.MemoryDesk.TheInside.{Inside}

-- what is left of the file being read
abbrev pub rest_of : List (List ℕ × List ℕ) → Option ℕ → ℕ → List ℕ
rest_of files None at = []
rest_of files (Some place) at = drop at (bytes_at files place)

abbrev pub memory_of : Inside → Memory
memory_of m = record {
  files = m.files;
  fails = m.fails;
  most = m.most;
  calls = m.calls;
  rest = rest_of m.files m.reading m.at;
  out = m.out;
  err = m.err;
  log = m.log;
  begun = m.begun;
  read_faults = m.read_faults;
  write_faults = m.write_faults;
}

-- a read gives at least one byte where one is left
abbrev pub IsKept : Inside → Type 0
IsKept m = 0 < m.most
