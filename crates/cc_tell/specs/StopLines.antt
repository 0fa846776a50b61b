-- How a stop is told: its line, and the status behind it.
use Rattle.std.specs.Prelude.{◌≡◌, ℕ, ◌⊎◌, ◌≤◌, List, [], option_map}
use Rattle.cc_ports.specs.declared.desk.To.TheVariants as outputs
use Rattle.cc_ports.specs.Contents.{IsPrefix, Rose}
use Rattle.cc_ports.specs.Moments.{Moment}
use Rattle.cc_tell.specs.declared.status.Status.{Status}
use Rattle.cc_tell.specs.declared.status.Status.TheVariants as statuses
use Rattle.cc_tell.specs.declared.status.Stop.{Stop}
use Rattle.cc_tell.specs.declared.status.Stop.TheVariants as stops
use Rattle.cc_tell.specs.ErrLines.{memory_line, read_fault_line, write_fault_line}
use Rattle.cc_tell.specs.Steps.{Called}
use Rattle.cc_tell.specs.Givens.{adding, given_to}

-- the line of a stop, the status with it whole, and the status where it was cut
abbrev pub stop_line : Stop → List ℕ
stop_line stops.ReadFault = read_fault_line
stop_line stops.WriteFault = write_fault_line
stop_line stops.OutOfMemory = memory_line

abbrev pub stop_status : Stop → Status
stop_status stops.ReadFault = statuses.ReadFault
stop_status stops.WriteFault = statuses.WriteFault
stop_status stops.OutOfMemory = statuses.OutOfMemory

abbrev pub cut_status : Stop → Status
cut_status stops.ReadFault = statuses.WriteFault
cut_status stops.WriteFault = statuses.WriteFault
cut_status stops.OutOfMemory = statuses.OutOfMemory

-- so much of the line of a stop was given, with this status
pub record TellsStop (stop : Stop) (old new : Moment) (status : Status) : Type 0 where
  pub line : List ℕ
  pub told : new.told ≡ option_map (adding (given_to outputs.Err line)) old.told
  pub how : ((line ≡ stop_line stop) × (status ≡ stop_status stop)) ⊎ (IsPrefix line (stop_line stop) × (status ≡ cut_status stop) × Rose old.writes new.writes)
  pub begun : new.begun ≡ old.begun
  pub called : Called [] [] old new
  pub reads : old.reads ≤ new.reads
  pub writes : old.writes ≤ new.writes
