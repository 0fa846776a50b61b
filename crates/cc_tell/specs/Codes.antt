-- The exit codes.
use Rattle.std.specs.Prelude.{ℕ}
use Rattle.cc_tell.specs.declared.status.Status.{Status}
use Rattle.cc_tell.specs.declared.status.Status.TheVariants as statuses

abbrev pub code_of : Status → ℕ
code_of statuses.Right = 0
code_of statuses.Not = 1
code_of statuses.Refused = 2
code_of statuses.Spent = 3
code_of statuses.ReadFault = 4
code_of statuses.WriteFault = 5
code_of statuses.OutOfMemory = 6
code_of statuses.Asked = 7
