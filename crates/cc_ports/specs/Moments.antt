-- What is known of a desk at a moment.
use Rattle.std.specs.Prelude.{ℕ, Bool, List, Option}
use Rattle.cc_ports.specs.Calls.{Call}
use Rattle.cc_ports.specs.Contents.{Contents}

-- What it tells of its files and outputs, where it tells anything; whether a log was begun; how many faults of reading and of writing
-- there were; and which calls were made of it, in order, those that failed among them, where it keeps a record of them.
pub record Moment : Type 0 where
  pub told : Option Contents
  pub begun : Bool
  pub reads : ℕ
  pub writes : ℕ
  pub calls : Option (List Call)
