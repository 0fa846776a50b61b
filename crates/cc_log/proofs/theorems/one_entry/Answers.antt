use Rattle.cc_log.proofs.EntryBytes.{one_entry}
use Rattle.cc_log.proofs.theorems.one_entry.Goals as goal

pub returns : goal.returns
returns c = one_entry
