use Rattle.cc_log.proofs.WrittenBytes.{written_lines_are_entries}
use Rattle.cc_log.proofs.theorems.written_lines_are_entries.Goals as goal

pub returns : goal.returns
returns c = written_lines_are_entries
