use Rattle.std.proofs.Common.{rules}
use Rattle.cc_ports.proofs.memory.MemoryDeskDesk.open_file.Goals as goal

pub returns-then-begin_call-clause-failed : goal.returns-then-begin_call-clause-failed
returns-then-begin_call-clause-failed c = (c.args.self.now.rest, search rules)

pub returns-in-None-clause-failed : goal.returns-in-None-clause-failed
returns-in-None-clause-failed c = (c.args.self.now.rest, search rules)
