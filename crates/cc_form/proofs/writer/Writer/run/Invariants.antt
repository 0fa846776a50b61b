use Rattle.std.proofs.Common.{drop}
use Rattle.cc_form.specs.Machine.{moved_nodes}
use Rattle.cc_form.proofs.Running.{RunsOn}
use Rattle.cc_form.proofs.writer.Writer.run.Given as goal

abbrev pub invariant-loop-node : goal.invariant-loop-node
invariant-loop-node l = RunsOn l.initial.self l.self (moved_nodes l.offset l.term) (drop l.node-index (moved_nodes l.offset l.term))
