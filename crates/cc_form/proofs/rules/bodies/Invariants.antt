use Rattle.std.proofs.Common.{drop}
use Rattle.cc_form.proofs.Bodies.{BodiesSoFar}
use Rattle.cc_form.proofs.rules.bodies.Given as goal

abbrev pub invariant-loop-rule : goal.invariant-loop-rule
invariant-loop-rule l = BodiesSoFar l.initial.writer l.writer l.stride l.bodies.items (drop l.rule-index l.rules) l.rules
