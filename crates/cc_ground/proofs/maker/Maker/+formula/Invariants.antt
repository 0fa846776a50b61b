use Rattle.std.proofs.Common.{ℕ}
use Rattle.cc_defs.specs.Resolved.{plain_formula}
use Rattle.cc_defs.specs.Nodes.{term_of}
use Rattle.cc_defs.specs.Satisfaction.{bind}
use Rattle.cc_ground.specs.Bindings.{environment_of}
use Rattle.cc_ground.specs.Views.{universe_in}
use Rattle.cc_ground.proofs.Putting.{InstancesSoFar}
use Rattle.cc_ground.proofs.maker.Maker.+formula.Given as goal

abbrev pub invariant-put_instances-loop-object : goal.invariant-put_instances-loop-object
invariant-put_instances-loop-object l =
    InstancesSoFar (λ (object : ℕ). term_of (universe_in l.fn.self) (bind l.variable object (environment_of l.fn.self.env)) (plain_formula l.formula)) l.objects l.object-index l.fn.self l.self
