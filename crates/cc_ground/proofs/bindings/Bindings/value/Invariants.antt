use Rattle.std.proofs.Common.{◌≡◌, length}
use Rattle.cc_defs.specs.Satisfaction.{giving}
use Rattle.cc_ground.specs.Bindings.{bound_over, environment_of}
use Rattle.cc_ground.proofs.bindings.Bindings.value.Given as goal

abbrev pub invariant-loop-last : goal.invariant-loop-last
invariant-loop-last l = bound_over l.left (giving l.self.values) l.variable ≡ environment_of l.self l.variable

abbrev pub decreases-loop-last : goal.decreases-loop-last
decreases-loop-last l = length l.left
