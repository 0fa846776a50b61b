use Rattle.std.proofs.Common.{◌≡◌, ◌++◌, ◌-◌}
use Rattle.cc_form.specs.Places.{position_sizes}
use Rattle.cc_rivals.proofs.positions.sizes_of.Given as goal

abbrev pub invariant-loop-step : goal.invariant-loop-step
invariant-loop-step l = l.sizes.items ++ position_sizes l.sig (l.horizon - l.step) ≡ position_sizes l.sig l.horizon
