use Rattle.std.proofs.Common.{◌≡◌}
use Rattle.cc_dimacs.specs.Cnfs.{twos}
use Rattle.cc_dimacs.proofs.form.two_values.Given as goal

abbrev pub invariant-loop : goal.invariant-loop
invariant-loop l = l.sizes.items ≡ twos l.counter
