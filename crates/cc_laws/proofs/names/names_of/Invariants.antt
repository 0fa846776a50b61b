use Rattle.std.proofs.Common.{◌≡◌, [], drop}
use Rattle.cc_laws.specs.Resolving.{numbered_from}
use Rattle.cc_laws.specs.Views.{inside}
use Rattle.cc_laws.proofs.names.names_of.Given as goal

abbrev pub invariant-loop-place : goal.invariant-loop-place
invariant-loop-place l = inside [] l.bindings.items ≡ numbered_from l.place (drop l.place l.variables)
