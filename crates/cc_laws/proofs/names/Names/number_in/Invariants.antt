use Rattle.std.proofs.Common.{◌≡◌, drop}
use Rattle.cc_laws.specs.Resolving.{number_in}
use Rattle.cc_laws.specs.Views.{scope_of}
use Rattle.cc_laws.proofs.Scopes.{found_in}
use Rattle.cc_laws.proofs.names.Names.number_in.Given as goal

abbrev pub invariant-loop-binding : goal.invariant-loop-binding
invariant-loop-binding l = found_in l.found (drop l.binding-index l.binding-items) l.variable ≡ number_in (scope_of l.self) l.variable
