use Rattle.std.proofs.Common.{◌≡◌, ◌-◌}
use Rattle.cc_defs.specs.ClauseLists.{position_variables}
use Rattle.cc_tests_clauses.proofs.cdcl.write_values.Given as goal

abbrev pub invariant-loop-variable : goal.invariant-loop-variable
invariant-loop-variable l = l.values.items ≡ position_variables l.first (l.variable - l.first)
