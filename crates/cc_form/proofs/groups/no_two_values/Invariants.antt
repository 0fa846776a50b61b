use Rattle.std.proofs.Common.{◌-◌}
use Rattle.cc_defs.specs.ClauseLists.{pairs_denied, position_variables}
use Rattle.cc_form.proofs.Choices.{Done}
use Rattle.cc_form.proofs.groups.no_two_values.Given as goal

abbrev pub invariant-loop-low : goal.invariant-loop-low
invariant-loop-low l = Done l.initial.store.kept l.store.kept (pairs_denied (position_variables l.low (l.end - l.low))) (pairs_denied (position_variables l.first (l.end - l.first)))
