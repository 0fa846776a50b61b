use Rattle.std.proofs.Common.{◌≡◌, take}
use Rattle.cc_sorts.specs.Instances.{rows_by}
use Rattle.cc_sorts.specs.Shown.{shown}
use Rattle.cc_sorts.proofs.register.Register.rows.Given as goal

abbrev pub invariant-loop-sort : goal.invariant-loop-sort
invariant-loop-sort l = l.rows.items ≡ rows_by (shown l.self).sorts (take l.sort-index l.sorts)
