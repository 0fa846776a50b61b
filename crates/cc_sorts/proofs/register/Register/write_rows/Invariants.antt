use Rattle.std.proofs.Common.{◌≡◌, ◌++◌, map}
use Rattle.cc_sorts.specs.Instances.{constant_by}
use Rattle.cc_sorts.specs.Shown.{shown}
use Rattle.cc_sorts.proofs.register.Register.write_rows.Given as goal

abbrev pub invariant-loop-args : goal.invariant-loop-args
invariant-loop-args l = l.written.items ≡ l.initial.written.items ++ map (constant_by (shown l.self).sorts l.number l.symbol) l.yielded
