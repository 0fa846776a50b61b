use Rattle.std.proofs.Common.{◌≡◌}
use Rattle.cc_sorts.specs.Steps.{behind_all}
use Rattle.cc_sorts.proofs.Walks.{first_numbers}
use Rattle.cc_sorts.proofs.register.Register.put_numbers.Given as goal

abbrev pub invariant-loop-more : goal.invariant-loop-more
invariant-loop-more l = l.self ≡ behind_all l.initial.self (first_numbers l.sort l.low l.more)
