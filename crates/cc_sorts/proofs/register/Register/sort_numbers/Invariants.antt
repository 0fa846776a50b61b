use Rattle.std.proofs.Common.{◌≡◌, map, take}
use Rattle.cc_defs.specs.Declarations.{number_in}
use Rattle.cc_sorts.proofs.register.Register.sort_numbers.Given as goal

abbrev pub invariant-loop-name : goal.invariant-loop-name
invariant-loop-name l = l.numbers.items ≡ map (number_in l.self.sorts.names) (map (λ name. name.now) (take l.name-index l.names))
