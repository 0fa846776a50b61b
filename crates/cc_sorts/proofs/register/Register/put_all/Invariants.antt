use Rattle.std.proofs.Common.{◌≡◌, take}
use Rattle.cc_sorts.specs.Declaring.{plain_declarations}
use Rattle.cc_sorts.specs.Steps.{behind_all}
use Rattle.cc_sorts.proofs.register.Register.put_all.Given as goal

abbrev pub invariant-loop-declaration : goal.invariant-loop-declaration
invariant-loop-declaration l = l.self ≡ behind_all l.initial.self (plain_declarations l.file l.line (take l.declaration-index l.new))
