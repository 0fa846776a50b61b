use Rattle.std.proofs.Common.{arith}
use Rattle.std.proofs.lemmas.List.{length-map}
use Rattle.cc_sorts.proofs.Reading.{within}
use Rattle.cc_sorts.proofs.sorts.Sorts.name.Goals as goal

pub name-requires : goal.name-requires
name-requires c = omega (arith, (within c.self.inside c.args.self.now c.self.view_is c.self.invariant c.args.sort c.requires), length-map c.self.inside.names (λ entry. entry.0))
