use Rattle.cc_sorts.proofs.Placing.{objects_fewer}
use Rattle.cc_sorts.proofs.objects.Objects.pop.Goals as goal

pub invariant_of-self : goal.invariant_of-self
invariant_of-self c = objects_fewer c.self.inside.names c.pop.new.self c.self.inside.numbers.items c.pop-2.new.self.items c.self.inside.places.entries c.self.inside.numbers.len c.self.invariant c.self.inside.numbers.ok.0 c.pop.ensures c.pop-2.ensures.rest
