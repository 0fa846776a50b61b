use Rattle.cc_trail.proofs.Linked.{links_made}
use Rattle.cc_trail.proofs.links.Links.new.Goals as goal

pub invariant_of-result : goal.invariant_of-result
invariant_of-result c = rw c.new.ensures (rw (c.in_ok-heads.ensures.items_if_clones_equal (λ y e. e)) (links_made c.args.variables c.requires))
