use Rattle.std.proofs.Common.{◌+◌, ap, arith}
use Rattle.cc_trail.specs.Links.{NodesView}
use Rattle.cc_trail.proofs.LinkViews.{within_here, counts_here, links_then_moved, view_moved}
use Rattle.cc_trail.proofs.links.Links.transfer.Goals as goal

pub next-link-requires : goal.next-link-requires
next-link-requires c =
    (within_here c.self.inside c.args.self.now c.self.view_is c.self.invariant c.args.node c.requires.first (c.args.node + 1) (omega arith)).0

pub put-requires : goal.put-requires
put-requires c =
    let here = (within_here c.self.inside c.args.self.now c.self.view_is c.self.invariant c.args.node c.requires.first (c.args.node + 1) (omega arith)).0 in
    let same = (counts_here c.self.inside c.args.self.now c.self.view_is c.self.invariant c.args.node c.requires.first (c.args.node + 1) (omega arith) c.next-link.result c.next-link.ensures c.relink.new.heads.items c.relink.new.nodes.next
    c.relink.ensures.heads (ap (λ (v : NodesView). v.next) c.relink.ensures.nodes)).1 in
    omega (arith, here, same)

pub overflow_add-node : goal.overflow_add-node
overflow_add-node c =
    let here = (within_here c.self.inside c.args.self.now c.self.view_is c.self.invariant c.args.node c.requires.first (c.args.node + 1) (omega arith)).0 in
    let few = c.self.invariant.next_few in
    omega (arith, here)

pub invariant_of-self : goal.invariant_of-self
invariant_of-self c =
    rw (c.put.ensures, ap (λ (v : NodesView). v.watched) c.relink.ensures.nodes)
    (links_then_moved c.self.inside c.args.self.now c.self.view_is c.self.invariant c.args.node c.requires.first (c.args.node + 1) (omega arith) c.next-link.result c.next-link.ensures c.relink.new.heads.items c.relink.new.nodes.next
    c.relink.ensures.heads (ap (λ (v : NodesView). v.next) c.relink.ensures.nodes) c.args.lit c.requires.over c.requires.apart c.code-code.result c.code-code.ensures c.index-first.result.now c.index-first.ensures)

pub returns : goal.returns
returns c =
    rw (c.put.ensures, ap (λ (v : NodesView). v.watched) c.relink.ensures.nodes)
    (view_moved c.self.inside c.args.self.now c.self.view_is c.self.invariant c.args.node c.requires.first (c.args.node + 1) (omega arith) c.next-link.result c.next-link.ensures c.relink.new.heads.items c.relink.new.nodes.next
    c.relink.ensures.heads (ap (λ (v : NodesView). v.next) c.relink.ensures.nodes) c.args.lit c.requires.over c.requires.apart c.code-code.result c.code-code.ensures c.index-first.result.now c.index-first.ensures)
