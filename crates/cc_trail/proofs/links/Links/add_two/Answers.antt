use Rattle.std.proofs.Common.{ap}
use Rattle.cc_trail.specs.Links.{NodesView}
use Rattle.cc_trail.proofs.LinkViews.{links_then_added, view_added}
use Rattle.cc_trail.proofs.links.Links.add_two.Goals as goal

pub invariant_of-self-2 : goal.invariant_of-self-2
invariant_of-self-2 c =
    links_then_added c.self.inside c.args.self.now c.self.view_is c.self.invariant c.requires.none c.args.a c.args.b c.requires.a_over c.requires.b_over c.requires.apart
    c.count-count.result c.if-count-ge-MOST_NODES.false c.count-count.ensures c.code-first.result c.code-second.result
    c.code-first.ensures c.code-second.ensures c.index-one.result.now c.index-two.result.now c.index-one.ensures c.index-two.ensures
    c.add_two.new.self.next c.add_two.new.self.watched (ap (λ (v : NodesView). v.next) c.in_ok-add_two.ensures.added) (ap (λ (v : NodesView). v.watched) c.in_ok-add_two.ensures.added)

pub returns-clause-added : goal.returns-clause-added
returns-clause-added c =
    view_added c.self.inside c.args.self.now c.self.view_is c.self.invariant c.requires.none c.args.a c.args.b c.requires.a_over c.requires.b_over c.requires.apart
    c.count-count.result c.if-count-ge-MOST_NODES.false c.count-count.ensures c.code-first.result c.code-second.result
    c.code-first.ensures c.code-second.ensures c.index-one.result.now c.index-two.result.now c.index-one.ensures c.index-two.ensures
    c.add_two.new.self.next c.add_two.new.self.watched (ap (λ (v : NodesView). v.next) c.in_ok-add_two.ensures.added) (ap (λ (v : NodesView). v.watched) c.in_ok-add_two.ensures.added)
