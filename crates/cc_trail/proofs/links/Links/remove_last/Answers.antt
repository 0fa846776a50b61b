use Rattle.std.proofs.Common.{◌≡◌, ◌∙◌, ◌+◌, ◌-◌, ℕ, length, take, sym, ap, arith}
use Rattle.cc_trail.specs.Links.{LinksView, NodesView}
use Rattle.cc_trail.proofs.LinkViews.{links_then_removed, view_removed}
use Rattle.cc_trail.proofs.links.Links.remove_last.Goals as goal

last_here : (c : goal.After-self-2-1) → c.count-last.result - 1 ≡ length c.self-2.inside.nodes.watched - 1
last_here c =
    ap (λ (n : ℕ). n - 1)
    (c.count-last.ensures ∙ ap (λ (v : LinksView). length v.watched) c.self.view_is ∙
    sym (ap (λ (v : LinksView). length v.watched) c.self-2.view_is ∙ ap length c.walk_to.ensures.watched))

pub invariant_of-self : goal.invariant_of-self
invariant_of-self c =
    links_then_removed c.self-2.inside c.walk_to.new.self c.self-2.view_is c.self-2.invariant (c.count-last.result - 1) c.walk_to.ensures.first (c.count-last.result - 1 + 1) (omega arith)
    c.next-link.result c.next-link.ensures c.relink.new.heads.items c.relink.new.nodes.next c.relink.ensures.heads (ap (λ (v : NodesView). v.next) c.relink.ensures.nodes)
    (last_here c) c.remove_last.new.self.next (ap (λ (v : NodesView). v.next) c.remove_last.ensures) c.remove_last.new.self.watched
    (ap (λ (v : NodesView). v.watched) c.remove_last.ensures ∙ ap (λ (v : NodesView). take (length v.watched - 1) v.watched) c.relink.ensures.nodes)

pub returns : goal.returns
returns c =
    view_removed c.self-2.inside c.walk_to.new.self c.self-2.view_is c.self-2.invariant (c.count-last.result - 1) c.walk_to.ensures.first (c.count-last.result - 1 + 1) (omega arith)
    c.next-link.result c.next-link.ensures c.relink.new.heads.items c.relink.new.nodes.next c.relink.ensures.heads (ap (λ (v : NodesView). v.next) c.relink.ensures.nodes)
    (last_here c) c.remove_last.new.self.next (ap (λ (v : NodesView). v.next) c.remove_last.ensures) c.remove_last.new.self.watched
    (ap (λ (v : NodesView). v.watched) c.remove_last.ensures ∙ ap (λ (v : NodesView). take (length v.watched - 1) v.watched) c.relink.ensures.nodes) ∙
    (λ i. record {
      variables = c.walk_to.ensures.variables i;
      watched = take (length (c.walk_to.ensures.watched i) - 1) (c.walk_to.ensures.watched i);
      ahead = sym c.requires.none i;
    })
