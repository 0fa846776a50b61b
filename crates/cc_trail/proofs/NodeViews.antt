-- What the holder of nodes sees after one of them has changed.
use Rattle.std.proofs.Common.{◌≡◌, ℕ, List, get_or, set, map, refl, subst, ap}
use Rattle.std.proofs.lemmas.List.{map-set}
use Rattle.std.proofs.Math.Seq.{map-set_same}
use Rattle.cc_trail.specs.Links.{NodesView}
use Rattle.cc_trail.specs.NodeParts.{next_of, literal_of}
use Rattle.cc_trail.specs.declared.nodes.Node.{Node}

-- nodes in a list, as their holder sees them
abbrev pub seen : List Node → NodesView
seen items = record { next = map next_of items; watched = map literal_of items }

pub put_in : (items : List Node) (old : NodesView) (is : seen items ≡ old) (node : ℕ) (it : Node) →
    seen (set items node it) ≡ record { next = set old.next node it.next; watched = set old.watched node it.lit }
put_in items old is node it =
    subst (λ (v : NodesView). ◌≡◌ {A = NodesView} (seen (set items node it)) (record { next = set v.next node it.next; watched = set v.watched node it.lit })) is
    (rw (map-set next_of items node it, map-set literal_of items node it) refl)

pub linked_in : (items : List Node) (old : NodesView) (is : seen items ≡ old) (node next : ℕ) (before : Node) (found : before ≡ get_or items node before) →
    seen (set items node (record before { next = next })) ≡ record old { next = set old.next node next }
linked_in items old is node next before found =
    subst (λ (v : NodesView). ◌≡◌ {A = NodesView} (seen (set items node (record before { next = next }))) (record v { next = set v.next node next })) is
    (rw (map-set next_of items node (record before { next = next }), map-set_same literal_of items node (record before { next = next }) before (ap literal_of found)) refl)
