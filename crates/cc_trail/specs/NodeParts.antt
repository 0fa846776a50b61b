-- How the nodes of chains, as they are kept, make what their holder sees.
use Rattle.std.specs.Prelude.{ℕ, map}
use Rattle.cc_defs.specs.Clauses.{Literal}
use Rattle.cc_trail.specs.Links.{NodesView}
use Rattle.cc_trail.specs.declared.nodes.Node.{Node}
use Rattle.cc_trail.specs.declared.nodes.Nodes.TheInside.{Inside}

abbrev pub next_of : Node → ℕ
next_of node = node.next

abbrev pub literal_of : Node → Literal
literal_of node = node.lit

abbrev pub view_of : Inside → NodesView
view_of nodes = record { next = map next_of nodes.nodes.items; watched = map literal_of nodes.nodes.items }
