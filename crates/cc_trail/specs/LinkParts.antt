-- How the parts of links make what their holder sees, and what is always true of them.
use Rattle.std.specs.Prelude.{◌≡◌, ℕ, ◌+◌, ◌*◌, ◌<◌, ◌≤◌, zero, suc, List, [], ◌∷◌, length, get_or, set}
use Rattle.cc_defs.specs.Clauses.{Literal, IsIn, IsLiteralOver}
use Rattle.cc_defs.specs.Limits.{most_variables}
use Rattle.cc_trail.specs.Links.{LinksView, watched_at, code_of}
use Rattle.cc_trail.specs.declared.links.Links.TheInside.{Inside}

-- the nodes of a chain. A head, or what is next of a node, is 0 at the end and else one more than the node.
abbrev pub IsChain : List ℕ → ℕ → List ℕ → Type 0
IsChain next head [] = head ≡ 0
IsChain next head (node ∷ nodes) = (head ≡ suc node) × (node < length next) × IsChain next (get_or next node 0) nodes

-- at most so many nodes of a chain
abbrev pub chain_of : ℕ → List ℕ → ℕ → List ℕ
chain_of zero next head = []
chain_of (suc most) next zero = []
chain_of (suc most) next (suc node) = node ∷ chain_of most next (get_or next node 0)

-- the link that a walk has come to: the head of the chain, or what is next of the node before
abbrev pub link_at : List ℕ → List ℕ → ℕ → ℕ → ℕ
link_at heads next walked zero = get_or heads walked 0
link_at heads next walked (suc node) = get_or next node 0

-- the heads and what is next of each node where this link is changed
abbrev pub heads_relinked : List ℕ → ℕ → ℕ → ℕ → List ℕ
heads_relinked heads walked zero link = set heads walked link
heads_relinked heads walked (suc node) link = heads

abbrev pub next_relinked : List ℕ → ℕ → ℕ → List ℕ
next_relinked next zero link = next
next_relinked next (suc node) link = set next node link

abbrev pub view_of : Inside → LinksView
view_of links = record {
  variables = links.variables;
  watched = links.nodes.watched;
  ahead = chain_of (length links.nodes.next) links.nodes.next (link_at links.heads.items links.nodes.next links.walked links.before);
}

-- Each head has a chain, whose nodes watch the literal of its code, and each node is in the chain of its literal. The node
-- that a walk went past last is in the chain that it walks.
pub record IsLinked (heads next : List ℕ) (watched : List Literal) (walked before : ℕ) : Type 0 where
  pub nodes : ℕ → List ℕ
  pub chains : (code : ℕ) → IsChain next (get_or heads code 0) (nodes code)
  pub watching : (code node : ℕ) → IsIn (nodes code) node → code_of (watched_at watched node) ≡ code
  pub listed : (node : ℕ) → node < length next → IsIn (nodes (code_of (watched_at watched node))) node
  pub passed : (node : ℕ) → before ≡ suc node → IsIn (nodes walked) node

pub record AreLinks (variables : ℕ) (heads next : List ℕ) (watched : List Literal) (walked before : ℕ) : Type 0 where
  pub variables_few : variables ≤ most_variables
  pub heads_count : length heads ≡ 2 * variables + 2
  pub next_count : length next ≡ length watched
  pub next_few : length next ≤ 4294967000
  pub over : (node : ℕ) → node < length watched → IsLiteralOver variables (watched_at watched node)
  pub walked_low : walked < length heads
  pub linked : IsLinked heads next watched walked before

abbrev pub IsLinks : Inside → Type 0
IsLinks links = AreLinks links.variables links.heads.items links.nodes.next links.nodes.watched links.walked links.before
