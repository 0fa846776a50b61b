-- The clause list as it is made from rules in time, conditions and a claim whose terms are nodes.
use Rattle.std.specs.Prelude.{ℕ, zero, suc, ◌+◌, ◌-◌, ◌*◌, ◌≤◌, Bool, true, false, if◌then◌else◌, List, [], ◌∷◌, ◌++◌, map, Option, Some, None, IfSome, slice_index, slice_index_or}
use Rattle.cc_defs.specs.Limits.{most_steps}
use Rattle.cc_defs.specs.declared.node.Node.{Node}
use Rattle.cc_defs.specs.declared.node.Node.TheVariants as nodes
use Rattle.cc_defs.specs.ClauseForms.{Made, positive, true_variable, all_written}
use Rattle.cc_defs.specs.ClauseLists.{Asserted, Bodied, ClauseList, MadeRules, asserted, completion_from, denials_of, is_certain, positions_from}
use Rattle.cc_defs.specs.Clauses.{Literal, opposite}
use Rattle.cc_defs.specs.Rules.{upto}
use Rattle.cc_defs.specs.Terms.{IsTermOver}
use Rattle.cc_theory.specs.declared.rule.Timed.{Timed}
use Rattle.cc_theory.specs.declared.rule.TimedHead.{TimedHead}
use Rattle.cc_theory.specs.declared.rule.TimedHead.TheVariants as timed_heads
use Rattle.cc_theory.specs.declared.rule.TimedRule.{TimedRule}
use Rattle.cc_theory.specs.Theories.{plain_head}
use Rattle.cc_form.specs.Machine.{made_nodes, moved_nodes, plain_made}

-- ---- bodies

abbrev pub is_true_node : Node → Bool
is_true_node nodes.True = true
is_true_node nodes.False = false
is_true_node (nodes.Atom constant value) = false
is_true_node nodes.Not = false
is_true_node (nodes.All count) = false
is_true_node (nodes.Any count) = false
is_true_node nodes.Same = false

-- the nodes of the formula `true`
abbrev pub is_truth : List Node → Bool
is_truth [] = false
is_truth (node ∷ []) = is_true_node node
is_truth (node ∷ more ∷ term) = false

abbrev pub head_nodes : TimedHead → List Node
head_nodes (timed_heads.Atom position value) = nodes.Atom position value ∷ []
head_nodes timed_heads.Falsity = nodes.True ∷ []

abbrev pub joined_nodes : List Node → List Node → List Node
joined_nodes now before = if is_truth now then before else (if is_truth before then now else now ++ before ++ nodes.All 2 ∷ [])

abbrev pub part_nodes : ℕ → Timed → List Node
part_nodes stride timed = moved_nodes (timed.step * stride) timed.nodes.now

abbrev pub body_of : ℕ → TimedHead → Option Timed → Option Timed → List Node
body_of stride head None before = head_nodes head
body_of stride head (Some now) None = part_nodes stride now
body_of stride head (Some now) (Some before) = joined_nodes (part_nodes stride now) (part_nodes stride before)

abbrev pub body_nodes : ℕ → TimedRule → List Node
body_nodes stride rule = body_of stride rule.head rule.now rule.before

-- its parts are terms over the positions, at steps of a horizon
pub record IsBodyOver (sizes : List ℕ) (stride : ℕ) (rule : TimedRule) : Type 0 where
  pub head : IsTermOver sizes (head_nodes rule.head)
  pub now : IfSome rule.now (λ timed. (timed.step ≤ most_steps) × IsTermOver sizes (part_nodes stride timed))
  pub before : IfSome rule.before (λ timed. (timed.step ≤ most_steps) × IsTermOver sizes (part_nodes stride timed))

-- that of a rule that does not count is T
abbrev pub made_rule : List ℕ → ℕ → ℕ → TimedRule → Made
made_rule sizes stride last rule =
    if is_certain sizes (plain_head rule.head) then plain_made (positive (true_variable sizes)) last else made_nodes sizes last (body_nodes stride rule)

abbrev pub made_bodies : List ℕ → ℕ → ℕ → List TimedRule → MadeRules
made_bodies sizes stride last [] = record { rules = []; last = last; clauses = [] }
made_bodies sizes stride last (rule ∷ rules) =
    let made = made_rule sizes stride last rule
    in let others = made_bodies sizes stride made.last rules
    in record {
      rules = (record { head = plain_head rule.head; body = made.literal }) ∷ others.rules;
      last = others.last;
      clauses = made.clauses ++ others.clauses;
    }

-- rules with the literals of their bodies
abbrev pub bodied : List TimedRule → List Literal → List Bodied
bodied [] bodies = []
bodied (rule ∷ rules) [] = []
bodied (rule ∷ rules) (body ∷ bodies) = (record { head = plain_head rule.head; body = body }) ∷ bodied rules bodies

-- the literals of these numbers
abbrev pub picked : List Literal → List ℕ → List Literal
picked bodies numbers = map (λ number. slice_index_or bodies number (positive 0)) numbers

-- ---- conditions, claim and key

abbrev pub asserted_nodes : List ℕ → ℕ → List (List Node) → Asserted
asserted_nodes sizes last [] = record { last = last; clauses = [] }
asserted_nodes sizes last (term ∷ terms) =
    let made = made_nodes sizes last term
    in let others = asserted_nodes sizes made.last terms
    in record { last = others.last; clauses = made.clauses ++ (made.literal ∷ []) ∷ others.clauses }

abbrev pub denied_nodes : List ℕ → ℕ → Option (List Node) → Asserted
denied_nodes sizes last None = record { last = last; clauses = [] }
denied_nodes sizes last (Some term) =
    let made = made_nodes sizes last term
    in asserted made (opposite made.literal)

-- a claim where it is asked for
abbrev pub nodes_if : Bool → Option (List Node) → Option (List Node)
nodes_if true claim = claim
nodes_if false claim = None

-- that the position has one of the values above this one
abbrev pub nodes_above : ℕ → ℕ → ℕ → List Node
nodes_above position value count = map (λ more. nodes.Atom position (value + 1 + more)) (upto count)

-- ---- the whole list

abbrev pub list_over : List ℕ → ℕ → List TimedRule → List (List Node) → Option (List Node) → List (List Node) → ClauseList
list_over sizes stride rules conditions claim key =
    let bodies = made_bodies sizes stride (true_variable sizes) rules
    in let query = asserted_nodes sizes bodies.last conditions
    in let denied = denied_nodes sizes query.last claim
    in let later = asserted_nodes sizes denied.last key
    in record {
      variables = later.last;
      clauses = (positive (true_variable sizes) ∷ []) ∷ positions_from 1 sizes
          ++ bodies.clauses
          ++ all_written (completion_from sizes bodies.rules 0 sizes)
          ++ all_written (denials_of bodies.rules)
          ++ query.clauses ++ denied.clauses ++ later.clauses;
    }

-- ---- the nodes of the formula that a row lies after a key, one position behind another

-- a value above that of the key, and that of the key
abbrev pub key_part : ℕ → (size index : ℕ) → List Node
key_part position size index = nodes_above position index (size - (index + 1)) ++ nodes.Any (size - (index + 1)) ∷ [] ++ nodes.Atom position index ∷ []

abbrev pub key_down : List ℕ → List ℕ → ℕ → List Node
key_down sizes row zero = []
key_down sizes row (suc position) = key_down sizes row position ++ key_part position (slice_index sizes position) (slice_index row position)

abbrev pub key_up : ℕ → List Node
key_up zero = []
key_up (suc count) = key_up count ++ nodes.All 2 ∷ nodes.Any 2 ∷ []

-- ---- the list in two parts

-- that of rules
abbrev pub rules_list : List ℕ → ℕ → List TimedRule → Asserted
rules_list sizes stride rules =
    let bodies = made_bodies sizes stride (true_variable sizes) rules
    in record {
      last = bodies.last;
      clauses = (positive (true_variable sizes) ∷ []) ∷ positions_from 1 sizes
          ++ bodies.clauses
          ++ all_written (completion_from sizes bodies.rules 0 sizes)
          ++ all_written (denials_of bodies.rules);
    }

-- and that of a query and a key behind it
abbrev pub query_list : List ℕ → ℕ → List (List Node) → Option (List Node) → List (List Node) → Asserted
query_list sizes last conditions claim key =
    let query = asserted_nodes sizes last conditions
    in let denied = denied_nodes sizes query.last claim
    in let later = asserted_nodes sizes denied.last key
    in record { last = later.last; clauses = query.clauses ++ denied.clauses ++ later.clauses }
