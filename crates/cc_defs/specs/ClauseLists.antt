-- The clause list of a section: the axioms of the search for histories at a horizon (completion; Clark, 1978).
use Rattle.std.specs.Prelude.{ℕ, ◌+◌, ◌-◌, Bool, true, false, not, ◌&&◌, ◌==◌, nat_lt, if◌then◌else◌, List, [], ◌∷◌, ◌++◌, map, flat_map, slice_index_or, Option, Some, None}
use Rattle.std.specs.List.{filter}
use Rattle.std.specs.Option.{option_map}
use Rattle.cc_defs.specs.declared.lists.Key.{Key}
use Rattle.cc_defs.specs.declared.node.GroundHead.{GroundHead}
use Rattle.cc_defs.specs.declared.node.GroundHead.TheVariants as heads
use Rattle.cc_defs.specs.ClauseForms.{Made, positive, atom_variable, true_variable, all_written, made_of}
use Rattle.cc_defs.specs.Clauses.{Literal, opposite}
use Rattle.cc_defs.specs.Description.{Description, sizes_at}
use Rattle.cc_defs.specs.Histories.{step_of}
use Rattle.cc_defs.specs.Nodes.{term_of}
use Rattle.cc_defs.specs.Resolved.{Condition, Query}
use Rattle.cc_defs.specs.Rules.{upto}
use Rattle.cc_defs.specs.Satisfaction.{giving}
use Rattle.cc_defs.specs.Terms.{Ground, all_of, any_of}
use Rattle.cc_defs.specs.Terms as terms
use Rattle.cc_defs.specs.TimedRules.{TimedRule, timed_rules, at_step}

-- ---- exactly one value of each position

abbrev pub pairs_denied : List Literal → List (List Literal)
pairs_denied [] = []
pairs_denied (u ∷ others) = map (λ v. opposite u ∷ opposite v ∷ []) others ++ pairs_denied others

-- the variables of a position whose first one this is
abbrev pub position_variables : ℕ → ℕ → List Literal
position_variables first size = map (λ value. positive (first + value)) (upto size)

-- one of them is true, and no two are
abbrev pub exactly_one : List Literal → List (List Literal)
exactly_one literals = literals ∷ pairs_denied literals

abbrev pub positions_from : ℕ → List ℕ → List (List Literal)
positions_from first [] = []
positions_from first (size ∷ sizes) = exactly_one (position_variables first size) ++ positions_from (first + size) sizes

-- ---- rules: completion

-- An atom of a position with one value needs no cause.
abbrev pub is_certain : List ℕ → GroundHead → Bool
is_certain sizes (heads.Atom position value) = slice_index_or sizes position 0 == 1
is_certain sizes heads.Falsity = false

-- a rule with the literal of its body
pub record Bodied : Type 0 where
  pub head : GroundHead
  pub body : Literal

pub record MadeRules : Type 0 where
  pub rules : List Bodied
  pub last : ℕ
  pub clauses : List (List Literal)

-- the bodies of the rules that count, in order
abbrev pub made_rules : List ℕ → ℕ → List TimedRule → MadeRules
made_rules sizes last [] = record { rules = []; last = last; clauses = [] }
made_rules sizes last (rule ∷ rules) =
    let made = made_of sizes last rule.body
    in let others = made_rules sizes made.last rules
    in record {
      rules = (record { head = rule.head; body = made.literal }) ∷ others.rules;
      last = others.last;
      clauses = made.clauses ++ others.clauses;
    }

abbrev pub rules_that_count : List ℕ → List TimedRule → List TimedRule
rules_that_count sizes rules = filter (λ rule. not (is_certain sizes rule.head)) rules

abbrev pub is_of_atom : ℕ → ℕ → GroundHead → Bool
is_of_atom position value (heads.Atom other index) = (position == other) && (value == index)
is_of_atom position value heads.Falsity = false

abbrev pub is_falsity : GroundHead → Bool
is_falsity (heads.Atom position value) = false
is_falsity heads.Falsity = true

abbrev pub bodies_of : ℕ → ℕ → List Bodied → List Literal
bodies_of position value rules = map (λ rule. rule.body) (filter (λ rule. is_of_atom position value rule.head) rules)

-- an atom is true exactly where one of the bodies of its rules is
abbrev pub completion_of : Literal → List Literal → List (List Literal)
completion_of atom bodies = (opposite atom ∷ bodies) ∷ map (λ body. atom ∷ opposite body ∷ []) bodies

abbrev pub position_completion : List ℕ → List Bodied → ℕ → ℕ → List (List Literal)
position_completion sizes rules position size =
    if nat_lt 1 size then flat_map (λ value. completion_of (positive (atom_variable sizes position value)) (bodies_of position value rules)) (upto size) else []

abbrev pub completion_from : List ℕ → List Bodied → ℕ → List ℕ → List (List Literal)
completion_from sizes rules position [] = []
completion_from sizes rules position (size ∷ others) = position_completion sizes rules position size ++ completion_from sizes rules (position + 1) others

-- no rule with head falsity has its body
abbrev pub denials_of : List Bodied → List (List Literal)
denials_of rules = map (λ rule. opposite rule.body ∷ []) (filter (λ rule. is_falsity rule.head) rules)

-- ---- the query

-- the term of a condition at its step
abbrev pub condition_term : Description → ℕ → Condition → Ground
condition_term d horizon condition = at_step d (step_of condition.at horizon) (term_of d.universe (giving []) condition.formula)

-- clauses and the number of the last variable
pub record Asserted : Type 0 where
  pub last : ℕ
  pub clauses : List (List Literal)

abbrev pub asserted : Made → Literal → Asserted
asserted made literal = record { last = made.last; clauses = made.clauses ++ (literal ∷ []) ∷ [] }

abbrev pub assert_all : List ℕ → ℕ → List Ground → Asserted
assert_all sizes last [] = record { last = last; clauses = [] }
assert_all sizes last (formula ∷ formulas) =
    let made = made_of sizes last formula
    in let others = assert_all sizes made.last formulas
    in record { last = others.last; clauses = made.clauses ++ (made.literal ∷ []) ∷ others.clauses }

-- the claim does not hold
abbrev pub deny : List ℕ → ℕ → Option Ground → Asserted
deny sizes last None = record { last = last; clauses = [] }
deny sizes last (Some formula) =
    let made = made_of sizes last formula
    in asserted made (opposite made.literal)

-- ---- the key: a row lies after it where it is greater at the first position at which they differ

abbrev pub values_above : ℕ → ℕ → ℕ → List Ground
values_above position value size = map (λ more. terms.Atom position (value + 1 + more)) (upto (size - (value + 1)))

abbrev pub after_key : ℕ → List ℕ → List ℕ → Ground
after_key position [] indexes = terms.Falsehood
after_key position (size ∷ sizes) [] = terms.Falsehood
after_key position (size ∷ sizes) (index ∷ indexes) =
    any_of (any_of (values_above position index size) ∷ all_of (terms.Atom position index ∷ after_key (position + 1) sizes indexes ∷ []) ∷ [])

abbrev pub key_terms : List ℕ → Option Key → List Ground
key_terms sizes None = []
key_terms sizes (Some key) = after_key 0 sizes key.row ∷ []

-- ---- the whole list

pub record ClauseList : Type 0 where
  pub variables : ℕ
  pub clauses : List (List Literal)

-- that of rules, conditions, a claim that is denied, and a key, over positions of these sizes
abbrev pub clauses_over : List ℕ → List TimedRule → List Ground → Option Ground → Option Key → ClauseList
clauses_over sizes rules conditions claim key =
    let bodies = made_rules sizes (true_variable sizes) (rules_that_count sizes rules)
    in let query = assert_all sizes bodies.last conditions
    in let denied = deny sizes query.last claim
    in let later = assert_all sizes denied.last (key_terms sizes key)
    in record {
      variables = later.last;
      clauses = (positive (true_variable sizes) ∷ []) ∷ positions_from 1 sizes
          ++ bodies.clauses
          ++ all_written (completion_from sizes bodies.rules 0 sizes)
          ++ all_written (denials_of bodies.rules)
          ++ query.clauses ++ denied.clauses ++ later.clauses;
    }

abbrev pub claim_if : Bool → Option Ground → Option Ground
claim_if true claim = claim
claim_if false claim = None

-- The clause list of a query at a horizon, with its claim denied or left out, after a key where there is one.
abbrev pub clause_list : Description → Query → ℕ → (with_claim : Bool) → Option Key → ClauseList
clause_list d q horizon with_claim key =
    clauses_over (sizes_at d horizon) (timed_rules d horizon) (map (condition_term d horizon) q.conditions)
    (claim_if with_claim (option_map (condition_term d horizon) q.claim)) key
