-- Clauses of a step of one horizon as those of a step of another: each variable is renamed, and each step of rules is a later one.
use Rattle.std.specs.Prelude.{ℕ, ◌+◌, ◌*◌, List, map}
use Rattle.std.specs.Option.{option_map}
use Rattle.cc_defs.specs.declared.node.GroundHead.{GroundHead}
use Rattle.cc_defs.specs.declared.node.GroundHead.TheVariants as heads
use Rattle.cc_defs.specs.ClauseForms.{Made, MadeAll}
use Rattle.cc_defs.specs.ClauseLists.{Bodied, MadeRules}
use Rattle.cc_defs.specs.Clauses.{Literal}
use Rattle.cc_theory.specs.declared.rule.Timed.{Timed}
use Rattle.cc_theory.specs.declared.rule.TimedHead.{TimedHead}
use Rattle.cc_theory.specs.declared.rule.TimedHead.TheVariants as timed_heads
use Rattle.cc_theory.specs.declared.rule.TimedRule.{TimedRule}

-- ---- renamed variables

abbrev pub renamed : (ℕ → ℕ) → Literal → Literal
renamed name literal = record { variable = name literal.variable; positive = literal.positive }

abbrev pub renamed_clauses : (ℕ → ℕ) → List (List Literal) → List (List Literal)
renamed_clauses name clauses = map (map (renamed name)) clauses

-- the last variable is so many further on
abbrev pub renamed_made : (ℕ → ℕ) → ℕ → Made → Made
renamed_made name high made = record { literal = renamed name made.literal; last = made.last + high; clauses = renamed_clauses name made.clauses }

abbrev pub renamed_all : (ℕ → ℕ) → ℕ → MadeAll → MadeAll
renamed_all name high made = record { literals = map (renamed name) made.literals; last = made.last + high; clauses = renamed_clauses name made.clauses }

-- ---- later steps

-- the head of a position that lies so many behind
abbrev pub head_behind : ℕ → GroundHead → GroundHead
head_behind by (heads.Atom position value) = heads.Atom (by + position) value
head_behind by heads.Falsity = heads.Falsity

abbrev pub renamed_bodied : (ℕ → ℕ) → ℕ → Bodied → Bodied
renamed_bodied name by rule = record { head = head_behind by rule.head; body = renamed name rule.body }

abbrev pub renamed_rules : (ℕ → ℕ) → (high by : ℕ) → MadeRules → MadeRules
renamed_rules name high by made = record { rules = map (renamed_bodied name by) made.rules; last = made.last + high; clauses = renamed_clauses name made.clauses }

abbrev pub timed_head_behind : ℕ → TimedHead → TimedHead
timed_head_behind by (timed_heads.Atom position value) = timed_heads.Atom (by + position) value
timed_head_behind by timed_heads.Falsity = timed_heads.Falsity

abbrev pub timed_behind : ℕ → Timed → Timed
timed_behind steps timed = record { step = steps + timed.step; nodes = timed.nodes }

-- the rule so many steps later
abbrev pub rule_behind : (stride steps : ℕ) → TimedRule → TimedRule
rule_behind stride steps rule = record {
  head = timed_head_behind (steps * stride) rule.head;
  now = option_map (timed_behind steps) rule.now;
  before = option_map (timed_behind steps) rule.before;
}
