-- The rules of a horizon as they are made from ground laws: a middle term between the loops and the rules of a description.
use Rattle.std.specs.Prelude.{ℕ, ◌+◌, ◌*◌, nat_lt, if◌then◌else◌, List, [], ◌∷◌, ◌++◌, length, map, flat_map, Option, Some, None}
use Rattle.std.specs.Option.{option_map}
use Rattle.cc_arena.specs.declared.ground_laws.GroundLaw.{GroundLaw}
use Rattle.cc_defs.specs.declared.node.GroundHead.{GroundHead}
use Rattle.cc_defs.specs.declared.node.GroundHead.TheVariants as heads
use Rattle.cc_defs.specs.declared.signature.Const.{Const}
use Rattle.cc_defs.specs.declared.signature.Kind.{Kind}
use Rattle.cc_defs.specs.declared.signature.Kind.TheVariants as kinds
use Rattle.cc_defs.specs.declared.signature.LawKind.{LawKind}
use Rattle.cc_defs.specs.declared.signature.LawKind.TheVariants as law_kinds
use Rattle.cc_defs.specs.Rules.{upto}
use Rattle.cc_defs.specs.Signatures.{Signature}
use Rattle.cc_theory.specs.declared.rule.TimedHead.{TimedHead}
use Rattle.cc_theory.specs.declared.rule.TimedHead.TheVariants as timed_heads
use Rattle.cc_theory.specs.declared.rule.TimedRule.{TimedRule}

abbrev pub stride_of : Signature → ℕ
stride_of signature = length signature.fluents + length signature.actions

-- ---- initial rules

abbrev pub initial_rule : ℕ → ℕ → TimedRule
initial_rule number value = record { head = timed_heads.Atom number value; now = None; before = None }

abbrev pub initial_of : Kind → ℕ → ℕ → List TimedRule
initial_of kinds.Simple number size = map (initial_rule number) (upto size)
initial_of kinds.Determined number size = []
initial_of kinds.Action number size = []

abbrev pub all_initial : ℕ → List Const → List TimedRule
all_initial number [] = []
all_initial number (constant ∷ constants) = initial_of constant.kind number (length constant.domain) ++ all_initial (number + 1) constants

-- ---- rules of laws

abbrev pub head_at : ℕ → ℕ → GroundHead → TimedHead
head_at stride step (heads.Atom constant value) = timed_heads.Atom (step * stride + constant) value
head_at stride step heads.Falsity = timed_heads.Falsity

abbrev pub rule_of : ℕ → GroundLaw → ℕ → ℕ → TimedRule
rule_of stride law now before = record {
  head = head_at stride now law.head;
  now = Some (record { step = now; nodes = law.body });
  before = option_map (λ nodes. record { step = before; nodes = nodes }) law.after;
}

-- at a step, by the kind of the law
abbrev pub rule_of_kind : LawKind → ℕ → ℕ → ℕ → GroundLaw → Option TimedRule
rule_of_kind law_kinds.Static stride horizon step law = Some (rule_of stride law step step)
rule_of_kind law_kinds.ActionDynamic stride horizon step law = if nat_lt step horizon then Some (rule_of stride law step step) else None
rule_of_kind law_kinds.FluentDynamic stride horizon step law = if nat_lt step horizon then Some (rule_of stride law (step + 1) step) else None

abbrev pub rule_at : ℕ → ℕ → ℕ → GroundLaw → Option TimedRule
rule_at stride horizon step law = rule_of_kind law.kind stride horizon step law

-- an optional rule as a list
abbrev pub rules_in : Option TimedRule → List TimedRule
rules_in None = []
rules_in (Some rule) = rule ∷ []

abbrev pub rules_at_step : ℕ → List GroundLaw → ℕ → ℕ → List TimedRule
rules_at_step stride laws horizon step = flat_map (λ law. rules_in (rule_at stride horizon step law)) laws

abbrev pub rules_for : Signature → List GroundLaw → ℕ → List TimedRule
rules_for signature laws horizon =
    all_initial 0 signature.fluents ++ flat_map (rules_at_step (stride_of signature) laws horizon) (upto (horizon + 1))

-- ---- how many

-- at how many steps a law of a kind has a rule
abbrev pub turns : LawKind → ℕ → ℕ
turns law_kinds.Static horizon = horizon + 1
turns law_kinds.ActionDynamic horizon = horizon
turns law_kinds.FluentDynamic horizon = horizon
