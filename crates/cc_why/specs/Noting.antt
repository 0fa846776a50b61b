-- How one pass over ground laws notes the first cause of each position.
use Rattle.std.specs.Prelude.{◌≡◌, ℕ, ◌+◌, ◌<◌, ◌==◌, nat_lt, if◌then◌else◌, List, [], ◌∷◌, ◌++◌, length, slice_get, slice_index_or, Option, Some, None, IfSome}
use Rattle.std.specs.List.{AllByRecursion, find}
use Rattle.std.specs.Option.{option_map, option_or}
use Rattle.cc_arena.specs.declared.ground_laws.GroundLaw.{GroundLaw}
use Rattle.cc_defs.specs.declared.signature.Const.{Const}
use Rattle.cc_defs.specs.declared.signature.LawKind.{LawKind}
use Rattle.cc_defs.specs.declared.signature.LawKind.TheVariants as law_kinds
use Rattle.cc_defs.specs.Forms.{is_simple}
use Rattle.cc_defs.specs.Signatures.{Signature}
use Rattle.cc_defs.specs.TimedRules.{TimedRule}
use Rattle.cc_theory.specs.declared.rule.Timed.{Timed}
use Rattle.cc_theory.specs.Making.{rule_of}
use Rattle.cc_theory.specs.Theories.{IsRuleOf}
use Rattle.cc_why.specs.Causes.{Sourced, sourced, is_reason}
use Rattle.cc_why.specs.declared.cause.Cause.{Cause}
use Rattle.cc_why.specs.declared.cause.Cause.TheVariants as causes
use Rattle.cc_why.specs.Meeting.{IsRuleIn, size_at}

-- ---- causes that need no law

-- each value of a simple fluent at step 0 is a cause of itself
abbrev pub initial_cause : Option Const → Option Cause
initial_cause (Some fluent) = if is_simple fluent.kind then Some causes.Initial else None
initial_cause None = None

-- that of a position: its constant has one value, or it is a simple fluent of step 0
abbrev pub first_of : Signature → ℕ → Option Cause
first_of signature position = if size_at signature position == 1 then Some causes.OneValue else initial_cause (slice_get signature.fluents position)

-- ---- the rules of laws at a step

-- the step of the head of the rule that a law has at a step, if it has one there
abbrev pub head_step : LawKind → (horizon step : ℕ) → Option ℕ
head_step law_kinds.Static horizon step = Some step
head_step law_kinds.ActionDynamic horizon step = if nat_lt step horizon then Some step else None
head_step law_kinds.FluentDynamic horizon step = if nat_lt step horizon then Some (step + 1) else None

-- the `after` part of a law at a step
abbrev pub after_at : GroundLaw → ℕ → Option Timed
after_at law step = option_map (λ nodes. record { step = step; nodes = nodes }) law.after

-- what a law means where its head stands at a step: a rule with the law's base as its cause; and nothing where it has no rule
abbrev pub MeansAt : ℕ → ℕ → GroundLaw → Option ℕ → List Sourced → Type 0
MeansAt stride step law (Some now) own =
    (rule : TimedRule) × IsRuleOf stride (rule_of stride law now step) rule × (own ≡ sourced (causes.Law law.base) rule ∷ [])
MeansAt stride step law None own = own ≡ []

-- what ground laws mean at a step, in order
abbrev pub MeanAt : (stride horizon step : ℕ) → List GroundLaw → List Sourced → Type 0
MeanAt stride horizon step [] meant = meant ≡ []
MeanAt stride horizon step (law ∷ laws) meant =
    (own others : List Sourced) × MeansAt stride step law (head_step law.kind horizon step) own × MeanAt stride horizon step laws others
    × (meant ≡ own ++ others)

-- the rules of ground laws at a step are rules of a row of so many positions
abbrev pub StandIn : (count stride horizon step : ℕ) → List GroundLaw → Type 0
StandIn count stride horizon step laws =
    AllByRecursion (λ law. IfSome (head_step law.kind horizon step) (λ now. IsRuleIn count stride (rule_of stride law now step))) laws

-- ---- notes

-- the cause by the first of some rules that causes the value of a row at a position
abbrev pub found_in : List ℕ → ℕ → List Sourced → Option Cause
found_in row position rules = option_map (λ one. one.cause) (find (is_reason row position) rules)

-- where no cause was noted before, that by the first of some rules is now
pub record AreNoted (row : List ℕ) (rules : List Sourced) (old new : List (Option Cause)) : Type 0 where
  pub long : length new ≡ length old
  pub each : (position : ℕ) → position < length old →
      slice_index_or new position None ≡ option_or (slice_index_or old position None) (found_in row position rules)
