-- What the rules with their causes have to do with the theory.
use Rattle.std.specs.Prelude.{◌≡◌, ℕ, map}
use Rattle.cc_defs.specs.Description.{Description}
use Rattle.cc_defs.specs.TimedRules.{timed_rules}
use Rattle.cc_why.specs.Causes.{Sourced, sourced_rules}

-- The rules of a horizon with their causes are the rules of the horizon, in the same order.
abbrev pub SourcedAreRules : Type 0
SourcedAreRules = (d : Description) (horizon : ℕ) → map (λ (one : Sourced). one.rule) (sourced_rules d horizon) ≡ timed_rules d horizon
