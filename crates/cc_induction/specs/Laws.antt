-- What is asked of the queries of an induction: of a query at later horizons, and of that of its step.
use Rattle.std.specs.Prelude.{◌≤◌, ℕ}
use Rattle.cc_defs.specs.Description.{Description}
use Rattle.cc_defs.specs.GroundLaws.{PlainGroundQuery, StandsForQuery}
use Rattle.cc_defs.specs.Resolved.{Query}
use Rattle.cc_defs.specs.Signatures.{Signature}
use Rattle.cc_form.specs.Queries.{IsQueryAt}
use Rattle.cc_induction.specs.Induction.{step_query}
use Rattle.cc_induction.specs.Steps.{ground_step}

-- A query that is asked at a horizon is asked at each later one.
abbrev pub QueriesAreAskedLater : Type 0
QueriesAreAskedLater = (signature : Signature) (query : PlainGroundQuery) (horizon later : ℕ) → horizon ≤ later →
    IsQueryAt signature horizon query → IsQueryAt signature later query

-- The ground query of a step is asked over so many steps, and stands for the step of each query that the ground query stands for.
abbrev pub StepsAreAsked : Type 0
StepsAreAsked = (signature : Signature) (query : PlainGroundQuery) → IsQueryAt signature query.lo query → (count : ℕ) →
    IsQueryAt signature count (ground_step query count)
    × ((d : Description) (q : Query) → StandsForQuery query d q → StandsForQuery (ground_step query count) d (step_query q count))
