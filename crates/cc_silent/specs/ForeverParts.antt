-- What an induction of a log is of.
use Rattle.std.specs.Prelude.{◌≤◌, List}
use Rattle.cc_arena.specs.declared.ground_laws.GroundLaw.{GroundLaw}
use Rattle.cc_defs.specs.Description.{Description}
use Rattle.cc_defs.specs.GroundLaws.{PlainGroundQuery, StandsForQuery}
use Rattle.cc_defs.specs.Limits.{most_steps}
use Rattle.cc_defs.specs.Resolved.{Query}
use Rattle.cc_defs.specs.Signatures.{Signature}
use Rattle.cc_form.specs.Queries.{IsQueryAt}
use Rattle.cc_silent.specs.declared.forever.ForeverHeading.{ForeverHeading}
use Rattle.cc_silent.specs.declared.forever.ForeverHeading.TheVariants as headings
use Rattle.cc_theory.specs.Theories.{AreLawsFor, AreLawsOf}

-- a signature, its laws and a query
pub record InductionView : Type 0 where
  pub signature : Signature
  pub laws : List GroundLaw
  pub query : PlainGroundQuery

-- they are those of this query of this description
pub record IsInductionOf (induction : InductionView) (d : Description) (q : Query) : Type 0 where
  pub laws : AreLawsOf induction.signature induction.laws d
  pub query : StandsForQuery induction.query d q

-- the axioms of each horizon from the least one on can be made, and those of each step
pub record IsInductive (induction : InductionView) : Type 0 where
  pub laws_fit : AreLawsFor induction.signature induction.laws
  pub asked : IsQueryAt induction.signature induction.query.lo induction.query

-- a horizon from the query's least one on, or a step, within the limit
abbrev pub CanBeFormed : InductionView → ForeverHeading → Type 0
CanBeFormed induction (headings.Horizon horizon) = (induction.query.lo ≤ horizon) × (horizon ≤ most_steps)
CanBeFormed induction (headings.Steps steps) = steps ≤ most_steps
