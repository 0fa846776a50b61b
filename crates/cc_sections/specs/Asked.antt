-- What is asked of a description.
use Rattle.std.specs.Prelude.{◌≤◌, ℕ, List}
use Rattle.cc_arena.specs.declared.ground_laws.GroundLaw.{GroundLaw}
use Rattle.cc_defs.specs.Limits.{most_steps}
use Rattle.cc_defs.specs.GroundLaws.{PlainGroundQuery}
use Rattle.cc_defs.specs.Signatures.{Signature}
use Rattle.cc_form.specs.Queries.{IsQueryAt}
use Rattle.cc_theory.specs.Theories.{AreLawsFor}

-- ground laws over the constants of a signature, and a query that may be asked at the horizons of its range
pub record AreAskable (signature : Signature) (laws : List GroundLaw) (query : PlainGroundQuery) : Type 0 where
  pub laws_fit : AreLawsFor signature laws
  pub most : query.hi ≤ most_steps
  pub steps : (horizon : ℕ) → query.lo ≤ horizon → horizon ≤ query.hi → IsQueryAt signature horizon query
