-- What the clause list of a query at a horizon tells, whoever makes it.
use Rattle.std.specs.Prelude.{ℕ, ◌≤◌, true, List, None}
use Rattle.cc_arena.specs.declared.ground_laws.GroundLaw.{GroundLaw}
use Rattle.cc_defs.specs.Description.{Description}
use Rattle.cc_defs.specs.GroundLaws.{PlainGroundQuery, StandsForQuery}
use Rattle.cc_defs.specs.Limits.{most_steps}
use Rattle.cc_defs.specs.Resolved.{Query}
use Rattle.cc_defs.specs.Signatures.{Signature}
use Rattle.cc_form.specs.Forms.{TellsHistories, form_of}
use Rattle.cc_form.specs.Queries.{IsQueryAt}
use Rattle.cc_theory.specs.Theories.{AreLawsFor, AreLawsOf}

-- its rows are the histories of the query
abbrev pub ListsTellHistories : Type 0
ListsTellHistories = (signature : Signature) (laws : List GroundLaw) (query : PlainGroundQuery) → AreLawsFor signature laws →
    (d : Description) (q : Query) → AreLawsOf signature laws d → StandsForQuery query d q →
    (horizon : ℕ) → horizon ≤ most_steps → IsQueryAt signature horizon query → TellsHistories d q horizon None (form_of d q horizon true None)
