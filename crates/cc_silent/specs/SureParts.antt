-- The parts of a heading, and what the atoms of a log are of.
use Rattle.std.specs.Prelude.{◌≡◌, ℕ, ◌<◌, ◌≤◌, List, [], ◌∷◌, slice_get, Some}
use Rattle.cc_arena.specs.declared.ground_laws.GroundLaw.{GroundLaw}
use Rattle.cc_log.specs.Fronts.{IsNumberAt}
use Rattle.cc_defs.specs.Description.{Description}
use Rattle.cc_defs.specs.GroundLaws.{PlainGroundQuery, StandsForQuery}
use Rattle.cc_defs.specs.Limits.{most_steps}
use Rattle.cc_defs.specs.Resolved.{Query}
use Rattle.cc_defs.specs.Sections.{Axioms}
use Rattle.cc_defs.specs.Signatures.{Signature}
use Rattle.cc_form.specs.Queries.{IsQueryAt}
use Rattle.cc_theory.specs.Theories.{AreLawsFor, AreLawsOf}

-- a text begins with a number and a space, and this is behind them
abbrev pub IsPart : List ℕ → (number : ℕ) → List ℕ → Type 0
IsPart text number behind = IsNumberAt text number (32 ∷ behind)

abbrev pub HasNoPart : List ℕ → Type 0
HasNoPart text = (number : ℕ) (behind : List ℕ) → IsPart text number behind → ⊥

-- it is a number and a line feed
abbrev pub IsLastPart : List ℕ → (number : ℕ) → Type 0
IsLastPart text number = IsNumberAt text number (10 ∷ [])

-- axioms have an atom
abbrev pub HasAtom : Axioms → (position value : ℕ) → Type 0
HasAtom axioms position value = (size : ℕ) × (slice_get axioms.sizes position ≡ Some size) × (value < size)

-- a signature, its laws and a query
pub record AtomsView : Type 0 where
  pub signature : Signature
  pub laws : List GroundLaw
  pub query : PlainGroundQuery

-- they are those of this query of this description
pub record AreAtomsOf (atoms : AtomsView) (d : Description) (q : Query) : Type 0 where
  pub laws : AreLawsOf atoms.signature atoms.laws d
  pub query : StandsForQuery atoms.query d q

-- the axioms of each horizon of the range can be made
pub record AreAtoms (atoms : AtomsView) : Type 0 where
  pub laws_fit : AreLawsFor atoms.signature atoms.laws
  pub most : atoms.query.hi ≤ most_steps
  pub steps : (horizon : ℕ) → atoms.query.lo ≤ horizon → horizon ≤ atoms.query.hi → IsQueryAt atoms.signature horizon atoms.query
