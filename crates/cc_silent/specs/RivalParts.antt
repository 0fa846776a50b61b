-- The parts of a heading of rivals, and what the rivals of a log are of.
use Rattle.std.specs.Prelude.{◌≡◌, ℕ, ◌≤◌, List, [], ◌∷◌}
use Rattle.cc_log.specs.Fronts.{IsNumberAt}
use Rattle.cc_defs.specs.declared.lists.Key.{Key}
use Rattle.cc_defs.specs.GroundLaws.{PlainGroundQuery, StandsForQuery}
use Rattle.cc_defs.specs.Limits.{most_steps}
use Rattle.cc_defs.specs.Resolved.{Query}
use Rattle.cc_defs.specs.Rows.{IsRow}
use Rattle.cc_defs.specs.Signatures.{Signature}
use Rattle.cc_form.specs.Places.{position_sizes}
use Rattle.cc_form.specs.Queries.{IsQueryAt}
use Rattle.cc_rivals.specs.Wides.{AreWideLawsFor, AreWideLawsOf}
use Rattle.cc_wide.specs.declared.ground.WideGroundLaw.{WideGroundLaw}
use Rattle.cc_wide.specs.WideLaws.{WideDescription, frame}

-- a text begins with a number and a colon, and this is behind it
abbrev pub IsHorizonAt : List ℕ → (number : ℕ) → List ℕ → Type 0
IsHorizonAt text number behind = IsNumberAt text number (58 ∷ behind)

-- it is these indexes, at least one, with a comma between each two, and a line feed
abbrev pub AreIndexes : List ℕ → List ℕ → Type 0
AreIndexes text [] = ⊥
AreIndexes text (index ∷ []) = IsNumberAt text index (10 ∷ [])
AreIndexes text (index ∷ next ∷ row) = (behind : List ℕ) × IsNumberAt text index (44 ∷ behind) × AreIndexes behind (next ∷ row)

-- it is the indexes of a row, and a line feed
abbrev pub IsRowText : List ℕ → List ℕ → Type 0
IsRowText text [] = text ≡ 10 ∷ []
IsRowText text (index ∷ row) = AreIndexes text (index ∷ row)

-- a signature, its laws and a query
pub record RivalsView : Type 0 where
  pub signature : Signature
  pub laws : List WideGroundLaw
  pub query : PlainGroundQuery

-- they are those of this query of this description
pub record AreRivalsOf (rivals : RivalsView) (w : WideDescription) (q : Query) : Type 0 where
  pub laws : AreWideLawsOf rivals.signature rivals.laws w
  pub query : StandsForQuery rivals.query (frame w) q

-- candidates of each horizon of the range can be told
pub record AreRivals (rivals : RivalsView) : Type 0 where
  pub laws_fit : AreWideLawsFor rivals.signature rivals.laws
  pub most : rivals.query.hi ≤ most_steps
  pub steps : (horizon : ℕ) → rivals.query.lo ≤ horizon → horizon ≤ rivals.query.hi → IsQueryAt rivals.signature horizon rivals.query

-- a key is a row of the positions of its horizon, which is one of the query's
pub record IsRowKey (rivals : RivalsView) (key : Key) : Type 0 where
  pub least : rivals.query.lo ≤ key.horizon
  pub most : key.horizon ≤ rivals.query.hi
  pub is_row : IsRow (position_sizes rivals.signature key.horizon) key.row
