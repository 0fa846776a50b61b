-- What why mode works on, what is refused of it, and how it is told.
use Rattle.std.specs.Prelude.{◌≡◌, ◌⊎◌, ◌↔◌, Bool, false, List, Result, IfOk, IsTrue, None, Some}
use Rattle.cc_arena.specs.declared.ground_laws.GroundLaw.{GroundLaw}
use Rattle.cc_defs.specs.declared.lists.Key.{Key}
use Rattle.cc_defs.specs.declared.refusal.Fault.{Fault}
use Rattle.cc_defs.specs.declared.refusal.Fault.TheVariants as faults
use Rattle.cc_defs.specs.Description.{Description}
use Rattle.cc_defs.specs.Paths.{IsPath}
use Rattle.cc_defs.specs.Signatures.{Signature}
use Rattle.cc_ground.specs.Counting.{laws_refusal}
use Rattle.cc_ports.specs.Moments.{Moment}
use Rattle.cc_run.specs.Modes.Why.{HasNoRow, IsToldWhy, IsRowNamed, RefusesRowOf}
use Rattle.cc_list.specs.Tasks.{refusal_without_place}
use Rattle.cc_list.specs.Wholes.{Whole}
use Rattle.cc_tell.specs.declared.status.Status.{Status}
use Rattle.cc_tell.specs.declared.status.Stop.{Stop}
use Rattle.cc_tell.specs.Steps.{Step}
use Rattle.cc_theory.specs.Theories.{AreLawsOf, rules_refusal}
use Rattle.cc_words.specs.Words.{Text}

-- no row has the text, or memory was wanting
abbrev pub IsRowFault : Description → Text → Fault → Type 0
IsRowFault d text (faults.Refused refusal) = HasNoRow d text × (refusal ≡ refusal_without_place 18)
IsRowFault d text faults.OutOfMemory = Unit {0}

-- the laws are refused, or the row behind them; or memory was wanting
abbrev pub IsWhyFault : Description → Text → Fault → Type 0
IsWhyFault d text (faults.Refused refusal) =
    (laws_refusal d.universe d.laws ≡ Some refusal) ⊎ ((laws_refusal d.universe d.laws ≡ None) × RefusesRowOf d text refusal)
IsWhyFault d text faults.OutOfMemory = Unit {0}

-- nothing of what is named is refused, and it was looked whether the row is a path
pub record IsLookedAt (d : Description) (signature : Signature) (text : Text) (laws : List GroundLaw) (key : Key) (is_path : Bool) : Type 0 where
  pub unrefused : laws_refusal d.universe d.laws ≡ None
  pub laws_are : AreLawsOf signature laws d
  pub named : IsRowNamed d text key
  pub rules : rules_refusal d key.horizon ≡ None
  pub path : IsTrue is_path ↔ IsPath d key.horizon key.row

-- a row is explained up to the end, or to a stop within
pub record TellsRow (d : Description) (names : List Text) (key : Key) (old new : Moment) (result : Result Status Stop) : Type 0 where
  pub whole : Whole
  pub explained : IsToldWhy d names key whole
  pub begun : whole.begun ≡ false
  pub step : Step whole.given old new result
  pub ended : IfOk result (λ status. whole.ends ≡ Some status)
