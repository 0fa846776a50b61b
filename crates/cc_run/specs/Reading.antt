-- A mode that begins by reading a description, and what is known of that.
use Rattle.std.specs.Prelude.{◌≡◌, List, ◌++◌, Err, IfOk, Result}
use Rattle.cc_defs.specs.declared.refusal.Fault.{Fault}
use Rattle.cc_defs.specs.declared.refusal.Fault.TheVariants as faults
use Rattle.cc_defs.specs.declared.refusal.Refusal.{Refusal}
use Rattle.cc_describe.specs.declared.description.DescribedWide.{DescribedWide}
use Rattle.cc_describe.specs.declared.heads.Heads.{Heads}
use Rattle.cc_describe.specs.Describing.{AreToOpen, AsksFormulas, HasForms, HasWideForms, SaysAllWide}
use Rattle.cc_describe.specs.FirstRefusal.{file_named}
use Rattle.cc_describe.specs.Places.{Files}
use Rattle.cc_list.specs.Promises.{Promise}
use Rattle.cc_list.specs.Tasks.{RefusesDescriptionFor}
use Rattle.cc_ports.specs.Moments.{Moment}
use Rattle.cc_tell.specs.declared.status.Status.{Status}
use Rattle.cc_tell.specs.declared.status.Status.TheVariants as statuses
use Rattle.cc_tell.specs.declared.status.Stop.{Stop}
use Rattle.cc_tell.specs.declared.status.Stop.TheVariants as stops
use Rattle.cc_tell.specs.ErrLines.{refusal_text}
use Rattle.cc_tell.specs.Givens.{only_err}
use Rattle.cc_tell.specs.Steps.{Step}
use Rattle.cc_words.specs.Words.{Text}

-- what is known of a description that was read, whatever the desk tells
pub record IsReadWell (which : Heads) (said : DescribedWide) : Type 0 where
  pub says : SaysAllWide which said
  pub forms : HasForms said.described
  pub wide_forms : HasWideForms said
  pub formulas : AsksFormulas said.described

-- A promise of a mode that reads the description of this file, and opens these files behind it: what is refused of the description is
-- refused, and the files of the description are opened first.
pub record BeginsByReading (promise : Promise) (which : Heads) (file : Text) (behind : List Text) : Type 0 where
  pub refuses : (files : Files) (refusal : Refusal) (name : Text) → RefusesDescriptionFor which files file refusal name → promise.Refuses files refusal name
  pub opens : (files : Files) (names : List Text) → AreToOpen which files file names → promise.Opens files (names ++ behind)
  pub may : promise.MayEnd statuses.Refused

-- What is refused of a description with these files is told, or memory was wanting.
abbrev pub TellsFault : List Text → Fault → (old new : Moment) → Result Status Stop → Type 0
TellsFault names (faults.Refused refusal) old new result =
    Step (only_err (refusal_text refusal (file_named names refusal))) old new result × IfOk result (λ status. status ≡ statuses.Refused)
TellsFault names faults.OutOfMemory old new result = (new ≡ old) × (result ≡ Err stops.OutOfMemory)
