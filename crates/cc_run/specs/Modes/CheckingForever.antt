-- Forevercheck mode: a log of an induction over horizons is judged.
use Rattle.std.specs.Prelude.{◌≡◌, ℕ, List, None}
use Rattle.cc_check.specs.Silent.{IsSilentFault, IsSilentVerdict, IsSilentVerdictWithin}
use Rattle.cc_defs.specs.declared.refusal.Fault.TheVariants as faults
use Rattle.cc_defs.specs.Description.{Description}
use Rattle.cc_defs.specs.Resolved.{Query}
use Rattle.cc_defs.specs.Runs.{range_of}
use Rattle.cc_describe.specs.declared.heads.Heads.TheVariants as heads
use Rattle.cc_describe.specs.Describing.{AreToOpen}
use Rattle.cc_describe.specs.Places.{Files}
use Rattle.cc_list.specs.Promises.{Promise}
use Rattle.cc_list.specs.Tasks.{Named, RefusesNamed}
use Rattle.cc_run.specs.Judging.{Judging, judging_promise}
use Rattle.cc_run.specs.Modes.Proving.{NamesQuery}
use Rattle.cc_silent.specs.ForeverLogs.{ProvesNever, as_silent, forever_subject}
use Rattle.cc_tell_modes.specs.declared.forever.JudgedForever.{JudgedForever}
use Rattle.cc_tell_modes.specs.ForeverTexts.{forever_verdict_line, forever_verdict_status}
use Rattle.cc_words.specs.Requests.{ForeverChecking}

abbrev pub named_to_check : ForeverChecking → Named
named_to_check checking = record { file = checking.file; query = checking.query; after = None }

-- The verdict on a log. Where it is accepted, no horizon has a history, from the least one on, without an end.
pub record IsForeverVerdictOn (of : Description × Query) (bytes : List ℕ) (judged : JudgedForever) : Type 0 where
  pub least : judged.least ≡ (range_of of.1).0
  pub verdict : IsSilentVerdict (forever_subject of.0 of.1) bytes (as_silent judged.found)
  pub within : IsSilentVerdictWithin (forever_subject of.0 of.1) bytes (as_silent judged.found)
  pub proves : ProvesNever of.0 of.1 (as_silent judged.found)

abbrev pub forever_judging : Judging (Description × Query) JudgedForever
forever_judging = record {
  Is = IsForeverVerdictOn;
  Passes = λ of bytes refusal. IsSilentFault (forever_subject of.0 of.1) bytes (faults.Refused refusal);
  line = λ judged. forever_verdict_line judged.least judged.found;
  status = λ judged. forever_verdict_status judged.found;
}

-- what a log is to be one of
abbrev pub NamesForever : ForeverChecking → Files → Description × Query → Type 0
NamesForever checking files of = NamesQuery files (named_to_check checking) of.0 of.1

abbrev pub forever_checking_promise : ForeverChecking → Promise
forever_checking_promise checking =
    judging_promise forever_judging (λ files. RefusesNamed files (named_to_check checking)) (NamesForever checking) (λ files. AreToOpen heads.Definite files checking.file) checking.log
