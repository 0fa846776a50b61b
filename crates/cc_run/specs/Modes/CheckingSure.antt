-- Surecheck mode: a log of impossible atoms is judged.
use Rattle.std.specs.Prelude.{ℕ, List, codes, None}
use Rattle.cc_check.specs.declared.silent.SilentVerdict.{SilentVerdict}
use Rattle.cc_check.specs.Silent.{IsSilentFault, IsSilentVerdict, IsSilentVerdictWithin}
use Rattle.cc_defs.specs.declared.refusal.Fault.TheVariants as faults
use Rattle.cc_defs.specs.Description.{Description}
use Rattle.cc_defs.specs.Resolved.{Query}
use Rattle.cc_describe.specs.declared.heads.Heads.TheVariants as heads
use Rattle.cc_describe.specs.Describing.{AreToOpen}
use Rattle.cc_describe.specs.Places.{Files}
use Rattle.cc_run.specs.Judging.{Judging, judging_promise}
use Rattle.cc_run.specs.Modes.Surely.{NamesUnclaimed, RefusesClaimed}
use Rattle.cc_list.specs.Promises.{Promise}
use Rattle.cc_list.specs.Tasks.{Named}
use Rattle.cc_silent.specs.SureLogs.{RefutesAtoms, sure_subject}
use Rattle.cc_tell_modes.specs.SilentVerdicts.{silent_verdict_line, silent_verdict_status}
use Rattle.cc_words.specs.Requests.{SureChecking}

abbrev pub named_to_check : SureChecking → Named
named_to_check checking = record { file = checking.file; query = checking.query; after = None }

-- The verdict on a log. Where it is accepted, no history has an atom that it names.
pub record IsSureVerdictOn (of : Description × Query) (bytes : List ℕ) (verdict : SilentVerdict) : Type 0 where
  pub judged : IsSilentVerdict (sure_subject of.0 of.1) bytes verdict
  pub within : IsSilentVerdictWithin (sure_subject of.0 of.1) bytes verdict
  pub refutes : RefutesAtoms of.0 of.1 bytes verdict

abbrev pub sure_judging : Judging (Description × Query) SilentVerdict
sure_judging = record {
  Is = IsSureVerdictOn;
  Passes = λ of bytes refusal. IsSilentFault (sure_subject of.0 of.1) bytes (faults.Refused refusal);
  line = silent_verdict_line (codes "impossible");
  status = silent_verdict_status;
}

-- what a log is to be one of
abbrev pub NamesSure : SureChecking → Files → Description × Query → Type 0
NamesSure checking files of = NamesUnclaimed files (named_to_check checking) of.0 of.1

abbrev pub sure_checking_promise : SureChecking → Promise
sure_checking_promise checking =
    judging_promise sure_judging (λ files. RefusesClaimed files (named_to_check checking)) (NamesSure checking) (λ files. AreToOpen heads.Definite files checking.file) checking.log
