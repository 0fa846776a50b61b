-- Generalcheck mode: a log of rivals is judged.
use Rattle.std.specs.Prelude.{ℕ, List, codes, None}
use Rattle.cc_check.specs.Silent.{IsSilentFault, IsSilentVerdict, IsSilentVerdictWithin}
use Rattle.cc_check.specs.declared.silent.SilentVerdict.{SilentVerdict}
use Rattle.cc_defs.specs.declared.refusal.Fault.TheVariants as faults
use Rattle.cc_defs.specs.Resolved.{Query}
use Rattle.cc_describe.specs.declared.heads.Heads.TheVariants as heads
use Rattle.cc_describe.specs.Describing.{AreToOpen}
use Rattle.cc_describe.specs.Places.{Files}
use Rattle.cc_silent.specs.GeneralLogs.{ProvesHistories, general_subject}
use Rattle.cc_run.specs.Judging.{Judging, judging_promise}
use Rattle.cc_run.specs.Modes.Generally.{NamesWide, RefusesGenerally}
use Rattle.cc_list.specs.Promises.{Promise}
use Rattle.cc_list.specs.Tasks.{Named}
use Rattle.cc_tell_modes.specs.SilentVerdicts.{silent_verdict_line, silent_verdict_status}
use Rattle.cc_wide.specs.WideLaws.{WideDescription}
use Rattle.cc_words.specs.Requests.{GeneralChecking}

abbrev pub named_for_general : GeneralChecking → Named
named_for_general checking = record { file = checking.file; query = checking.query; after = None }

-- The verdict on a log. Where it is accepted, each row that it names is a history.
pub record IsGeneralVerdictOn (of : WideDescription × Query) (bytes : List ℕ) (verdict : SilentVerdict) : Type 0 where
  pub judged : IsSilentVerdict (general_subject of.0 of.1) bytes verdict
  pub within : IsSilentVerdictWithin (general_subject of.0 of.1) bytes verdict
  pub proves : ProvesHistories of.0 of.1 bytes verdict

abbrev pub general_judging : Judging (WideDescription × Query) SilentVerdict
general_judging = record {
  Is = IsGeneralVerdictOn;
  Passes = λ of bytes refusal. IsSilentFault (general_subject of.0 of.1) bytes (faults.Refused refusal);
  line = silent_verdict_line (codes "histories");
  status = silent_verdict_status;
}

-- what a log is to be one of
abbrev pub NamesGeneral : GeneralChecking → Files → WideDescription × Query → Type 0
NamesGeneral checking files of = NamesWide files (named_for_general checking) of.0 of.1

abbrev pub general_checking_promise : GeneralChecking → Promise
general_checking_promise checking =
    judging_promise general_judging (λ files. RefusesGenerally files (named_for_general checking)) (NamesGeneral checking) (λ files. AreToOpen heads.Any files checking.file) checking.log
