-- Modelscheck mode: a log of models is judged.
use Rattle.std.specs.Prelude.{◌≡◌, ℕ, [], ◌∷◌, List}
use Rattle.cc_defs.specs.declared.log.LogVerdict.{LogVerdict}
use Rattle.cc_defs.specs.Logs.{IsVerdict}
use Rattle.cc_describe.specs.Places.{Files}
use Rattle.cc_dimacs.specs.Cnfs.{PlainCnf, IsModelOf, cnf_axioms}
use Rattle.cc_judge.specs.Single.{BlocksAll, subject_over}
use Rattle.cc_print.specs.Models.{models_verdict_line}
use Rattle.cc_run.specs.Judging.{Judging, judging_promise}
use Rattle.cc_run.specs.Modes.Checking.{verdict_status}
use Rattle.cc_run.specs.Modes.Modelling.{IsCnfIn, RefusesCnf}
use Rattle.cc_list.specs.Promises.{Promise}
use Rattle.cc_words.specs.Requests.{ModelChecking}

-- The verdict on a log. Where it is accepted, each model is blocked in it.
pub record IsModelsVerdictOn (cnf : PlainCnf) (bytes : List ℕ) (verdict : LogVerdict) : Type 0 where
  pub judged : IsVerdict (subject_over (cnf_axioms cnf)) bytes verdict
  pub blocks : BlocksAll (IsModelOf cnf) bytes verdict

-- its one section passes no limit, since the CNF does not
abbrev pub models_judging : Judging PlainCnf LogVerdict
models_judging = record {
  Is = IsModelsVerdictOn;
  Passes = λ cnf bytes refusal. ⊥;
  line = models_verdict_line;
  status = verdict_status;
}

abbrev pub NamesCnf : ModelChecking → Files → PlainCnf → Type 0
NamesCnf checking files cnf = IsCnfIn files checking.file cnf

abbrev pub models_checking_promise : ModelChecking → Promise
models_checking_promise checking =
    judging_promise models_judging (λ files. RefusesCnf files checking.file) (NamesCnf checking) (λ files opened. opened ≡ checking.file ∷ []) checking.log
