-- Models mode: the first models of a CNF.
use Rattle.std.specs.Prelude.{◌≡◌, ◌<◌, ◌≤◌, ◌⊎◌, ℕ, [], ◌∷◌, List, length, false, Option, Some, None, IsNone, is_some}
use Rattle.cc_defs.specs.declared.log.EndWord.{EndWord}
use Rattle.cc_defs.specs.declared.refusal.Fault.TheVariants as faults
use Rattle.cc_defs.specs.declared.refusal.LimitAt.TheVariants as limits
use Rattle.cc_defs.specs.declared.refusal.Refusal.{Refusal}
use Rattle.cc_defs.specs.Limits.{limit_number, most_cnf_variables, most_histories}
use Rattle.cc_defs.specs.LogVersions.{counts_in, log_in}
use Rattle.cc_defs.specs.Refusals.{past, past_at}
use Rattle.cc_defs.specs.Runs.{Section, TellsRows, rows_of, section_events}
use Rattle.cc_describe.specs.FirstRefusal.{file_named}
use Rattle.cc_describe.specs.Places.{Files}
use Rattle.cc_dimacs.specs.Cnfs.{PlainCnf, IsModelOf, cnf_axioms, cnf_refusal}
use Rattle.cc_dimacs.specs.CnfTexts.{IsCnfText, IsCnfRefusal}
use Rattle.cc_judge.specs.Single.{subject_over}
use Rattle.cc_lists.specs.Subjects.{lines_of}
use Rattle.cc_list.specs.Promises.{Promise, IsEndStatus}
use Rattle.cc_list.specs.Wholes.{Whole}
use Rattle.cc_search.specs.Searches.{TellsTooMany}
use Rattle.cc_tell.specs.declared.status.Status.{Status}
use Rattle.cc_tell.specs.declared.status.Status.TheVariants as statuses
use Rattle.cc_tell.specs.ErrLines.{refusal_text}
use Rattle.cc_tell_modes.specs.ModelTexts.{models_text, models_status}
use Rattle.cc_words.specs.Requests.{Modelling}
use Rattle.cc_words.specs.Words.{Text}

-- ---- the CNF that is named

-- the file is there and spells this CNF, and neither its bytes, its variables nor its clause list pass a limit
pub record IsCnfIn (files : Files) (file : Text) (cnf : PlainCnf) : Type 0 where
  pub bytes : List ℕ
  pub there : files file ≡ Some bytes
  pub few : length bytes ≤ limit_number limits.FileBytes
  pub spelled : IsCnfText bytes cnf
  pub variables : cnf.variables ≤ most_cnf_variables
  pub within : cnf_refusal cnf ≡ None

-- It is refused for its length, for its text, for its variables, or for its clause list, in this order.
abbrev pub RefusesBytes : Text → List ℕ → Refusal → Type 0
RefusesBytes file bytes refusal =
    ((limit_number limits.FileBytes < length bytes) × (refusal ≡ past_at limits.FileBytes 0 1))
    ⊎ ((length bytes ≤ limit_number limits.FileBytes)
    × (IsCnfRefusal bytes (faults.Refused refusal) ⊎ ((cnf : PlainCnf) × IsCnfText bytes cnf × (cnf_refusal cnf ≡ Some refusal))))

pub record RefusesCnf (files : Files) (file : Text) (refusal : Refusal) (name : Text) : Type 0 where
  pub bytes : List ℕ
  pub there : files file ≡ Some bytes
  pub refused : RefusesBytes file bytes refusal
  pub name_is : name ≡ file_named (file ∷ []) refusal

-- ---- what is told

-- how it ends: with its end word, or with the refusal where there are more models than may be listed; or it has not ended yet
abbrev pub EndsModels : PlainCnf → Section → (err : List ℕ) → Option Status → Type 0
EndsModels cnf section err None = err ≡ []
EndsModels cnf section err (Some status) =
    ((word : EndWord) × (section.word ≡ Some word) × (err ≡ []) × (status ≡ models_status (length (rows_of section)) word))
    ⊎ (IsNone section.word × TellsTooMany (cnf_axioms cnf) section × (err ≡ refusal_text (past limits.Histories) []) × (status ≡ statuses.Refused))

-- The first models of the CNF, in ascending order, each once, at most as many as may be listed, all of them where the listing is
-- complete; and the log of its one section.
pub record Models (modelling : Modelling) (files : Files) (whole : Whole) : Type 0 where
  pub cnf : PlainCnf
  pub is : IsCnfIn files modelling.file cnf
  pub section : Section
  pub tells : TellsRows (IsModelOf cnf) (cnf_axioms cnf) modelling.count modelling.budget section
  pub few : length (rows_of section) ≤ most_histories
  pub out : whole.given.out ≡ models_text section
  pub log : whole.given.log ≡ log_in modelling.form (counts_in (subject_over (cnf_axioms cnf))) (lines_of (section_events false 0 section))
  pub begun : whole.begun ≡ is_some modelling.log
  pub ends : EndsModels cnf section whole.given.err whole.ends

abbrev pub modelling_promise : Modelling → Promise
modelling_promise modelling = record {
  Refuses = λ files. RefusesCnf files modelling.file;
  Gives = Models modelling;
  Opens = λ files opened. opened ≡ modelling.file ∷ [];
  begins = λ _. modelling.log;
  MayEnd = IsEndStatus;
}
