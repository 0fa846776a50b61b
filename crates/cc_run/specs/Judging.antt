-- A log that is judged: what a check mode gives and refuses, whatever its log is one of.
use Rattle.std.specs.Prelude.{◌≡◌, ◌⊎◌, ◌<◌, ◌≤◌, ℕ, false, List, [], ◌∷◌, ◌++◌, length, None, Some, IfOk, IfSome, Err, Result, option_map}
use Rattle.cc_defs.specs.declared.refusal.Fault.{Fault}
use Rattle.cc_defs.specs.declared.refusal.Fault.TheVariants as faults
use Rattle.cc_defs.specs.declared.refusal.LimitAt.TheVariants as limits
use Rattle.cc_defs.specs.declared.refusal.Refusal.{Refusal}
use Rattle.cc_defs.specs.Limits.{limit_number}
use Rattle.cc_defs.specs.Refusals.{past}
use Rattle.cc_describe.specs.Places.{Files}
use Rattle.cc_list.specs.Promises.{IsEndStatus, Promise}
use Rattle.cc_list.specs.Wholes.{Whole}
use Rattle.cc_ports.specs.Contents.{Rose, with_rest}
use Rattle.cc_ports.specs.Moments.{Moment}
use Rattle.cc_tell.specs.declared.status.Status.{Status}
use Rattle.cc_tell.specs.declared.status.Status.TheVariants as statuses
use Rattle.cc_tell.specs.declared.status.Stop.{Stop}
use Rattle.cc_tell.specs.declared.status.Stop.TheVariants as stops
use Rattle.cc_tell.specs.ErrLines.{refusal_text}
use Rattle.cc_tell.specs.Givens.{only_err, only_out}
use Rattle.cc_tell.specs.Steps.{Called, IsCalm, Step}
use Rattle.cc_words.specs.Words.{Text}

-- ---- what is promised

-- what is said of logs of a subject
pub record Judging (Subject Verdict : Type 0) : Type 1 where
  -- this is the verdict on a log, and what holds where it is accepted
  pub Is : Subject → List ℕ → Verdict → Type 0
  -- it reaches a section that passes a limit
  pub Passes : Subject → List ℕ → Refusal → Type 0
  pub line : Verdict → List ℕ
  pub status : Verdict → Status

-- the log is too long, or it reaches a section that passes a limit
abbrev pub RefusesBytes : (List ℕ → Refusal → Type 0) → List ℕ → Refusal → Type 0
RefusesBytes Passes bytes refusal =
    ((limit_number limits.LogBytes < length bytes) × (refusal ≡ past limits.LogBytes))
    ⊎ ((length bytes ≤ limit_number limits.LogBytes) × Passes bytes refusal)

-- the log that words name, and what it is to be the log of
pub record NamesLog {Subject : Type 0} (Names : Files → Subject → Type 0) (log : Text) (files : Files) (subject : Subject) (bytes : List ℕ) : Type 0 where
  pub is : Names files subject
  pub there : files log ≡ Some bytes

-- it is refused
pub record RefusesLog {Subject : Type 0} (Passes : Subject → List ℕ → Refusal → Type 0) (Names : Files → Subject → Type 0) (log : Text) (files : Files) (refusal : Refusal) (file : Text) : Type 0 where
  pub subject : Subject
  pub bytes : List ℕ
  pub named : NamesLog Names log files subject bytes
  pub refused : RefusesBytes (Passes subject) bytes refusal
  pub name : file ≡ []

-- What a checker says of the log is given to Out.
pub record Judges {Subject Verdict : Type 0} (judging : Judging Subject Verdict) (Names : Files → Subject → Type 0) (log : Text) (files : Files) (whole : Whole) : Type 0 where
  pub subject : Subject
  pub bytes : List ℕ
  pub named : NamesLog Names log files subject bytes
  pub few : length bytes ≤ limit_number limits.LogBytes
  pub verdict : Verdict
  pub judged : judging.Is subject bytes verdict
  pub given : whole.given ≡ only_out (judging.line verdict)
  pub begun : whole.begun ≡ false
  pub ends : whole.ends ≡ Some (judging.status verdict)

-- nothing is searched for
abbrev pub MayEndJudging : Status → Type 0
MayEndJudging statuses.Spent = ⊥
MayEndJudging statuses.Asked = ⊥
MayEndJudging status = IsEndStatus status

-- Behind what is refused of what the words name the log is refused, or it is judged; the files that are opened before it are these.
abbrev pub judging_promise : {Subject Verdict : Type 0} → Judging Subject Verdict → (Refuses : Files → Refusal → Text → Type 0) → (Names : Files → Subject → Type 0) →
    (Opens : Files → List Text → Type 0) → (log : Text) → Promise
judging_promise judging Refuses Names Opens log = record {
  Refuses = λ files refusal file. Refuses files refusal file ⊎ RefusesLog judging.Passes Names log files refusal file;
  Gives = Judges judging Names log;
  Opens = λ files opened. (named : List Text) × Opens files named × (opened ≡ named ++ log ∷ []);
  begins = λ _. None;
  MayEnd = MayEndJudging;
}

-- ---- what is told

-- a limit is passed, or memory was wanting
abbrev pub IsLogFault : (Refusal → Type 0) → Fault → Type 0
IsLogFault Passes (faults.Refused refusal) = Passes refusal
IsLogFault Passes faults.OutOfMemory = Unit {0}

-- What is told of the bytes of a log: their verdict, or a limit that is passed; or memory was wanting.
abbrev pub TellsJudged : {Verdict : Type 0} → (Is : Verdict → Type 0) → (Passes : Refusal → Type 0) → (line : Verdict → List ℕ) → (status : Verdict → Status) → (old new : Moment) →
    Result Status Stop → Type 0
TellsJudged {Verdict = Verdict} Is Passes line status old new result =
    ((verdict : Verdict) × Is verdict × Step (only_out (line verdict)) old new result × IfOk result (λ ended. ended ≡ status verdict))
    ⊎ (((refusal : Refusal) × Passes refusal × Step (only_err (refusal_text refusal [])) old new result × IfOk result (λ ended. ended ≡ statuses.Refused))
    ⊎ ((new ≡ old) × (result ≡ Err stops.OutOfMemory)))

-- Behind the reading of a log its verdict is told; or it is too long, or it could not be read.
abbrev pub EndsReading : {Verdict : Type 0} → (Is : List ℕ → Verdict → Type 0) → (Passes : List ℕ → Refusal → Type 0) → (line : Verdict → List ℕ) → (status : Verdict → Status) → (log : Text) →
    (old read new : Moment) → Result Status Stop → Type 0
EndsReading Is Passes line status log old read new result =
    ((bytes : List ℕ) × IfSome old.told (λ c. c.files log ≡ Some bytes) × (length bytes ≤ limit_number limits.LogBytes) × IsCalm old read
    × TellsJudged (Is bytes) (Passes bytes) line status read new result)
    ⊎ ((IfSome old.told (λ c. (bytes : List ℕ) × (c.files log ≡ Some bytes) × (limit_number limits.LogBytes < length bytes)) × IsCalm old read
    × Step (only_err (refusal_text (past limits.LogBytes) [])) read new result × IfOk result (λ ended. ended ≡ statuses.Refused))
    ⊎ (((new ≡ read) × (result ≡ Err stops.ReadFault) × Rose old.reads read.reads)
    ⊎ ((new ≡ read) × (result ≡ Err stops.OutOfMemory))))

pub record TellsVerdict {Verdict : Type 0} (Is : List ℕ → Verdict → Type 0) (Passes : List ℕ → Refusal → Type 0) (line : Verdict → List ℕ) (status : Verdict → Status) (log : Text) (old new : Moment) (result : Result Status Stop) : Type 0 where
  pub read : Moment
  pub rest : List ℕ
  pub told : read.told ≡ option_map (with_rest rest) old.told
  pub begun : read.begun ≡ old.begun
  pub reads : old.reads ≤ read.reads
  pub writes : old.writes ≤ read.writes
  pub called : Called (log ∷ []) [] old read
  pub how : EndsReading Is Passes line status log old read new result
