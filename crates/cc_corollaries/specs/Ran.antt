-- What was asked, and how a run ended: the hypotheses of the corollaries.
use Rattle.std.specs.Prelude.{◌≡◌, ◌≤◌, ℕ, Bool, List, None, Some}
use Rattle.cc_defs.specs.Description.{Description}
use Rattle.cc_defs.specs.Resolved.{Query}
use Rattle.cc_defs.specs.Runs.{range_of}
use Rattle.cc_dimacs.specs.Cnfs.{PlainCnf}
use Rattle.cc_list.specs.Answers.{Answered, Counts}
use Rattle.cc_list.specs.Tasks.{named_by, request_of}
use Rattle.cc_ports.specs.Contents.{Contents}
use Rattle.cc_run.specs.Modes.CheckingForever.{named_to_check}
use Rattle.cc_run.specs.Modes.CheckingGeneral.{named_for_general}
use Rattle.cc_run.specs.Modes.CheckingSure as sure_logs
use Rattle.cc_run.specs.Modes.Generally.{NamesWide, named_generally}
use Rattle.cc_run.specs.Modes.Modelling.{IsCnfIn}
use Rattle.cc_run.specs.Modes.Proving.{NamesQuery, named_to_prove}
use Rattle.cc_run.specs.Modes.Surely.{NamesUnclaimed, named_surely}
use Rattle.cc_run.specs.Naming.{named_in}
use Rattle.cc_run.specs.Promised.{promised}
use Rattle.cc_tell.specs.declared.status.Status.{Status}
use Rattle.cc_wide.specs.WideLaws.{WideDescription}
use Rattle.cc_words.specs.Requests.{Checking, ForeverChecking, GeneralChecking, Generally, Listing, ModelChecking, Modelling, Proving, Request, SureChecking, Surely, ToBeSure, ToCheck, ToCheckForever, ToCheckGeneral, ToCheckModels, ToCheckSure, ToList, ToListGenerally, ToModel, ToProve}
use Rattle.cc_words.specs.Words.{Text}

-- a horizon of the query's range
abbrev pub IsTried : Query → ℕ → Type 0
IsTried q horizon = ((range_of q).0 ≤ horizon) × (horizon ≤ (range_of q).1)

-- Words asked for this; over a desk that had this before, the run ended with this status, and this is what the desk has then.
-- (`Answered` is what the clause of `run` says of a desk that tells its contents.)
pub record Ran (request : Request) (before : Contents) (status : Status) (after : Contents) : Type 0 where
  pub words : List Text
  pub begun : Bool
  pub counts : Counts
  pub asked : request_of words ≡ Some request
  pub answered : Answered before after begun (promised words) status counts

-- List mode was asked for a query of a description, from its first history on and not behind a key.
pub record Listed (d : Description) (q : Query) (status : Status) (after : Contents) : Type 0 where
  pub listing : Listing
  pub before : Contents
  pub no_key : listing.after ≡ None
  pub named : NamesQuery before.files (named_by listing) d q
  pub ran : Ran (ToList listing) before status after

-- the same of forever mode
pub record AskedForEver (d : Description) (q : Query) (status : Status) (after : Contents) : Type 0 where
  pub proving : Proving
  pub before : Contents
  pub named : NamesQuery before.files (named_to_prove proving) d q
  pub ran : Ran (ToProve proving) before status after

-- of sure mode, which is asked for queries without a claim
pub record AskedSurely (d : Description) (q : Query) (status : Status) (after : Contents) : Type 0 where
  pub surely : Surely
  pub before : Contents
  pub named : NamesUnclaimed before.files (named_surely surely) d q
  pub ran : Ran (ToBeSure surely) before status after

-- of general mode, where the heads of laws may be formulas of any form
pub record AskedGenerally (w : WideDescription) (q : Query) (status : Status) (after : Contents) : Type 0 where
  pub generally : Generally
  pub before : Contents
  pub named : NamesWide before.files (named_generally generally) w q
  pub ran : Ran (ToListGenerally generally) before status after

-- of check mode, not behind a key; these are the bytes of the log
pub record AskedToCheck (d : Description) (q : Query) (bytes : List ℕ) (status : Status) (after : Contents) : Type 0 where
  pub checking : Checking
  pub before : Contents
  pub no_key : checking.after ≡ None
  pub named : NamesQuery before.files (named_in checking) d q
  pub log : before.files checking.log ≡ Some bytes
  pub ran : Ran (ToCheck checking) before status after

-- of forevercheck mode
pub record AskedToCheckForEver (d : Description) (q : Query) (status : Status) (after : Contents) : Type 0 where
  pub checking : ForeverChecking
  pub before : Contents
  pub named : NamesQuery before.files (named_to_check checking) d q
  pub ran : Ran (ToCheckForever checking) before status after

-- of surecheck mode, which is asked for queries without a claim; these are the bytes of the log
pub record AskedToCheckSure (d : Description) (q : Query) (bytes : List ℕ) (status : Status) (after : Contents) : Type 0 where
  pub checking : SureChecking
  pub before : Contents
  pub named : NamesUnclaimed before.files (sure_logs.named_to_check checking) d q
  pub log : before.files checking.log ≡ Some bytes
  pub ran : Ran (ToCheckSure checking) before status after

-- of generalcheck mode
pub record AskedToCheckGenerally (w : WideDescription) (q : Query) (bytes : List ℕ) (status : Status) (after : Contents) : Type 0 where
  pub checking : GeneralChecking
  pub before : Contents
  pub named : NamesWide before.files (named_for_general checking) w q
  pub log : before.files checking.log ≡ Some bytes
  pub ran : Ran (ToCheckGeneral checking) before status after

-- of models mode, over a CNF
pub record AskedForModels (cnf : PlainCnf) (status : Status) (after : Contents) : Type 0 where
  pub modelling : Modelling
  pub before : Contents
  pub named : IsCnfIn before.files modelling.file cnf
  pub ran : Ran (ToModel modelling) before status after

-- of modelscheck mode; these are the bytes of the log
pub record AskedToCheckModels (cnf : PlainCnf) (bytes : List ℕ) (status : Status) (after : Contents) : Type 0 where
  pub checking : ModelChecking
  pub before : Contents
  pub named : IsCnfIn before.files checking.file cnf
  pub log : before.files checking.log ≡ Some bytes
  pub ran : Ran (ToCheckModels checking) before status after
