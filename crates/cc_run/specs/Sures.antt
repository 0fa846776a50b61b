-- What sure mode works on, and what it gives of a run on certain and possible atoms.
use Rattle.std.specs.Prelude.{◌≡◌, ◌⊎◌, List, [], Option, Some, None, IsNone, IsSome, if◌then◌else◌, is_some, option_and_then}
use Rattle.cc_defs.specs.declared.refusal.Fault.{Fault}
use Rattle.cc_defs.specs.declared.refusal.Fault.TheVariants as faults
use Rattle.cc_defs.specs.declared.refusal.Refusal.{Refusal}
use Rattle.cc_defs.specs.Description.{Description}
use Rattle.cc_defs.specs.Resolved.{Query}
use Rattle.cc_run.specs.Modes.Surely.{claim_refusal, sure_text}
use Rattle.cc_list.specs.Tasks.{asked_refusal, query_named}
use Rattle.cc_sure.specs.SureRuns.{SureRun}
use Rattle.cc_sure.specs.SureTold.{sure_log}
use Rattle.cc_tell.specs.Givens.{Given}
use Rattle.cc_words.specs.Words.{Text}

-- ---- the query

-- 20 of a query with a claim
abbrev pub claimed : Query → Option Refusal
claimed query = if is_some query.claim then Some (claim_refusal query) else None

abbrev pub claimed_named : Option Query → Option Refusal
claimed_named named = option_and_then claimed named

-- this query is named, it has no claim, and nothing of it is refused
pub record IsUnclaimed (d : Description) (queries : List Query) (label : Option Text) (q : Query) : Type 0 where
  pub query : query_named label queries ≡ Some q
  pub unrefused : asked_refusal d (Some q) ≡ None
  pub claim : IsNone q.claim

-- the laws or the query are refused, or behind them its claim; or memory was wanting
abbrev pub IsClaimFault : Description → List Query → (label : Option Text) → Fault → Type 0
IsClaimFault d queries label (faults.Refused refusal) =
    (asked_refusal d (query_named label queries) ≡ Some refusal)
    ⊎ ((q : Query) × (query_named label queries ≡ Some q) × (asked_refusal d (Some q) ≡ None) × IsSome q.claim × (refusal ≡ claim_refusal q))
IsClaimFault d queries label faults.OutOfMemory = Unit {0}

-- ---- a run

-- what a run gives, with the header of its log
abbrev pub surely_given : Description → Query → SureRun → Given
surely_given d q run = record { out = sure_text d q run; err = []; log = sure_log q run }
