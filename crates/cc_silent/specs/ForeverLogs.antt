-- Logs of an induction over horizons: their header and headings, which are accepted, and what that shows.
use Rattle.std.specs.Prelude.{◌≡◌, ℕ, ◌+◌, ◌≤◌, Bool, false, true, List, [], ◌∷◌, ◌++◌, codes, decimal, Option, None}
use Rattle.cc_check.specs.Silent.{SilentSubject}
use Rattle.cc_check.specs.declared.silent.SilentVerdict.{SilentVerdict}
use Rattle.cc_check.specs.declared.silent.SilentVerdict.TheVariants as verdicts
use Rattle.cc_defs.specs.declared.refusal.Refusal.{Refusal}
use Rattle.cc_defs.specs.Description.{Description}
use Rattle.cc_defs.specs.Histories.{IsHistory}
use Rattle.cc_defs.specs.Limits.{most_steps}
use Rattle.cc_defs.specs.LogTexts.{IsShort}
use Rattle.cc_defs.specs.Resolved.{Query}
use Rattle.cc_defs.specs.Runs.{axioms_of, range_of}
use Rattle.cc_defs.specs.Sections.{Axioms}
use Rattle.cc_form.specs.Forms.{section_refusal}
use Rattle.cc_induction.specs.Induction.{Never, step_query}
use Rattle.cc_silent.specs.declared.forever.ForeverHeading.{ForeverHeading}
use Rattle.cc_silent.specs.declared.forever.ForeverHeading.TheVariants as headings
use Rattle.cc_silent.specs.declared.forever_verdict.ForeverVerdict.{ForeverVerdict}
use Rattle.cc_silent.specs.declared.forever_verdict.ForeverVerdict.TheVariants as found

abbrev pub forever_header : List ℕ
forever_header = codes "ccalc forever 1" ++ 10 ∷ []

abbrev pub number_in : ForeverHeading → ℕ
number_in (headings.Horizon horizon) = horizon
number_in (headings.Steps steps) = steps

-- the heading of a horizon, or of the step over so many
abbrev pub forever_heading : ForeverHeading → List ℕ
forever_heading (headings.Horizon horizon) = codes "h " ++ decimal horizon ++ 10 ∷ []
forever_heading (headings.Steps steps) = codes "i " ++ decimal steps ++ 10 ∷ []

-- a text, with its line feed, is that of a heading, whose number has at most nine digits
pub record IsForeverHeading (text : List ℕ) (heading : ForeverHeading) : Type 0 where
  pub number : IsShort (number_in heading)
  pub spelled : text ≡ forever_heading heading

-- ---- what the section under a heading is over

-- the query at a horizon, or the query of the step over so many, at that horizon
abbrev pub query_under : Query → ForeverHeading → Query
query_under q (headings.Horizon horizon) = q
query_under q (headings.Steps steps) = step_query q steps

abbrev pub IsUnder : Description → Query → ForeverHeading → List ℕ → Type 0
IsUnder d q heading row = IsHistory d (query_under q heading) (number_in heading) None row

abbrev pub axioms_under : Description → Query → ForeverHeading → Axioms
axioms_under d q heading = axioms_of d (query_under q heading) None false (number_in heading)

-- the first limit that its rules or clauses pass
abbrev pub refusal_under : Description → Query → ForeverHeading → Option Refusal
refusal_under d q heading = section_refusal d (query_under q heading) (number_in heading) true None

-- ---- which headings stand where

-- The horizons stand in turn, from a least one on, and behind them the step over as many as they are.
abbrev pub IsInTurnFrom : (least before : ℕ) → ForeverHeading → Type 0
IsInTurnFrom least before (headings.Horizon horizon) = (horizon ≡ least + before) × (horizon ≤ most_steps)
IsInTurnFrom least before (headings.Steps steps) = (steps ≡ before) × (1 ≤ steps) × (steps ≤ most_steps)

-- from the query's least one on
abbrev pub IsInTurn : Query → (before : ℕ) → ForeverHeading → Type 0
IsInTurn q before heading = IsInTurnFrom (range_of q).0 before heading

abbrev pub is_step : ForeverHeading → Bool
is_step (headings.Horizon horizon) = false
is_step (headings.Steps steps) = true

-- what a log of an induction is read as: the section of its step closes it
abbrev pub forever_subject : Description → Query → SilentSubject ForeverHeading
forever_subject d q = record {
  header = forever_header;
  Reads = IsForeverHeading;
  Right = IsInTurn q;
  closes = is_step;
  may_stay_open = false;
  axioms = axioms_under d q;
  limit = refusal_under d q;
}

-- what is said of a log of an induction, as what is said of a log of silent sections: the horizons, and the step over as many
abbrev pub as_silent : ForeverVerdict → SilentVerdict
as_silent (found.Accepted steps) = verdicts.Accepted (steps + 1)
as_silent (found.Refused line cause) = verdicts.Refused line cause

-- some section is accepted
abbrev pub HasSections : SilentVerdict → Type 0
HasSections (verdicts.Accepted sections) = 1 ≤ sections
HasSections (verdicts.Refused line _) = Unit {0}

-- Where a log is accepted, no horizon from the query's least one on has a history, without an end.
abbrev pub ProvesNever : Description → Query → SilentVerdict → Type 0
ProvesNever d q verdict = (sections : ℕ) → verdict ≡ verdicts.Accepted sections → Never d q
