-- The sections of a horizon: what each searches for, and what it has told so far.
use Rattle.std.specs.Prelude.{ℕ, Bool, true, false, List, ◌++◌, map, IsSome, IsNone}
use Rattle.cc_defs.specs.declared.log.EndWord.TheVariants as words
use Rattle.cc_defs.specs.declared.log.LogLine.TheVariants as lines
use Rattle.cc_defs.specs.Clauses.{Literal}
use Rattle.cc_defs.specs.Description.{Description}
use Rattle.cc_defs.specs.Resolved.{Query}
use Rattle.cc_defs.specs.Runs.{Ask, Step, Derive, Tell, Section, Horizon, Histories, Conditions, Claim, TellsHistories, OfConditions, OfClaim, EndsWith, axioms_of, without_claim}
use Rattle.cc_defs.specs.Sections.{Axioms, row_denial}
use Rattle.cc_query.specs.declared.phase.Part.{Part}
use Rattle.cc_query.specs.declared.phase.Part.TheVariants as parts

-- the query that it asks
abbrev pub query_of : Part → Query → Query
query_of parts.Histories q = q
query_of parts.Conditions q = without_claim q
query_of parts.Claim q = q

abbrev pub is_conditions : Part → Bool
is_conditions parts.Histories = false
is_conditions parts.Conditions = true
is_conditions parts.Claim = false

-- its axioms
abbrev pub axioms_at : Description → Query → Ask → ℕ → Part → Axioms
axioms_at d q ask horizon part = axioms_of d q ask.after (is_conditions part) horizon

-- what is told of the horizon with it, where the section on the conditions stands before that on the claim
abbrev pub told_by : Part → (before : Section) → Section → Horizon
told_by parts.Histories before section = Histories section
told_by parts.Conditions before section = Conditions section
told_by parts.Claim before section = Claim before section

-- the clause that a step adds
abbrev pub clause_added : List ℕ → Step → List Literal
clause_added sizes (Derive clause chain) = clause
clause_added sizes (Tell row) = row_denial sizes row

-- the clauses of a section behind its steps
abbrev pub clauses_behind : Axioms → List Step → List (List Literal)
clauses_behind axioms steps = axioms.clauses ++ map (clause_added axioms.sizes) steps

-- it may be searched: a claim asks only where a path meets the conditions
abbrev pub MayAsk : Description → Query → Ask → ℕ → Part → Section → Type 0
MayAsk d q ask horizon parts.Histories before = IsNone q.claim
MayAsk d q ask horizon parts.Conditions before = IsSome q.claim
MayAsk d q ask horizon parts.Claim before = IsSome q.claim × OfConditions d q ask horizon before × EndsWith words.Found before

-- what it has told is true
abbrev pub TellsTrue : Description → Query → Ask → ℕ → Part → Section → Type 0
TellsTrue d q ask horizon parts.Histories section = TellsHistories d q ask horizon section
TellsTrue d q ask horizon parts.Conditions section = OfConditions d q ask horizon section
TellsTrue d q ask horizon parts.Claim section = OfClaim d q ask horizon section
