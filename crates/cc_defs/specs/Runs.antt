-- What a search tells, in order, with the lines of its log: which lists of events are fair.
use Rattle.std.specs.Prelude.{◌≡◌, ◌≢◌, ℕ, ◌+◌, ◌<◌, ◌≤◌, ◌⊎◌, Bool, true, false, not, List, [], ◌∷◌, ◌++◌, length, flat_map, map, Option, Some, None, IsSome, IsNone, IfSome, unwrap_or}
use Rattle.std.specs.List.{AllByRecursion}
use Rattle.std.specs.Option.{option_map}
use Rattle.cc_defs.specs.declared.event.Ending.{Ending}
use Rattle.cc_defs.specs.declared.event.Ending.TheVariants as endings
use Rattle.cc_defs.specs.declared.event.Event.{Event}
use Rattle.cc_defs.specs.declared.event.Event.TheVariants as events
use Rattle.cc_defs.specs.declared.event.Told.{Told}
use Rattle.cc_defs.specs.declared.lists.Key.{Key}
use Rattle.cc_defs.specs.declared.log.EndWord.{EndWord}
use Rattle.cc_defs.specs.declared.log.EndWord.TheVariants as words
use Rattle.cc_defs.specs.declared.log.LogLine.{LogLine}
use Rattle.cc_defs.specs.declared.log.LogLine.TheVariants as lines
use Rattle.cc_defs.specs.Assignments.{IsEarned}
use Rattle.cc_defs.specs.ClauseLists.{clause_list}
use Rattle.cc_defs.specs.Clauses.{Literal, Reaches}
use Rattle.cc_defs.specs.Description.{Description, sizes_at}
use Rattle.cc_defs.specs.Histories.{IsHistory, IsListing, AreAllOf, AreFirst, AreFirstOf}
use Rattle.cc_defs.specs.Resolved.{Query}
use Rattle.cc_defs.specs.Sections.{Axioms, HasNoEmpty, EndsRightly, row_denial}

-- what is asked for: at most so many histories, so many derived clauses a section, and the histories after a key
pub record Ask : Type 0 where
  pub count : Option ℕ
  pub budget : ℕ
  pub after : Option Key

-- ---- the shape of what is told

-- a clause that is derived along a chain, or a history that is told and denied at once
pub data Step : Type 0 where
  Derive : (clause : List Literal) → (chain : List ℕ) → Step
  Tell : (row : List ℕ) → Step

-- A section so far: its steps; a last history that is not denied, or not yet; and its end word, where it has come.
pub record Section : Type 0 where
  pub steps : List Step
  pub last : Option (List ℕ)
  pub word : Option EndWord

-- What is told of a horizon, so far: the section of its histories; or, for a query with a claim, the section on the conditions;
-- that and the one on the claim; or these and the counterexample.
pub data Horizon : Type 0 where
  Histories : Section → Horizon
  Conditions : Section → Horizon
  Claim : (conditions claim : Section) → Horizon
  Failure : (conditions claim : Section) → (row : List ℕ) → Horizon

-- A run so far: the horizons that are done with, in order; the next one, where it has begun; and the ending, where it has come.
pub record Run : Type 0 where
  pub done : List Horizon
  pub next : Option Horizon
  pub ending : Option Ending

-- ---- its events

abbrev pub told : Event → Told
told event = record { event = event; row = None }

abbrev pub told_row : Event → List ℕ → Told
told_row event row = record { event = event; row = Some row }

abbrev pub logged : LogLine → Told
logged line = told (events.Log line)

-- histories are numbered from this number on
abbrev pub step_events : ℕ → ℕ → List Step → List Told
step_events horizon number [] = []
step_events horizon number (Derive clause chain ∷ steps) = logged (lines.Derived clause chain) ∷ step_events horizon number steps
step_events horizon number (Tell row ∷ steps) =
    told_row (events.History horizon number) row ∷ logged (lines.Block row) ∷ step_events horizon (number + 1) steps

abbrev pub row_told : Step → List (List ℕ)
row_told (Derive clause chain) = []
row_told (Tell row) = row ∷ []

-- the histories that are denied
abbrev pub denied_rows : Section → List (List ℕ)
denied_rows section = flat_map row_told section.steps

abbrev pub optional : {X : Type 0} → Option X → List X
optional None = []
optional (Some x) = x ∷ []

-- all histories of a section, in the order in which they are told
abbrev pub rows_of : Section → List (List ℕ)
rows_of section = denied_rows section ++ optional section.last

abbrev pub section_events : (conditions : Bool) → ℕ → Section → List Told
section_events conditions horizon section =
    logged (lines.Section conditions horizon) ∷ (step_events horizon 1 section.steps
    ++ map (told_row (events.History horizon (length (denied_rows section) + 1))) (optional section.last)
    ++ map (λ word. logged (lines.End word)) (optional section.word))

abbrev pub horizon_events : ℕ → Horizon → List Told
horizon_events horizon (Histories section) = section_events false horizon section
horizon_events horizon (Conditions section) = section_events true horizon section
horizon_events horizon (Claim conditions claim) = section_events true horizon conditions ++ section_events false horizon claim
horizon_events horizon (Failure conditions claim row) =
    section_events true horizon conditions ++ section_events false horizon claim ++ told_row (events.Counterexample horizon) row ∷ []

-- what is said of a horizon that is done with
abbrev pub said_of : ℕ → Horizon → List Told
said_of horizon (Histories section) = told (events.NoHistory horizon) ∷ []
said_of horizon (Conditions section) = told (events.NoConditions horizon) ∷ []
said_of horizon (Claim conditions claim) = told (events.Holds horizon) ∷ []
said_of horizon (Failure conditions claim row) = []

abbrev pub done_events : ℕ → List Horizon → List Told
done_events horizon [] = []
done_events horizon (first ∷ others) = horizon_events horizon first ++ said_of horizon first ++ done_events (horizon + 1) others

-- the horizon that a run is at, where its first one is given
abbrev pub horizon_at : ℕ → Run → ℕ
horizon_at first run = first + length run.done

abbrev pub events_of : ℕ → Run → List Told
events_of first run =
    done_events first run.done
    ++ flat_map (horizon_events (horizon_at first run)) (optional run.next)
    ++ map (λ ending. told (events.Ended ending)) (optional run.ending)

-- ---- sections that tell the truth

-- the axioms of a section: that on the conditions leaves the claim out, the other one denies it, where there is one
abbrev pub axioms_of : Description → Query → Option Key → (conditions : Bool) → ℕ → Axioms
axioms_of d q key conditions horizon =
    let list = clause_list d q horizon (not conditions) key
    in record { sizes = sizes_at d horizon; variables = list.variables; clauses = list.clauses }

-- A derived clause is the resolvent of its chain, which is not too long, and is earned where it is not empty.
pub record IsFairLine (before : List (List Literal)) (clause : List Literal) (chain : List ℕ) : Type 0 where
  pub reached : Reaches before chain clause
  pub earned : clause ≢ [] → IsEarned before clause
  pub short : length chain ≤ 8000001

-- steps behind these clauses: each line is fair, and none stands behind an empty clause; these clauses are there afterwards
abbrev pub AreFairSteps : List ℕ → List (List Literal) → List Step → List (List Literal) → Type 0
AreFairSteps sizes before [] after = after ≡ before
AreFairSteps sizes before (Derive clause chain ∷ steps) after =
    HasNoEmpty before × IsFairLine before clause chain × AreFairSteps sizes (before ++ clause ∷ []) steps after
AreFairSteps sizes before (Tell row ∷ steps) after = HasNoEmpty before × AreFairSteps sizes (before ++ row_denial sizes row ∷ []) steps after

-- the lines that the budget counts: those whose clause is not empty
abbrev pub counted : Step → ℕ
counted (Derive [] chain) = 0
counted (Derive (literal ∷ literals) chain) = 1
counted (Tell row) = 0

abbrev pub counted_in : List Step → ℕ
counted_in [] = 0
counted_in (step ∷ steps) = counted step + counted_in steps

-- The lines of a section are fair, no more of them count than the budget allows, it ends with `empty` exactly where a clause is
-- empty, and with `spent` only where the budget is used up.
pub record IsFairSection (axioms : Axioms) (budget : ℕ) (section : Section) : Type 0 where
  pub clauses : List (List Literal)
  pub steps : AreFairSteps axioms.sizes axioms.clauses section.steps clauses
  pub within : counted_in section.steps ≤ budget
  pub ends : IfSome section.word (EndsRightly clauses)
  pub spent : section.word ≡ Some words.Spent → counted_in section.steps ≡ budget

abbrev pub EndsWith : EndWord → Section → Type 0
EndsWith word section = section.word ≡ Some word

-- ---- horizons that tell the truth

abbrev pub without_claim : Query → Query
without_claim q = record q { claim = None }

-- there is no history, or there is one
abbrev pub HasNone : Description → Query → ℕ → Type 0
HasNone d q horizon = IsListing d q horizon None []

abbrev pub HasSome : Description → Query → ℕ → Type 0
HasSome d q horizon = HasNone d q horizon → ⊥

abbrev pub key_row : Ask → Option (List ℕ)
key_row ask = option_map (λ key. key.row) ask.after

-- A section that tells rows of a kind: the first ones, at most so many as are asked for. It ends with `empty` only where they are
-- all, and with `found` only where the last one that was asked for has been told; that one is not denied.
pub record TellsRows (Is : List ℕ → Type 0) (axioms : Axioms) (count : Option ℕ) (budget : ℕ) (section : Section) : Type 0 where
  pub fair : IsFairSection axioms budget section
  pub first : AreFirstOf Is (rows_of section)
  pub asked : IfSome count (λ most. length (rows_of section) ≤ most)
  pub denied : IfSome count (λ most. length (denied_rows section) < most)
  pub all_told : EndsWith words.Empty section → AreAllOf Is (rows_of section)
  pub enough : EndsWith words.Found section → count ≡ Some (length (rows_of section))
  pub undenied : IsSome section.last → IsSome section.word → EndsWith words.Found section

-- the section of the histories of a query without a claim
abbrev pub TellsHistories : Description → Query → Ask → ℕ → Section → Type 0
TellsHistories d q ask horizon section =
    TellsRows (IsHistory d q horizon (key_row ask)) (axioms_of d q ask.after false horizon) ask.count ask.budget section

-- A section that looks for a history of a query, and tells none: it ends with `empty` only where there is none, and with
-- `found` only where there is one.
pub record LooksForOne (d : Description) (q : Query) (axioms : Axioms) (budget horizon : ℕ) (section : Section) : Type 0 where
  pub fair : IsFairSection axioms budget section
  pub silent : rows_of section ≡ []
  pub none : EndsWith words.Empty section → HasNone d q horizon
  pub some : EndsWith words.Found section → HasSome d q horizon

abbrev pub OfConditions : Description → Query → Ask → ℕ → Section → Type 0
OfConditions d q ask horizon section = LooksForOne d (without_claim q) (axioms_of d q ask.after true horizon) ask.budget horizon section

abbrev pub OfClaim : Description → Query → Ask → ℕ → Section → Type 0
OfClaim d q ask horizon section = LooksForOne d q (axioms_of d q ask.after false horizon) ask.budget horizon section

-- What is told of a horizon is true: the claim is asked only where a path meets the conditions, and the counterexample is the
-- least path that meets these and not the claim.
abbrev pub IsTrueOf : Description → Query → Ask → ℕ → Horizon → Type 0
IsTrueOf d q ask horizon (Histories section) = IsNone q.claim × TellsHistories d q ask horizon section
IsTrueOf d q ask horizon (Conditions section) = IsSome q.claim × OfConditions d q ask horizon section
IsTrueOf d q ask horizon (Claim conditions claim) =
    IsSome q.claim × OfConditions d q ask horizon conditions × EndsWith words.Found conditions × OfClaim d q ask horizon claim
IsTrueOf d q ask horizon (Failure conditions claim row) =
    IsSome q.claim × OfConditions d q ask horizon conditions × EndsWith words.Found conditions × OfClaim d q ask horizon claim
    × EndsWith words.Found claim × AreFirst d q horizon None (row ∷ [])

-- nothing more is to be told of it than that it has no history; behind a key it is the only one, and its listing is complete
abbrev pub IsExhausted : Ask → Horizon → Type 0
IsExhausted ask (Histories section) = EndsWith words.Empty section × (rows_of section ≡ []) × IsNone ask.after
IsExhausted ask (Conditions section) = EndsWith words.Empty section
IsExhausted ask (Claim conditions claim) = EndsWith words.Empty claim
IsExhausted ask (Failure conditions claim row) = ⊥

abbrev pub AreDone : Description → Query → Ask → ℕ → List Horizon → Type 0
AreDone d q ask horizon [] = Unit {0}
AreDone d q ask horizon (first ∷ others) = IsTrueOf d q ask horizon first × IsExhausted ask first × AreDone d q ask (horizon + 1) others

-- ---- endings

-- the least and the greatest horizon of a query; without a range, which is refused, there is none to try
abbrev pub range_of : Query → ℕ × ℕ
range_of q = unwrap_or q.range (1, 0)

-- the first and the last horizon of a run: the query's, or the key's alone
abbrev pub first_horizon : Query → Option Key → ℕ
first_horizon q None = (range_of q).0
first_horizon q (Some key) = key.horizon

abbrev pub last_horizon : Query → Option Key → ℕ
last_horizon q None = (range_of q).1
last_horizon q (Some key) = key.horizon

-- no path meets the conditions there
abbrev pub IsWithoutConditions : Horizon → Type 0
IsWithoutConditions (Conditions section) = Unit {0}
IsWithoutConditions (Histories section) = ⊥
IsWithoutConditions (Claim conditions claim) = ⊥
IsWithoutConditions (Failure conditions claim row) = ⊥

-- an ending that comes within a horizon
abbrev pub MayEndWithin : Ask → ℕ → Horizon → Ending → Type 0
MayEndWithin ask horizon (Histories section) (endings.Complete at listed) =
    (at ≡ horizon) × (listed ≡ length (rows_of section)) × EndsWith words.Empty section × ((0 < length (rows_of section)) ⊎ IsSome ask.after)
MayEndWithin ask horizon (Histories section) (endings.Asked at listed) =
    (at ≡ horizon) × (listed ≡ length (rows_of section)) × EndsWith words.Found section
MayEndWithin ask horizon (Histories section) (endings.Spent at listed) =
    (at ≡ horizon) × (listed ≡ length (rows_of section)) × EndsWith words.Spent section
MayEndWithin ask horizon (Conditions section) (endings.Spent at listed) = (at ≡ horizon) × (listed ≡ 0) × EndsWith words.Spent section
MayEndWithin ask horizon (Claim conditions claim) (endings.Spent at listed) = (at ≡ horizon) × (listed ≡ 0) × EndsWith words.Spent claim
MayEndWithin ask horizon (Failure conditions claim row) endings.ClaimFails = Unit {0}
MayEndWithin ask horizon told ending = ⊥

-- an ending that comes when all horizons are done with
abbrev pub MayEndBehind : Query → Ask → List Horizon → Ending → Type 0
MayEndBehind q ask done endings.NoHistory = IsNone q.claim × IsNone ask.after
MayEndBehind q ask done endings.ClaimEmpty = IsSome q.claim × AllByRecursion IsWithoutConditions done
MayEndBehind q ask done endings.ClaimHolds = IsSome q.claim × (AllByRecursion IsWithoutConditions done → ⊥)
MayEndBehind q ask done ending = ⊥

abbrev pub MayEnd : Query → Ask → ℕ → Run → Option Horizon → Ending → Type 0
MayEnd q ask horizon run (Some next) ending = MayEndWithin ask horizon next ending
MayEnd q ask horizon run None ending = (horizon ≡ last_horizon q ask.after + 1) × MayEndBehind q ask run.done ending

-- ---- fair runs

-- A run that tells the truth, at this horizon.
pub record IsFairAt (d : Description) (q : Query) (ask : Ask) (run : Run) (horizon : ℕ) : Type 0 where
  pub done : AreDone d q ask (first_horizon q ask.after) run.done
  pub next : IfSome run.next (λ next. (horizon ≤ last_horizon q ask.after) × IsTrueOf d q ask horizon next)
  pub within : horizon ≤ last_horizon q ask.after + 1
  pub ending : IfSome run.ending (MayEnd q ask horizon run run.next)

abbrev pub IsFairRun : Description → Query → Ask → Run → Type 0
IsFairRun d q ask run = IsFairAt d q ask run (horizon_at (first_horizon q ask.after) run)

-- the events are those of such a run
abbrev pub AreFair : Description → Query → Ask → List Told → Type 0
AreFair d q ask given = (run : Run) × IsFairRun d q ask run × (given ≡ events_of (first_horizon q ask.after) run)
