-- Listings that go on after a key, and what searches rest on.
use Rattle.std.specs.Prelude.{◌≡◌, ℕ, ◌<◌, ◌≤◌, ◌^◌, List, [], ◌∷◌, ◌++◌, sum, Option, Some}
use Rattle.std.specs.List.{AllByRecursion}
use Rattle.cc_clauses.specs.Laws.{DenialDenies, DenialLeavesOthers, ResolventsAreSound}
use Rattle.cc_defs.specs.declared.lists.Key.{Key}
use Rattle.cc_defs.specs.declared.log.EndWord.TheVariants as words
use Rattle.cc_defs.specs.Assignments.{HasOpen}
use Rattle.cc_defs.specs.Clauses.{IsOver}
use Rattle.cc_defs.specs.Description.{Description}
use Rattle.cc_defs.specs.Events.{out_text}
use Rattle.cc_defs.specs.Histories.{AreFirst, IsListing}
use Rattle.cc_defs.specs.Resolved.{Query}
use Rattle.cc_defs.specs.Rows.{IsRow}
use Rattle.cc_defs.specs.Runs.{Ask, EndsWith, Histories, IsFairRun, IsFairSection, Run, Section, denied_rows, events_of, first_horizon, horizon_at, key_row, rows_of}
use Rattle.cc_defs.specs.Sections.{Axioms}
use Rattle.cc_lists.specs.Subjects.{lines_of}

-- Where histories were told up to one, the listing is these, and then the listing after that one.
abbrev pub ListingsResume : Type 0
ListingsResume = (d : Description) (q : Query) (horizon : ℕ) (key : Option (List ℕ)) (told : List (List ℕ)) (last : List ℕ) (later : List (List ℕ)) →
    AreFirst d q horizon key (told ++ last ∷ []) → IsListing d q horizon (Some last) later → IsListing d q horizon key (told ++ last ∷ [] ++ later)

-- Two runs: one told histories at a horizon, and the other, which begins behind the key of the last of them, has them all from there.
-- Together they have told all histories of the horizon.
abbrev pub ListingsJoin : Type 0
ListingsJoin = (d : Description) (q : Query) (ask later : Ask) (key : Key) (one other : Run) (section rest : Section) (told : List (List ℕ)) (last : List ℕ) →
    IsFairRun d q ask one → one.next ≡ Some (Histories section) → rows_of section ≡ told ++ last ∷ [] →
    later.after ≡ Some key → key.row ≡ last → key.horizon ≡ horizon_at (first_horizon q ask.after) one →
    IsFairRun d q later other → other.next ≡ Some (Histories rest) → EndsWith words.Empty rest →
    IsListing d q key.horizon (key_row ask) (rows_of section ++ rows_of rest)

-- Two runs of one query whose logs have the same lines, and which print the same text, are one run.
abbrev pub TextsTellRuns : Type 0
TextsTellRuns = (d : Description) (q : Query) (ask : Ask) (one other : Run) → IsFairRun d q ask one → IsFairRun d q ask other →
    lines_of (events_of (first_horizon q ask.after) one) ≡ lines_of (events_of (first_horizon q ask.after) other) →
    out_text d (events_of (first_horizon q ask.after) one) ≡ out_text d (events_of (first_horizon q ask.after) other) → one ≡ other

-- A section whose axioms leave so many variables open is spent only by a budget below the power of 3.
abbrev pub SpentBudgetsAreSmall : Type 0
SpentBudgetsAreSmall = (axioms : Axioms) (budget : ℕ) (section : Section) (opens : ℕ) → AllByRecursion (IsOver axioms.variables) axioms.clauses →
    sum axioms.sizes ≤ axioms.variables → AllByRecursion (IsRow axioms.sizes) (denied_rows section) → HasOpen axioms.variables axioms.clauses opens →
    IsFairSection axioms budget section → EndsWith words.Spent section → budget < 3 ^ opens

-- Resolvents follow, and a denied row is denied, and no other.
pub record SearchLaws : Type 0 where
  pub sound : ResolventsAreSound
  pub denies : DenialDenies
  pub leaves : DenialLeavesOthers
