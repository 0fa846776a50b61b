-- A budget that a search spends is small: it is less than the power of 3 to the number of open variables of its last section.
use Rattle.std.proofs.Common.{◌≡◌, ℕ, zero, suc, Bool, true, false, List, [], ◌∷◌, ◌++◌, map, Option, Some, None, subst}
use Rattle.std.specs.Prelude.{◌<◌, ◌≤◌, ◌^◌, flat_map, Contains, IfSome}
use Rattle.std.specs.List.{AllByRecursion}
use Rattle.std.proofs.lemmas.List.Elements.{Contains-append_left, Contains-append_right}
use Rattle.cc_defs.specs.declared.event.Ending.{Ending}
use Rattle.cc_defs.specs.declared.event.Ending.TheVariants as endings
use Rattle.cc_defs.specs.declared.event.Event.TheVariants as events
use Rattle.cc_defs.specs.declared.event.Told.{Told}
use Rattle.cc_defs.specs.declared.log.EndWord.TheVariants as words
use Rattle.cc_defs.specs.declared.log.LogLine.{LogLine}
use Rattle.cc_defs.specs.declared.log.LogLine.TheVariants as lines
use Rattle.cc_defs.specs.Assignments.{HasOpen}
use Rattle.cc_defs.specs.Description.{Description, sizes_at}
use Rattle.cc_defs.specs.Histories.{AreFirst}
use Rattle.cc_defs.specs.Paths.{IsPath}
use Rattle.cc_defs.specs.Resolved.{Query}
use Rattle.cc_defs.specs.Rows.{IsRow}
use Rattle.cc_defs.specs.Runs.{Ask, Horizon, Histories, Conditions, Claim, Failure, Run, Section, EndsWith, IsFairRun, IsFairSection, IsTrueOf, LooksForOne, MayEnd, MayEndWithin, axioms_of, denied_rows, done_events, events_of, first_horizon, horizon_at, horizon_events, key_row, last_horizon, optional, rows_of, section_events, told}
use Rattle.cc_lists.specs.Subjects.{HaveGoodAxioms, lines_of}
use Rattle.cc_query.specs.Laws.{SpentBudgetsAreSmall}
use Rattle.cc_list.specs.Searching.{IsSpentEarly, axioms_in}
use Rattle.cc_list.specs.Telling.{HasGoodLines, task_of}
use Rattle.cc_tell.proofs.OwnNumbers.{lines_both}
use Rattle.cc_list.proofs.GoodClauses.{in_first, in_rest}
use Rattle.cc_list.proofs.Worth.{all_front}

-- ---- rows that were told

pub path_row : (d : Description) (horizon : ℕ) (row : List ℕ) → IsPath d horizon row → IsRow (sizes_at d horizon) row
path_row d zero row is = is.interprets
path_row d (suc horizon) row is = is.0

all_from : (P : List ℕ → Type 0) (rows : List (List ℕ)) → ((row : List ℕ) → Contains rows row → P row) → AllByRecursion P rows
all_from P [] each = tt
all_from P (row ∷ rows) each = (each row (in_first row rows), all_from P rows (λ r there. each r (in_rest row r rows there)))

pub first_rows : (d : Description) (q : Query) (horizon : ℕ) (key : Option (List ℕ)) (section : Section) → AreFirst d q horizon key (rows_of section) →
    AllByRecursion (IsRow (sizes_at d horizon)) (denied_rows section)
first_rows d q horizon key section first =
    all_front (IsRow (sizes_at d horizon)) (denied_rows section) (optional section.last)
    (all_from (IsRow (sizes_at d horizon)) (rows_of section) (λ row there. path_row d horizon row (first.each row there).path))

pub no_rows : (sizes : List ℕ) (rows more : List (List ℕ)) → rows ++ more ≡ [] → AllByRecursion (IsRow sizes) rows
no_rows sizes [] more none = tt
no_rows sizes (row ∷ rows) more none = absurd cc

-- ---- sections

module _ (d : Description) (q : Query) (ask : Ask) (law : SpentBudgetsAreSmall) where
  -- so many variables are open in a section
  abbrev Opens : Bool → ℕ → ℕ → Type 0
  Opens conditions at opens = HasOpen (axioms_of d q ask.after conditions at).variables (axioms_of d q ask.after conditions at).clauses opens

  section_small : (conditions : Bool) (horizon at : ℕ) (section : Section) (opens : ℕ) → at ≡ horizon →
      HaveGoodAxioms d q ask.after (lines_of (section_events conditions horizon section)) → AllByRecursion (IsRow (sizes_at d horizon)) (denied_rows section) →
      IsFairSection (axioms_of d q ask.after conditions horizon) ask.budget section → EndsWith words.Spent section → Opens conditions at opens → ask.budget < 3 ^ opens
  section_small conditions horizon at section opens same good rows fair ends held =
      let is = good conditions horizon (in_first (lines.Section conditions horizon) _) in
      law (axioms_of d q ask.after conditions horizon) ask.budget section opens is.over is.positions rows
      (subst (λ (h : ℕ). Opens conditions h opens) same held) fair ends

  looking_small : (asked : Query) (conditions : Bool) (horizon at : ℕ) (section : Section) (opens : ℕ) → at ≡ horizon →
      HaveGoodAxioms d q ask.after (lines_of (section_events conditions horizon section)) →
      LooksForOne d asked (axioms_of d q ask.after conditions horizon) ask.budget horizon section → EndsWith words.Spent section → Opens conditions at opens → ask.budget < 3 ^ opens
  looking_small asked conditions horizon at section opens same good looks ends held =
      section_small conditions horizon at section opens same good (no_rows (sizes_at d horizon) (denied_rows section) (optional section.last) looks.silent)
      looks.fair ends held

  good_behind : (front more : List Told) → HaveGoodAxioms d q ask.after (lines_of (front ++ more)) → HaveGoodAxioms d q ask.after (lines_of more)
  good_behind front more good = λ conditions horizon there.
      both conditions horizon (Contains-append_right (lines_of front) (lines_of more) (lines.Section conditions horizon) there)
    where
      both : HaveGoodAxioms d q ask.after (lines_of front ++ lines_of more)
      both = subst (λ (l : List LogLine). HaveGoodAxioms d q ask.after l) (lines_both front more) good

  good_front : (front more : List Told) → HaveGoodAxioms d q ask.after (lines_of (front ++ more)) → HaveGoodAxioms d q ask.after (lines_of front)
  good_front front more good = λ conditions horizon there.
      both conditions horizon (Contains-append_left (lines_of front) (lines_of more) (lines.Section conditions horizon) there)
    where
      both : HaveGoodAxioms d q ask.after (lines_of front ++ lines_of more)
      both = subst (λ (l : List LogLine). HaveGoodAxioms d q ask.after l) (lines_both front more) good

  -- the last section of a horizon
  within_small : (next : Horizon) (horizon at listed opens : ℕ) → IsTrueOf d q ask horizon next → MayEndWithin ask horizon next (endings.Spent at listed) →
      HaveGoodAxioms d q ask.after (lines_of (horizon_events horizon next)) →
      HasOpen (axioms_in (task_of d q ask) at next).variables (axioms_in (task_of d q ask) at next).clauses opens → ask.budget < 3 ^ opens
  within_small (Histories section) horizon at listed opens is may good held =
      section_small false horizon at section opens may.0 good (first_rows d q horizon (key_row ask) section is.1.first) is.1.fair may.2 held
  within_small (Conditions section) horizon at listed opens is may good held =
      looking_small (record q { claim = None }) true horizon at section opens may.0 good is.1 may.2 held
  within_small (Claim conditions claim) horizon at listed opens is may good held =
      looking_small q false horizon at claim opens may.0 (good_behind (section_events true horizon conditions) (section_events false horizon claim) good) is.3 may.2 held
  within_small (Failure conditions claim row) horizon at listed opens is may good held = absurd may

  -- ---- runs

  module _ (run : Run) where
    next_good : (next : Horizon) → run.next ≡ Some next → HaveGoodAxioms d q ask.after (lines_of (events_of (first_horizon q ask.after) run)) →
        HaveGoodAxioms d q ask.after (lines_of (horizon_events (horizon_at (first_horizon q ask.after) run) next))
    next_good next is good =
        let first = first_horizon q ask.after in
        let done = done_events first run.done in
        let events_next = flat_map (horizon_events (horizon_at first run)) (optional run.next) in
        let ends = map (λ (e : Ending). told (events.Ended e)) (optional run.ending) in
        let here = good_behind done events_next (good_front (done ++ events_next) ends good) in
        let one : HaveGoodAxioms d q ask.after (lines_of (horizon_events (horizon_at first run) next ++ [])) =
        subst (λ (n : Option Horizon). HaveGoodAxioms d q ask.after (lines_of (flat_map (horizon_events (horizon_at first run)) (optional n)))) is here in
        good_front (horizon_events (horizon_at first run) next) [] one

    pub budget_small : IsFairRun d q ask run → HasGoodLines d q ask.after (events_of (first_horizon q ask.after) run) → IsSpentEarly (task_of d q ask) run
    budget_small fair all = λ at listed next opens ends is held.
        let horizon = horizon_at (first_horizon q ask.after) run in
        let true_of : IfSome (Some next) (λ n. (horizon ≤ last_horizon q ask.after) × IsTrueOf d q ask horizon n) =
        subst (λ (o : Option Horizon). IfSome o (λ n. (horizon ≤ last_horizon q ask.after) × IsTrueOf d q ask horizon n)) is fair.next in
        let may : IfSome (Some (endings.Spent at listed)) (MayEnd q ask horizon run run.next) =
        subst (λ (e : Option Ending). IfSome e (MayEnd q ask horizon run run.next)) ends fair.ending in
        let within : MayEnd q ask horizon run (Some next) (endings.Spent at listed) =
        subst (λ (o : Option Horizon). MayEnd q ask horizon run o (endings.Spent at listed)) is may in
        within_small next horizon at listed opens true_of.1 within (next_good next is all.good) held
