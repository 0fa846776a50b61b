-- The lines of a run that keeps to its limits can be written in version 2.
use Rattle.std.proofs.Common.{ℕ, ◌+◌, ◌≤◌, Bool, not, true, false, List, [], ◌∷◌, ◌++◌, length, map, Option, Some, None, refl, sym, subst, arith}
use Rattle.std.specs.Prelude.{IfSome, flat_map}
use Rattle.std.specs.List.{AllByRecursion}
use Rattle.cc_defs.specs.declared.event.Ending.{Ending}
use Rattle.cc_defs.specs.declared.event.Event.TheVariants as events
use Rattle.cc_defs.specs.declared.event.Told.{Told}
use Rattle.cc_defs.specs.declared.log.EndWord.{EndWord}
use Rattle.cc_defs.specs.declared.log.LogLine.{LogLine}
use Rattle.cc_defs.specs.declared.log.LogLine.TheVariants as lines
use Rattle.cc_defs.specs.Description.{Description, sizes_at}
use Rattle.cc_defs.specs.LogVersions.{own_behind}
use Rattle.cc_defs.specs.Resolved.{Query}
use Rattle.cc_defs.specs.Rows.{IsRow}
use Rattle.cc_defs.specs.Runs.{Ask, Horizon, Histories, Conditions, Claim, Failure, Run, Section, AreDone, IsFairRun, IsFairSection, IsTrueOf, LooksForOne, axioms_of, denied_rows, done_events, events_of, first_horizon, horizon_at, horizon_events, key_row, last_horizon, logged, optional, said_of, section_events, step_events, told, told_row}
use Rattle.cc_defs.specs.Sections.{Axioms}
use Rattle.cc_defs.specs.ClauseLists.{clause_list}
use Rattle.cc_lists.specs.Subjects.{AreGoodAxioms, lines_of}
use Rattle.cc_list.specs.Telling.{HasGoodLines, counts_of}
use Rattle.cc_tell.specs.EventTexts.{own_after}
use Rattle.cc_theory.specs.Theories.{rules_refusal}
use Rattle.cc_tell.proofs.OwnNumbers.{lines_both, own_both}
use Rattle.cc_list.proofs.GoodClauses.{all_good, in_first}
use Rattle.cc_list.proofs.NumberedSteps.{AreWritable, few_rest, section_low, steps_few, steps_go, told_few}
use Rattle.cc_list.proofs.Spending.{first_rows, no_rows}
use Rattle.cc_list.proofs.Worth.{behind_good, event_in, few_front, front_good}

-- ---- lines behind others

module _ (counts : Bool → ℕ → ℕ) where
  writable_both : (own : ℕ) (a b : List LogLine) → AreWritable counts own a → AreWritable counts (own_after counts own a) b → AreWritable counts own (a ++ b)
  writable_both own [] b first rest = rest
  writable_both own (line ∷ a) b first rest = (first.0, writable_both (own_behind counts own line) a b first.1 rest)

module _ (d : Description) (q : Query) (ask : Ask) (budget : ask.budget ≤ 2000000) where
  abbrev counts : Bool → ℕ → ℕ
  counts = counts_of d q ask.after

  -- from this number on the lines can be written, and what is behind them too
  abbrev At : ℕ → List Told → Type 0
  At own told = AreWritable counts own (lines_of told) × (own_after counts own (lines_of told) ≤ 110000002)

  abbrev Go : List Told → Type 0
  Go told = (own : ℕ) → own ≤ 110000002 → At own told

  at_both : (own : ℕ) (a b : List Told) → At own a → Go b → At own (a ++ b)
  at_both own a b first rest =
      let more = rest (own_after counts own (lines_of a)) first.1 in
      subst (λ (l : List LogLine). AreWritable counts own l × (own_after counts own l ≤ 110000002)) (sym (lines_both a b)) (
        writable_both counts own (lines_of a) (lines_of b) first.0 more.0,
        subst (λ (n : ℕ). n ≤ 110000002) (sym (own_both counts own (lines_of a) (lines_of b))) more.1,
      )

  go_both : (a b : List Told) → Go a → Go b → Go (a ++ b)
  go_both a b first rest = λ own low. at_both own a b (first own low) rest

  last_go : (horizon number : ℕ) (last : Option (List ℕ)) → Go (map (told_row (events.History horizon number)) (optional last))
  last_go horizon number None = λ own low. (tt, low)
  last_go horizon number (Some row) = λ own low. (tt, low)

  word_go : (word : Option EndWord) → Go (map (λ (w : EndWord). logged (lines.End w)) (optional word))
  word_go None = λ own low. (tt, low)
  word_go (Some word) = λ own low. (((omega arith, tt, tt), tt), low)

  -- ---- sections

  section_go : (conditions : Bool) (horizon : ℕ) (section : Section) → IsFairSection (axioms_of d q ask.after conditions horizon) ask.budget section →
      AllByRecursion (IsRow (sizes_at d horizon)) (denied_rows section) → HasGoodLines d q ask.after (section_events conditions horizon section) →
      Go (section_events conditions horizon section)
  section_go conditions horizon section fair rows all = λ own low. ((((omega arith), tt, tt), behind.0), behind.1)
    where
      axioms : Axioms
      axioms = axioms_of d q ask.after conditions horizon

      steps : List Told
      steps = step_events horizon 1 section.steps

      last : List Told
      last = map (told_row (events.History horizon (length (denied_rows section) + 1))) (optional section.last)

      word : List Told
      word = map (λ (w : EndWord). logged (lines.End w)) (optional section.word)

      good : AreGoodAxioms axioms
      good = all.good conditions horizon (in_first (lines.Section conditions horizon) (lines_of (steps ++ last ++ word)))

      few : length section.steps ≤ 102000001
      few =
          let all_few = few_front steps last (few_front (steps ++ last) word (few_rest (events.Log (lines.Section conditions horizon)) (map event_in (steps ++ last ++ word)) all.few)) in
          let told = told_few horizon 1 section.steps all_few (omega arith) in
          let long = steps_few axioms.sizes axioms.clauses section.steps fair.clauses fair.steps in
          let within = fair.within in omega arith

      behind : At (length axioms.clauses + 1) (steps ++ last ++ word)
      behind =
          let opened = all.opened conditions horizon (in_first (lines.Section conditions horizon) (lines_of (steps ++ last ++ word))) in
          let most = section_low (rules_refusal d horizon) (clause_list d q horizon (not conditions) ask.after) opened in
          let clauses_low : length axioms.clauses ≤ 8000000 = most.1 in
          let steps_low = few in
          let done = steps_go counts axioms.variables axioms.sizes most.0 good.positions horizon 1 axioms.clauses section.steps fair.clauses fair.steps
          (all_good axioms.variables axioms.clauses good.clauses good.over) rows (omega arith) (length axioms.clauses + 1) refl in
          let number = done.1 in
          at_both (length axioms.clauses + 1) (steps ++ last) word
          (at_both (length axioms.clauses + 1) steps last (done.0, omega arith) (last_go horizon (length (denied_rows section) + 1) section.last)) (word_go section.word)

  looking_go : (asked : Query) (conditions : Bool) (horizon : ℕ) (section : Section) → LooksForOne d asked (axioms_of d q ask.after conditions horizon) ask.budget horizon section →
      HasGoodLines d q ask.after (section_events conditions horizon section) → Go (section_events conditions horizon section)
  looking_go asked conditions horizon section looks all =
      section_go conditions horizon section looks.fair (no_rows (sizes_at d horizon) (denied_rows section) (optional section.last) looks.silent) all

  -- ---- horizons

  horizon_go : (horizon : ℕ) (there : Horizon) → IsTrueOf d q ask horizon there → HasGoodLines d q ask.after (horizon_events horizon there) → Go (horizon_events horizon there)
  horizon_go horizon (Histories section) is all = section_go false horizon section is.1.fair (first_rows d q horizon (key_row ask) section is.1.first) all
  horizon_go horizon (Conditions section) is all = looking_go (record q { claim = None }) true horizon section is.1 all
  horizon_go horizon (Claim conditions claim) is all =
      let first = section_events true horizon conditions in
      let second = section_events false horizon claim in
      go_both first second (looking_go (record q { claim = None }) true horizon conditions is.1 (front_good d q ask.after first second all))
      (looking_go q false horizon claim is.3 (behind_good d q ask.after first second all))
  horizon_go horizon (Failure conditions claim row) is all =
      let first = section_events true horizon conditions in
      let second = section_events false horizon claim in
      let last = told_row (events.Counterexample horizon) row ∷ [] in
      let both = front_good d q ask.after (first ++ second) last all in
      go_both (first ++ second) last
      (go_both first second (looking_go (record q { claim = None }) true horizon conditions is.1 (front_good d q ask.after first second both))
      (looking_go q false horizon claim is.3 (behind_good d q ask.after first second both)))
      (λ own low. (tt, low))

  said_go : (horizon : ℕ) (there : Horizon) → Go (said_of horizon there)
  said_go horizon (Histories section) = λ own low. (tt, low)
  said_go horizon (Conditions section) = λ own low. (tt, low)
  said_go horizon (Claim conditions claim) = λ own low. (tt, low)
  said_go horizon (Failure conditions claim row) = λ own low. (tt, low)

  done_go : (horizon : ℕ) (done : List Horizon) → AreDone d q ask horizon done → HasGoodLines d q ask.after (done_events horizon done) → Go (done_events horizon done)
  done_go horizon [] are all = λ own low. (tt, low)
  done_go horizon (first ∷ others) are all =
      let here = horizon_events horizon first in
      let said = said_of horizon first in
      let rest = done_events (horizon + 1) others in
      go_both (here ++ said) rest
      (go_both here said (horizon_go horizon first are.0 (front_good d q ask.after here said (front_good d q ask.after (here ++ said) rest all))) (said_go horizon first))
      (done_go (horizon + 1) others are.2 (behind_good d q ask.after (here ++ said) rest all))

  next_go : (horizon last : ℕ) (next : Option Horizon) → IfSome next (λ there. (horizon ≤ last) × IsTrueOf d q ask horizon there) →
      HasGoodLines d q ask.after (flat_map (horizon_events horizon) (optional next)) → Go (flat_map (horizon_events horizon) (optional next))
  next_go horizon last None is all = λ own low. (tt, low)
  next_go horizon last (Some there) is all =
      go_both (horizon_events horizon there) [] (horizon_go horizon there is.1 (front_good d q ask.after (horizon_events horizon there) [] all)) (λ own low. (tt, low))

  end_go : (ending : Option Ending) → Go (map (λ (e : Ending). told (events.Ended e)) (optional ending))
  end_go None = λ own low. (tt, low)
  end_go (Some ending) = λ own low. (tt, low)

  -- the lines of a run, from the first number on
  pub run_writable : (run : Run) → IsFairRun d q ask run → HasGoodLines d q ask.after (events_of (first_horizon q ask.after) run) →
      At 1 (events_of (first_horizon q ask.after) run)
  run_writable run fair all =
      let first = first_horizon q ask.after in
      let horizon = horizon_at first run in
      let done = done_events first run.done in
      let next = flat_map (horizon_events horizon) (optional run.next) in
      let ends = map (λ (e : Ending). told (events.Ended e)) (optional run.ending) in
      let both = front_good d q ask.after (done ++ next) ends all in
      go_both (done ++ next) ends
      (go_both done next (done_go first run.done fair.done (front_good d q ask.after done next both))
      (next_go horizon (last_horizon q ask.after) run.next fair.next (behind_good d q ask.after done next both)))
      (end_go run.ending) 1 (omega arith)
