-- What each step of a run gives: the turn that is told, and where the state stands then.
use Rattle.std.proofs.Common.{◌≡◌, ◌∙◌, ℕ, ◌+◌, ◌<◌, ◌≤◌, List, [], ◌∷◌, ◌++◌, length, Option, Some, None, Result, Ok, Err, IfErr, IsErrAnd, refl, sym, subst, ap, arith, length-append}
use Rattle.std.specs.Prelude.{IsNone, is_some, true, unwrap_or}
use Rattle.std.specs.List.{AllByRecursion}
use Rattle.cc_defs.specs.declared.log.EndWord.TheVariants as words
use Rattle.cc_defs.specs.declared.log.LogLine.{LogLine}
use Rattle.cc_defs.specs.declared.refusal.Fault.{Fault}
use Rattle.cc_defs.specs.declared.refusal.Fault.TheVariants as faults
use Rattle.cc_defs.specs.Description.{Description}
use Rattle.cc_defs.specs.GroundLaws.{PlainGroundQuery, StandsForQuery}
use Rattle.cc_defs.specs.Limits.{most_steps}
use Rattle.cc_defs.specs.Refusals.{IsRefusedBy}
use Rattle.cc_defs.specs.Resolved.{Query}
use Rattle.cc_defs.specs.Rows.{IsRow}
use Rattle.cc_defs.specs.Runs.{Section, range_of}
use Rattle.cc_form.specs.Places.{position_sizes}
use Rattle.cc_forever.specs.Accepted.{IsWritable}
use Rattle.cc_forever.specs.declared.phase.Phase.TheVariants as phases
use Rattle.cc_forever.specs.declared.turn.ForeverTurn.{ForeverTurn}
use Rattle.cc_forever.specs.declared.turn.ForeverTurn.TheVariants as turns
use Rattle.cc_forever.specs.ForeverRuns.{ForeverEnding, ForeverRun, IsFairForever, IsInReach, MayEndForever, Met, Proved, ReachesForeverLimit, Spent, Unsettled, steps_failed}
use Rattle.cc_forever.specs.ForeverTold.{ForeverTold, FailsOver, FoundAt, HoldsOver, LeftOpen, NoneAt, SpentIn, forever_told}
use Rattle.cc_forever.specs.Forevers.{Awaits, ForeverSubject, ForeverView, Gives, HasMore, IsAbout, IsFitTurn, IsForeverTurn, IsOver, IsRightFault, IsRightRun, IsSearched, IsSearchedUnder, Stands, Steps, is_last, left_at, left_of}
use Rattle.cc_forever.proofs.Runs.{at_rest, ends_fair, ends_told, fails_fair, fails_told, in_step, passes_fair, passes_told, rest_is, step_is}
use Rattle.cc_forever.proofs.Searching.{Ended, Searched, empty_ended, least_found, row_fits, spent_ended}
use Rattle.cc_lists.proofs.Members.{all_append}
use Rattle.cc_search.specs.declared.least.Outcome.{Outcome}
use Rattle.cc_search.specs.declared.least.Outcome.TheVariants as outcomes
use Rattle.cc_silent.specs.ForeverLogs.{number_in, query_under, refusal_under}
use Rattle.cc_silent.specs.declared.forever.ForeverHeading.{ForeverHeading}
use Rattle.cc_silent.specs.declared.forever.ForeverHeading.TheVariants as headings
use Rattle.cc_theory.specs.Theories.{AreLawsOf}

-- what is known of an error is so where it goes up
pub errs_with : {T : Type 0} (P : Fault → Type 0) (r : Result T Fault) (fault : Fault) → IsErrAnd r (λ given. given ≡ fault) → P fault → IfErr r P
errs_with P (Ok done) fault is so = tt
errs_with P (Err given) fault is so = subst P (sym is) so

-- ---- a run, told by one turn more

-- what a run comes to with a turn
abbrev pub Goes : ForeverSubject → ForeverView → ForeverTurn → ForeverRun → Type 0
Goes of new turn run = (after : ForeverRun) × Steps of run turn after × Stands new of after

goes_to : (of : ForeverSubject) (new : ForeverView) (turn : ForeverTurn) (run after : ForeverRun) (told : ForeverTold) → IsRightRun of run → IsNone run.ending →
    IsForeverTurn turn told → forever_told of.query after ≡ forever_told of.query run ++ told ∷ [] → is_some after.ending ≡ is_last turn →
    IsFairForever of.description of.query of.budget after → IsWritable of.description of.query told →
    new.failed ≡ steps_failed after → (HasMore new → new.example ≡ after.example) → Awaits after new.phase → Goes of new turn run
goes_to of new turn run after told right open_yet is all ended fair writable failed example awaits = (
  after,
  record { open_yet = open_yet; told = told; is = is; all = all; ended = ended },
  record {
    right = record {
      fair = fair;
      writable = subst (λ (l : List ForeverTold). AllByRecursion (IsWritable of.description of.query) l) (sym all)
          (all_append (IsWritable of.description of.query) (forever_told of.query run) (told ∷ []) right.writable (writable, tt));
    };
    failed = failed;
    example = example;
    awaits = awaits;
  },
)

-- the range of a query
pub range_is : (query : PlainGroundQuery) (d : Description) (q : Query) → StandsForQuery query d q → ((range_of q).0 ≡ query.lo) × ((range_of q).1 ≡ query.hi)
range_is query d q (range, there, made) = (
  ap (λ (o : Option (ℕ × ℕ)). (unwrap_or o (1, 0)).0) there ∙ sym (ap (λ (g : PlainGroundQuery). g.lo) made),
  ap (λ (o : Option (ℕ × ℕ)). (unwrap_or o (1, 0)).1) there ∙ sym (ap (λ (g : PlainGroundQuery). g.hi) made),
)

pub gives_at : (old new expected : ForeverView) (turn : ForeverTurn) → new ≡ expected → Gives old expected turn → Gives old new turn
gives_at old new expected turn is gives = subst (λ (s : ForeverView). Gives old s turn) (sym is) gives

pub searched_as : (now : ForeverView) (heading : ForeverHeading) (outcome expected : Outcome) → outcome ≡ expected → IsSearchedUnder now heading outcome →
    IsSearchedUnder now heading expected
searched_as now heading outcome expected is searched = λ d q laws query.
    subst (IsSearched d (query_under q heading) (number_in heading) now.budget) is (searched d q laws query)

-- ---- endings

module _ (now : ForeverView) (over : IsOver now) where
  over_less : (old : ForeverView) → 0 < left_of old → left_of now < left_of old
  over_less old some = let none : left_of now ≡ 0 = ap (left_at now.failed) over in omega arith

  ends_to : (of : ForeverSubject) (turn : ForeverTurn) (run : ForeverRun) (ending : ForeverEnding) (told : ForeverTold) → IsRightRun of run → IsNone run.ending →
      IsForeverTurn turn told → forever_told of.query (record run { ending = Some ending }) ≡ forever_told of.query run ++ told ∷ [] → is_last turn ≡ true →
      MayEndForever of.description of.query of.budget run ending → IsWritable of.description of.query told → now.failed ≡ steps_failed run → Goes of now turn run
  ends_to of turn run ending told right open_yet is all last may writable failed =
      goes_to of now turn run (record run { ending = Some ending }) told right open_yet is all (sym last)
      (ends_fair of.description of.query of.budget run ending right.fair may) writable failed (λ more. absurd (more over))
      (subst (λ p. Awaits (record run { ending = Some ending }) p) (sym over) refl)

-- ---- what is known of a search

module _ (now : ForeverView) where
  abbrev pub looking : ForeverView
  looking = record now { phase = phases.Looking }

  abbrev pub inducing : ForeverView
  inducing = record now { phase = phases.Inducing }

  -- under the budget of what the run is about
  under : (of : ForeverSubject) → IsAbout looking of → (heading : ForeverHeading) (outcome : Outcome) → IsSearchedUnder now heading outcome →
      Searched of.description of.query of.budget heading outcome
  under of about heading outcome searched =
      subst (λ (budget : ℕ). Searched of.description of.query budget heading outcome) about.budget (searched of.description of.query about.laws about.query)

  -- ---- a horizon is looked at

  -- where a state that looks stands
  record IsAtRest (of : ForeverSubject) (run : ForeverRun) : Type 0 where
    pub right : IsRightRun of (at_rest run.failed run.example)
    pub is : run ≡ at_rest run.failed run.example
    pub failed : now.failed ≡ length run.failed
    pub example : now.example ≡ run.example
    pub low : (range_of of.query).0 ≡ now.query.lo
    pub high : (range_of of.query).1 ≡ now.query.hi

  rests : (of : ForeverSubject) (run : ForeverRun) → IsAbout looking of → Stands looking of run → IsAtRest of run
  rests of run about stands =
      let is = rest_is run stands.awaits.0 stands.awaits.1 in
      let range = range_is now.query of.description of.query about.query in
      record {
        right = subst (IsRightRun of) is stands.right;
        is = is;
        failed = stands.failed;
        example = stands.example (λ same. absurd cc);
        low = range.0;
        high = range.1;
      }

  module _ (h : ℕ) (h_is : h ≡ now.query.lo + now.failed) (low : h ≤ now.query.hi) (few : now.failed < most_steps) where
    at_horizon : (of : ForeverSubject) (run : ForeverRun) → IsAtRest of run → h ≡ (range_of of.query).0 + length run.failed
    at_horizon of run at = let a = at.low in let b = at.failed in omega arith

    reach_at : (of : ForeverSubject) (run : ForeverRun) → IsAtRest of run → IsInReach of.query (length run.failed)
    reach_at of run at =
        let a = at.low in let b = at.failed in let c = at.high in
        record { horizon = omega arith; steps = omega arith }

    there : (outcome : Outcome) → IsSearchedUnder now (headings.Horizon h) outcome → (of : ForeverSubject) (run : ForeverRun) → IsAbout looking of → IsAtRest of run →
        Searched of.description of.query of.budget (headings.Horizon ((range_of of.query).0 + length run.failed)) outcome
    there outcome searched of run about at =
        subst (λ (n : ℕ). Searched of.description of.query of.budget (headings.Horizon n) outcome) (at_horizon of run at)
        (under of about (headings.Horizon h) outcome searched)

    pub look_fault : (fault : Fault) →
        ((d : Description) (q : Query) → AreLawsOf now.signature now.laws d → StandsForQuery now.query d q → IsRefusedBy (refusal_under d q (headings.Horizon h)) fault) →
        IsRightFault looking fault
    look_fault faults.OutOfMemory refused = λ of run about stands. tt
    look_fault (faults.Refused refusal) refused = λ of run about stands.
        let at = rests of run about stands in
        subst (λ (r : ForeverRun). ReachesForeverLimit of.description of.query r refusal) (sym at.is) (record {
          search = record { open_yet = refl; reach = λ none. reach_at of run at };
          limit = subst (λ (n : ℕ). refusal_under of.description of.query (headings.Horizon n) ≡ Some refusal) (at_horizon of run at)
              (refused of.description of.query about.laws about.query);
        })

    module _ (most : now.query.hi ≤ most_steps) where
      pub pass_gives : (lines : List LogLine) → IsSearchedUnder now (headings.Horizon h) (outcomes.Empty lines) → (new : ForeverView) → new ≡ inducing →
          Gives looking new (turns.NoHistory h lines)
      pass_gives lines searched new new_is = gives_at looking new inducing (turns.NoHistory h lines) new_is (record {
        behind = record { less = omega arith; tells = tells };
        fit = λ of run about stands. (
          omega arith,
          (empty_ended of.description of.query of.budget (headings.Horizon h) lines (under of about (headings.Horizon h) (outcomes.Empty lines) searched)).formed,
        );
        goes = λ same. absurd cc;
      })
        where
          tells : (of : ForeverSubject) (run : ForeverRun) → IsAbout looking of → Stands looking of run → Goes of inducing (turns.NoHistory h lines) run
          tells of run about stands =
              let at = rests of run about stands in
              let n = (range_of of.query).0 + length run.failed in
              let by = empty_ended of.description of.query of.budget (headings.Horizon n) lines (there (outcomes.Empty lines) searched of run about at) in
              subst (Goes of inducing (turns.NoHistory h lines)) (sym at.is)
              (goes_to of inducing (turns.NoHistory h lines) (at_rest run.failed run.example) (in_step run.failed by.section run.example) (NoneAt n by.section)
              at.right refl (at_horizon of run at, by.lines_are) (passes_told of.query run.failed by.section run.example) refl
              (passes_fair of.description of.query of.budget run.failed by.section run.example at.right.fair (reach_at of run at) (record { looks = by.looks; ends = by.ends }))
              by.writable at.failed (λ more. at.example) (refl, refl))

      module _ (over : IsOver now) where
        pub found_gives : (row : List ℕ) → IsSearchedUnder now (headings.Horizon h) (outcomes.Found row) → Gives looking now (turns.Found h row)
        found_gives row searched = record {
          behind = record { less = over_less now over looking (omega arith); tells = tells };
          fit = λ of run about stands. (
            omega arith,
            row_fits of.description of.query of.budget (headings.Horizon h) now.signature about.laws.signature_is row
                (least_found of.description of.query of.budget (headings.Horizon h) row (under of about (headings.Horizon h) (outcomes.Found row) searched)),
          );
          goes = tt;
        }
          where
            tells : (of : ForeverSubject) (run : ForeverRun) → IsAbout looking of → Stands looking of run → Goes of now (turns.Found h row) run
            tells of run about stands =
                let at = rests of run about stands in
                let n = (range_of of.query).0 + length run.failed in
                let least = least_found of.description of.query of.budget (headings.Horizon n) row (there (outcomes.Found row) searched of run about at) in
                subst (Goes of now (turns.Found h row)) (sym at.is)
                (ends_to now over of (turns.Found h row) (at_rest run.failed run.example) (Met row) (FoundAt n row) at.right refl (at_horizon of run at, refl)
                (ends_told _ (FoundAt n row)) refl (refl, reach_at of run at, least) tt at.failed)

        pub look_spent_gives : (lines : List LogLine) → IsSearchedUnder now (headings.Horizon h) (outcomes.Spent lines) →
            Gives looking now (turns.Spent (headings.Horizon h) lines)
        look_spent_gives lines searched = record {
          behind = record { less = over_less now over looking (omega arith); tells = tells };
          fit = λ of run about stands.
              (spent_ended of.description of.query of.budget (headings.Horizon h) lines (under of about (headings.Horizon h) (outcomes.Spent lines) searched)).formed;
          goes = tt;
        }
          where
            tells : (of : ForeverSubject) (run : ForeverRun) → IsAbout looking of → Stands looking of run → Goes of now (turns.Spent (headings.Horizon h) lines) run
            tells of run about stands =
                let at = rests of run about stands in
                let heading = headings.Horizon ((range_of of.query).0 + length run.failed) in
                let by = spent_ended of.description of.query of.budget heading lines (there (outcomes.Spent lines) searched of run about at) in
                subst (Goes of now (turns.Spent (headings.Horizon h) lines)) (sym at.is)
                (ends_to now over of (turns.Spent (headings.Horizon h) lines) (at_rest run.failed run.example) (Spent by.section) (SpentIn heading by.section)
                at.right refl (ap headings.Horizon (at_horizon of run at), by.lines_are) (ends_told _ (SpentIn heading by.section)) refl
                ((λ none. reach_at of run at), by.looks, by.ends) by.writable at.failed)

  -- ---- no horizon is left

  module _ (over : IsOver now) (past : now.query.lo + now.failed ≤ now.query.hi → now.failed ≡ most_steps) (row : List ℕ) (example : now.example ≡ Some row) where
    abbrev without : ForeverView
    without = record now { example = None }

    with_row : (of : ForeverSubject) (run : ForeverRun) → IsAtRest of run → IsRightRun of (at_rest run.failed (Some row))
    with_row of run at = subst (λ (o : Option (List ℕ)). IsRightRun of (at_rest run.failed o)) (sym at.example ∙ example) at.right

    none_left : (of : ForeverSubject) (run : ForeverRun) → IsAtRest of run → IsInReach of.query (length run.failed) → ⊥
    none_left of run at reach =
        let a = at.low in let b = at.failed in let c = at.high in let low = reach.horizon in let few = reach.steps in
        let all = past (omega arith) in omega arith

    open_tells : (of : ForeverSubject) (run : ForeverRun) → IsAbout looking of → Stands looking of run → Goes of without (turns.Unsettled now.failed row) run
    open_tells of run about stands =
        let at = rests of run about stands in
        subst (Goes of without (turns.Unsettled now.failed row)) (sym (at.is ∙ ap (at_rest run.failed) (sym at.example ∙ example)))
        (ends_to without over of (turns.Unsettled now.failed row) (at_rest run.failed (Some row)) Unsettled (LeftOpen (length run.failed) row) (with_row of run at) refl
        (at.failed, refl) (ends_told _ (LeftOpen (length run.failed) row)) refl (refl, none_left of run at) tt at.failed)

    open_fits : (of : ForeverSubject) (run : ForeverRun) → IsAbout looking of → Stands looking of run → IsFitTurn now.signature (turns.Unsettled now.failed row)
    open_fits of run about stands =
        let at = rests of run about stands in
        let fair = (with_row of run at).fair in
        let few = fair.within.0 in let same = at.failed in (
          omega arith,
          subst (λ (n : ℕ). IsRow (position_sizes now.signature n) row) (sym same)
              (row_fits of.description of.query of.budget (headings.Steps (length run.failed)) now.signature about.laws.signature_is row fair.example.1),
        )

    pub open_gives : (n : ℕ) → n ≡ now.failed → (new : ForeverView) → new ≡ without → Gives looking new (turns.Unsettled n row)
    open_gives n n_is new new_is = subst (λ (k : ℕ). Gives looking new (turns.Unsettled k row)) (sym n_is)
        (gives_at looking new without (turns.Unsettled now.failed row) new_is (record {
          behind = record { less = over_less without over looking (omega arith); tells = open_tells };
          fit = open_fits;
          goes = tt;
        }))

  -- ---- the step over as many is looked at

  -- where a state that induces stands
  record IsInStep (of : ForeverSubject) (run : ForeverRun) : Type 0 where
    pub section : Section
    pub right : IsRightRun of (in_step run.failed section run.example)
    pub is : run ≡ in_step run.failed section run.example
    pub failed : now.failed ≡ length run.failed

  induces : (of : ForeverSubject) (run : ForeverRun) → Stands inducing of run → IsInStep of run
  induces of run stands =
      let (section, is) = step_is run stands.awaits.0 stands.awaits.1 in
      record { section = section; right = subst (IsRightRun of) is stands.right; is = is; failed = stands.failed }

  module _ (n : ℕ) (n_is : n ≡ now.failed + 1) where
    at_steps : (of : ForeverSubject) (run : ForeverRun) → IsInStep of run → n ≡ length run.failed + 1
    at_steps of run at = let a = at.failed in omega arith

    then_there : (outcome : Outcome) → IsSearchedUnder now (headings.Steps n) outcome → (of : ForeverSubject) (run : ForeverRun) → IsAbout inducing of → IsInStep of run →
        Searched of.description of.query of.budget (headings.Steps (length run.failed + 1)) outcome
    then_there outcome searched of run about at =
        subst (λ (k : ℕ). Searched of.description of.query of.budget (headings.Steps k) outcome) (at_steps of run at)
        (under of (as_looking of about) (headings.Steps n) outcome searched)
      where
        as_looking : (of : ForeverSubject) → IsAbout inducing of → IsAbout looking of
        as_looking of about = record { laws = about.laws; query = about.query; budget = about.budget }

    pub induce_fault : (fault : Fault) →
        ((d : Description) (q : Query) → AreLawsOf now.signature now.laws d → StandsForQuery now.query d q → IsRefusedBy (refusal_under d q (headings.Steps n)) fault) →
        IsRightFault inducing fault
    induce_fault faults.OutOfMemory refused = λ of run about stands. tt
    induce_fault (faults.Refused refusal) refused = λ of run about stands.
        let at = induces of run stands in
        subst (λ (r : ForeverRun). ReachesForeverLimit of.description of.query r refusal) (sym at.is) (record {
          search = record { open_yet = refl; reach = λ none. absurd cc };
          limit = subst (λ (k : ℕ). refusal_under of.description of.query (headings.Steps k) ≡ Some refusal) (at_steps of run at)
              (refused of.description of.query about.laws about.query);
        })

    module _ (few : now.failed < most_steps) where
      abbrev after : List ℕ → ForeverView
      after row = record now { failed = n; example = Some row; phase = phases.Looking }

      pub fail_gives : (row : List ℕ) → IsSearchedUnder now (headings.Steps n) (outcomes.Found row) → (new : ForeverView) →
          new ≡ record now { failed = n; example = Some row; phase = phases.Looking } → Gives inducing new (turns.Fails n)
      fail_gives row searched new new_is = gives_at inducing new (after row) (turns.Fails n) new_is (record {
        behind = record { less = omega arith; tells = tells };
        fit = λ of run about stands. omega arith;
        goes = λ same. absurd cc;
      })
        where
          tells : (of : ForeverSubject) (run : ForeverRun) → IsAbout inducing of → Stands inducing of run → Goes of (after row) (turns.Fails n) run
          tells of run about stands =
              let at = induces of run stands in
              let heading = headings.Steps (length run.failed + 1) in
              let least = least_found of.description of.query of.budget heading row (then_there (outcomes.Found row) searched of run about at) in
              let same = at_steps of run at in
              let more = length-append run.failed (at.section ∷ []) in
              subst (Goes of (after row) (turns.Fails n)) (sym at.is)
              (goes_to of (after row) (turns.Fails n) (in_step run.failed at.section run.example) (at_rest (run.failed ++ at.section ∷ []) (Some row))
              (FailsOver (length run.failed + 1)) at.right refl same (fails_told of.query run.failed at.section run.example row) refl
              (fails_fair of.description of.query of.budget run.failed at.section run.example row at.right.fair least) tt (omega arith) (λ more. refl) (refl, refl))

      module _ (over : IsOver now) where
        pub hold_gives : (lines : List LogLine) → IsSearchedUnder now (headings.Steps n) (outcomes.Empty lines) → Gives inducing now (turns.Holds n lines)
        hold_gives lines searched = record {
          behind = record { less = over_less now over inducing (omega arith); tells = tells };
          fit = λ of run about stands. (omega arith, (by_lines of run about (induces of run stands)).formed);
          goes = tt;
        }
          where
            by_lines : (of : ForeverSubject) (run : ForeverRun) → IsAbout inducing of → IsInStep of run →
                Ended of.description of.query of.budget (headings.Steps (length run.failed + 1)) words.Empty lines
            by_lines of run about at =
                empty_ended of.description of.query of.budget (headings.Steps (length run.failed + 1)) lines (then_there (outcomes.Empty lines) searched of run about at)

            tells : (of : ForeverSubject) (run : ForeverRun) → IsAbout inducing of → Stands inducing of run → Goes of now (turns.Holds n lines) run
            tells of run about stands =
                let at = induces of run stands in
                let by = by_lines of run about at in
                subst (Goes of now (turns.Holds n lines)) (sym at.is)
                (ends_to now over of (turns.Holds n lines) (in_step run.failed at.section run.example) (Proved by.section) (HoldsOver (length run.failed + 1) by.section)
                at.right refl (at_steps of run at, by.lines_are) (ends_told _ (HoldsOver (length run.failed + 1) by.section)) refl
                (refl, record { looks = by.looks; ends = by.ends }) by.writable at.failed)

        pub induce_spent_gives : (lines : List LogLine) → IsSearchedUnder now (headings.Steps n) (outcomes.Spent lines) → Gives inducing now (turns.Spent (headings.Steps n) lines)
        induce_spent_gives lines searched = record {
          behind = record { less = over_less now over inducing (omega arith); tells = tells };
          fit = λ of run about stands. (by_lines of run about (induces of run stands)).formed;
          goes = tt;
        }
          where
            by_lines : (of : ForeverSubject) (run : ForeverRun) → IsAbout inducing of → IsInStep of run →
                Ended of.description of.query of.budget (headings.Steps (length run.failed + 1)) words.Spent lines
            by_lines of run about at =
                spent_ended of.description of.query of.budget (headings.Steps (length run.failed + 1)) lines (then_there (outcomes.Spent lines) searched of run about at)

            tells : (of : ForeverSubject) (run : ForeverRun) → IsAbout inducing of → Stands inducing of run → Goes of now (turns.Spent (headings.Steps n) lines) run
            tells of run about stands =
                let at = induces of run stands in
                let by = by_lines of run about at in
                let heading = headings.Steps (length run.failed + 1) in
                subst (Goes of now (turns.Spent (headings.Steps n) lines)) (sym at.is)
                (ends_to now over of (turns.Spent (headings.Steps n) lines) (in_step run.failed at.section run.example) (Spent by.section) (SpentIn heading by.section)
                at.right refl (ap headings.Steps (at_steps of run at), by.lines_are) (ends_told _ (SpentIn heading by.section)) refl
                ((λ none. absurd cc), by.looks, by.ends) by.writable at.failed)
