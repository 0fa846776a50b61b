-- What each step of a run gives: the event that is told, and where the state stands then.
use Rattle.std.proofs.Common.{◌≡◌, ◌≢◌, ◌∙◌, ℕ, zero, suc, ◌+◌, ◌-◌, ◌*◌, ◌<◌, ◌≤◌, List, [], ◌∷◌, ◌++◌, length, map, Option, Some, None, Result, Ok, Err, IfOk, IfErr, refl, sym, subst, ap, arith, length-append, inl, inr}
use Rattle.std.specs.Prelude.{IfSome}
use Rattle.std.specs.Global.{Vec}
use Rattle.std.specs.List.{AllByRecursion}
use Rattle.cc_defs.specs.declared.event.Ending.{Ending}
use Rattle.cc_defs.specs.declared.event.Ending.TheVariants as endings
use Rattle.cc_defs.specs.declared.log.EndWord.TheVariants as words
use Rattle.cc_defs.specs.declared.log.LogLine.{LogLine}
use Rattle.cc_defs.specs.declared.log.LogLine.TheVariants as said
use Rattle.cc_defs.specs.declared.refusal.Fault.{Fault}
use Rattle.cc_defs.specs.declared.refusal.Fault.TheVariants as faults
use Rattle.cc_defs.specs.GroundLaws.{StandsForQuery}
use Rattle.cc_defs.specs.Limits.{most_histories}
use Rattle.cc_defs.specs.LogTexts.{IsFormed}
use Rattle.cc_defs.specs.Refusals.{IsRefusedBy}
use Rattle.cc_defs.specs.Resolved.{Query}
use Rattle.cc_defs.specs.Runs.{range_of, rows_of}
use Rattle.cc_general.specs.declared.turn.GeneralTurn.{GeneralTurn}
use Rattle.cc_general.specs.declared.turn.GeneralTurn.TheVariants as events
use Rattle.cc_general.specs.declared.halt.Halt.{Halt}
use Rattle.cc_general.specs.declared.halt.Halt.TheVariants as halts
use Rattle.cc_general.specs.declared.phase.Phase.{Phase}
use Rattle.cc_general.specs.declared.phase.Phase.TheVariants as phases
use Rattle.cc_general.specs.GeneralRuns.{GeneralEnding, Complete, Asked, NoneAtAll, SpentAmong, SpentOver, GeneralRun, IsFairGeneral, IsWanting, MayEndGeneral, Shown, WentThrough, general_horizon, rows_shown}
use Rattle.cc_general.specs.Generals.{Awaits, GeneralView, IsAmong, IsGeneralOf, IsGoodEvent, IsOver, IsReady, IsRightFault, Stands, left_at, left_of}
use Rattle.cc_general.specs.Walks.{Comes, Gives, HaltsAt, IsListingAt, IsToldOf, IsWalkFault, IsWalkLimit}
use Rattle.cc_general.proofs.Candidates.{all_told, candidate, first_told, gone_more, none_told}
use Rattle.cc_general.proofs.Fairness.{ends_fair, passes_fair, range_is, shown_behind, shows_fair}
use Rattle.cc_general.proofs.Walking.{all_append, next_found}
use Rattle.cc_lists.specs.Sections.{rows_in, section_of}
use Rattle.cc_lists.proofs.Members.{in_none}
use Rattle.cc_query.specs.Lefts as lefts
use Rattle.cc_rivals.specs.Wides.{HistoriesHaveNoRivals, candidates_refusal}
use Rattle.cc_search.specs.declared.stage.Stage.{Stage}
use Rattle.cc_search.specs.declared.stage.Stage.TheVariants as stages
use Rattle.cc_search.specs.Searches.{SearchView, phase_of}
use Rattle.cc_search.specs.Searches as searches
use Rattle.cc_wide.specs.WideLaws.{WideDescription, frame}
use Rattle.cc_wide.specs.WideRules.{IsGeneral, IsRival}

pub gives_at : (old new expected : GeneralView) (event told : GeneralTurn) → new ≡ expected → event ≡ told → Gives old expected told → Gives old new event
gives_at old new expected event told is event_is gives = subst (λ (s : GeneralView). Gives old s event) (sym is) (subst (Gives old expected) (sym event_is) gives)

-- ---- how much is left

some_left : (stage : Stage) → stage ≢ stages.Ended → 0 < lefts.left_at (phase_of stage)
some_left (stages.Searching solver listed) more = omega arith
some_left (stages.Denying solver listed) more = omega arith
some_left stages.Refuted more = omega arith
some_left stages.Ended more = absurd (more refl)

most_left : (stage : Stage) → lefts.left_at (phase_of stage) ≤ 202000005
most_left (stages.Searching solver listed) = omega arith
most_left (stages.Denying solver listed) = omega arith
most_left stages.Refuted = omega arith
most_left stages.Ended = omega arith

module _ (now : GeneralView) where
  abbrev ahead : ℕ
  ahead = 500000000 * (now.query.hi + 1 - now.horizon)

  left_over : IsOver now → left_of now ≡ ahead
  left_over over = ap (λ (p : Phase). ahead + left_at p) over ∙ (let e : ahead + 0 ≡ ahead = omega arith in e)

  over_less : IsOver now → (some : ℕ) → 0 < some → left_of now < ahead + some
  over_less over some more = let left = left_over over in omega arith

  low_of : (w : WideDescription) (q : Query) (run : GeneralRun) → StandsForQuery now.query (frame w) q → now.horizon ≡ general_horizon q run → now.horizon ≤ now.query.hi →
      general_horizon q run ≤ (range_of q).1
  low_of w q run query horizon low = let range = range_is w q now.query query in let hi = range.1 in omega arith

  -- ---- an ending

  ends_so : (w : WideDescription) (q : Query) (run : GeneralRun) (how : GeneralEnding) → IsOver now → IsFairGeneral w q now.count now.budget run → now.horizon ≡ general_horizon q run →
      now.listed ≡ length run.shown → MayEndGeneral w q now.count now.budget run how → Stands w q now (record run { ending = Some how })
  ends_so w q run how over fair horizon listed may = record {
    fair = ends_fair w q now.count now.budget run fair how may;
    horizon = horizon;
    listed = listed;
    awaits = subst (Awaits w q now (record run { ending = Some how })) (sym over) refl;
  }

  ended_is : (q : Query) (run : GeneralRun) (ending : ℕ → ℕ → Ending) → now.horizon ≡ general_horizon q run → now.listed ≡ length run.shown →
      ending now.horizon now.listed ≡ ending (general_horizon q run) (length run.shown)
  ended_is q run ending horizon listed = λ i. ending (horizon i) (listed i)

  wanting_of : (run : GeneralRun) → now.listed ≡ length run.shown → IfSome now.count (λ most. now.listed < most) → IsWanting now.count run
  wanting_of run listed wanting = subst (λ (n : ℕ). IfSome now.count (λ most. n < most)) listed wanting

  -- ---- a horizon is opened

  abbrev pub opening : GeneralView
  opening = record now { phase = phases.Opening }

  pub none_gives : IsOver now → now.query.hi < now.horizon → now.horizon ≤ now.query.hi + 1 → Gives opening now (events.Ended endings.NoHistory)
  none_gives over high most = record {
    tells = λ w q run of stands. (
      record run { ending = Some NoneAtAll },
      stands.awaits.0,
      (NoneAtAll, tt, refl, refl),
      ends_so w q run NoneAtAll over stands.fair stands.horizon stands.listed
          (stands.awaits.1, (let range = range_is w q now.query of.query in let hi = range.1 in let horizon = stands.horizon in omega arith)),
    );
    less = over_less over 300000000 (omega arith);
    goes = over;
    writable = tt;
    good = λ w q of. tt;
  }

  pub form_fault : now.horizon ≤ now.query.hi → IfSome now.count (λ most. 1 ≤ most) → (fault : Fault) →
      ((w : WideDescription) (q : Query) → IsGeneralOf now w q → IsRefusedBy (candidates_refusal w q now.horizon) fault) → IsRightFault opening fault
  form_fault low count faults.OutOfMemory refused = tt
  form_fault low count (faults.Refused refusal) refused = λ w q run of stands. record {
    open_yet = stands.awaits.0;
    horizon = low_of w q run of.query stands.horizon low;
    more = subst (λ (shown : List Shown). IfSome now.count (λ most. length shown < most)) (sym stands.awaits.1) (wanted now.count count);
    limit = inl (stands.awaits.1, subst (λ (h : ℕ). candidates_refusal w q h ≡ Some refusal) stands.horizon (refused w q (record { laws = of.laws; query = of.query })));
  }
    where
      wanted : (o : Option ℕ) → IfSome o (λ most. 1 ≤ most) → IfSome o (λ most. 0 < most)
      wanted None is = tt
      wanted (Some most) is = omega arith

  -- ---- its candidates are searched

  module _ (search : SearchView) (lines : Vec LogLine) where
    abbrev pub listing : GeneralView
    listing = record now { phase = phases.Listing search lines }

    module _ (none : now.listed ≡ 0) (empty : lines.items ≡ [])
        (among : (w : WideDescription) (q : Query) → IsGeneralOf now w q → IsAmong w q now.budget now.horizon [] search []) where
      pub begun_ready : IfSome now.count (λ most. 1 ≤ most) → IsListingAt now 0 search [] → IsReady now (phases.Listing search lines)
      begun_ready count ready = (
        subst (λ (n : ℕ). IfSome now.count (λ most. n ≤ most)) (sym none) (some now.count count),
        subst (λ (l : List LogLine). IsListingAt now now.listed search l) (sym empty) (subst (λ (n : ℕ). IsListingAt now n search []) (sym none) ready),
      )
        where
          some : (o : Option ℕ) → IfSome o (λ most. 1 ≤ most) → IfSome o (λ most. 0 ≤ most)
          some None is = tt
          some (Some most) is = omega arith

      begun_stands : (w : WideDescription) (q : Query) (run : GeneralRun) → IsGeneralOf opening w q → Stands w q opening run → Stands w q listing run
      begun_stands w q run of stands = record {
        fair = stands.fair;
        horizon = stands.horizon;
        listed = stands.listed;
        awaits = (
          stands.awaits.0,
          subst (λ (l : List LogLine). IsAmong w q now.budget now.horizon (rows_shown run) search l) (sym empty)
              (subst (λ (shown : List Shown). IsAmong w q now.budget now.horizon (map (λ (s : Shown). s.row) shown) search []) (sym stands.awaits.1)
              (among w q (record { laws = of.laws; query = of.query }))),
        );
      }

      pub begun_gives : (new : GeneralView) (event : GeneralTurn) → Gives listing new event → Gives opening new event
      begun_gives new event gives = record {
        tells = λ w q run of stands. gives.tells w q run (record { laws = of.laws; query = of.query }) (begun_stands w q run of stands);
        less = let less = gives.less in let most = most_left search.stage in omega arith;
        goes = gives.goes;
        writable = gives.writable;
        good = λ w q of. gives.good w q (record { laws = of.laws; query = of.query });
      }

      pub begun_fault : (fault : Fault) → IsRightFault listing fault → IsRightFault opening fault
      begun_fault faults.OutOfMemory is = tt
      begun_fault (faults.Refused refusal) is = λ w q run of stands. is w q run (record { laws = of.laws; query = of.query }) (begun_stands w q run of stands)

    module _ (ready : IsListingAt now now.listed search lines.items) where
      pub asked_gives : IsOver now → now.count ≡ Some now.listed → Gives listing now (events.Ended (endings.Asked now.horizon now.listed))
      asked_gives over count = record {
        tells = λ w q run of stands. (
          record run { ending = Some Asked },
          stands.awaits.0,
          (Asked, tt, ended_is q run endings.Asked stands.horizon stands.listed, refl),
          ends_so w q run Asked over stands.fair stands.horizon stands.listed (count ∙ ap Some stands.listed),
        );
        less = over_less over (searches.left_of search) (some_left search.stage ready.more);
        goes = over;
        writable = tt;
        good = λ w q of. tt;
      }

      pub walk_fault : IfSome now.count (λ most. now.listed < most) → (fault : Fault) → IsWalkFault now search lines.items fault → IsRightFault listing fault
      walk_fault wanting faults.OutOfMemory is = tt
      walk_fault wanting (faults.Refused refusal) is = λ w q run of stands. record {
        open_yet = stands.awaits.0;
        horizon = low_of w q run of.query stands.horizon ready.low;
        more = wanting_of run stands.listed wanting;
        limit = inr (subst (λ (h : ℕ). IsWalkLimit w q h (rows_shown run) refusal) stands.horizon (is w q (rows_shown run) of.laws of.query stands.awaits.1));
      }

      -- ---- what the walk comes to

      module _ (law : HistoriesHaveNoRivals) (wanting : IfSome now.count (λ most. now.listed < most)) (new : SearchView) (after : List LogLine) where
        few_listed : now.listed ≤ most_histories
        few_listed = let few = ready.few in let most = ready.stands.few in omega arith

        -- at the horizon of the run
        halted : (halt : Halt) → Comes now search lines.items new after (Some halt) → (w : WideDescription) (q : Query) (run : GeneralRun) → IsGeneralOf listing w q → Stands w q listing run →
            HaltsAt w q now.budget (general_horizon q run) (rows_shown run) new after halt
        halted halt comes w q run of stands =
            subst (λ (h : ℕ). HaltsAt w q now.budget h (rows_shown run) new after halt) stands.horizon (comes.tells w q (rows_shown run) of.laws of.query stands.awaits.1)

        left_less : {halt : Option Halt} → Comes now search lines.items new after halt → 0 < searches.left_of search
        left_less comes = let less = comes.less in omega arith

        pub over_gives : IsOver now → (row : List ℕ) (spent : List LogLine) → Comes now search lines.items new after (Some (halts.SpentOver row spent)) →
            Gives listing now (events.Spent now.horizon now.listed (Some row) spent)
        over_gives over row spent comes = record {
          tells = λ w q run of stands.
              let (found, shown) = halted (halts.SpentOver row spent) comes w q run of stands in (
                record run { ending = Some (SpentOver row shown.section) },
                stands.awaits.0,
                (SpentOver row shown.section, (refl, shown.lines_are), stands.horizon, stands.listed, refl),
                ends_so w q run (SpentOver row shown.section) over stands.fair stands.horizon stands.listed (
                  low_of w q run of.query stands.horizon ready.low,
                  wanting_of run stands.listed wanting,
                  next_found w q now.budget (general_horizon q run) (rows_shown run) new after row found,
                  shown.looks,
                  shown.ends,
                ),
              );
          less = over_less over (searches.left_of search) (left_less comes);
          goes = over;
          writable = record { low = ready.small; few = few_listed; is_row = comes.ready.0; formed = comes.ready.1 };
          good = λ w q of. tt;
        }

        pub among_gives : IsOver now → (all : List LogLine) → all ≡ after ++ said.End words.Spent ∷ [] → Comes now search lines.items new after (Some halts.SpentAmong) →
            Gives listing now (events.Spent now.horizon now.listed None all)
        among_gives over all all_is comes = record {
          tells = λ w q run of stands.
              let closed = halted halts.SpentAmong comes w q run of stands in (
                record run { ending = Some (SpentAmong closed.section) },
                stands.awaits.0,
                (SpentAmong closed.section, (refl, all_is ∙ closed.lines_are), stands.horizon, stands.listed, refl),
                ends_so w q run (SpentAmong closed.section) over stands.fair stands.horizon stands.listed (
                  low_of w q run of.query stands.horizon ready.low,
                  wanting_of run stands.listed wanting,
                  closed.tells,
                  closed.gone,
                  closed.ends,
                ),
              );
          less = over_less over (searches.left_of search) (left_less comes);
          goes = over;
          writable = record {
            low = ready.small;
            few = few_listed;
            is_row = tt;
            formed = subst (AllByRecursion IsFormed) (sym all_is) (all_append IsFormed after (said.End words.Spent ∷ []) comes.ready (tt, tt));
          };
          good = λ w q of. tt;
        }

        complete_gives : IsOver now → 0 < now.listed → Comes now search lines.items new after (Some halts.Exhausted) →
            Gives listing now (events.Ended (endings.Complete now.horizon now.listed))
        complete_gives over some comes = record {
          tells = λ w q run of stands.
              let closed = halted halts.Exhausted comes w q run of stands in (
                record run { ending = Some Complete },
                stands.awaits.0,
                (Complete, tt, ended_is q run endings.Complete stands.horizon stands.listed, refl),
                ends_so w q run Complete over stands.fair stands.horizon stands.listed (
                  (λ none. (let listed = stands.listed in let zero_long = ap length none in absurd (omega arith))),
                  wanting_of run stands.listed wanting,
                  all_told law w q (general_horizon q run) (rows_of closed.section) (rows_shown run) (closed.tells.all_told closed.ends) closed.gone.judged stands.fair.first,
                  (rows_of closed.section, closed.gone, closed.tells.all_told closed.ends),
                ),
              );
          less = over_less over (searches.left_of search) (left_less comes);
          goes = over;
          writable = tt;
          good = λ w q of. tt;
        }

        pass_gives : now.listed ≡ 0 → Comes now search lines.items new after (Some halts.Exhausted) →
            Gives listing (record now { horizon = now.horizon + 1; phase = phases.Opening }) (events.NoHistory now.horizon)
        pass_gives none comes = record {
          tells = λ w q run of stands.
              let closed = halted halts.Exhausted comes w q run of stands in
              let nothing = no_items run.shown (sym stands.listed ∙ none) in
              let gone = subst (λ (shown : List Shown). WentThrough w q (general_horizon q run) (rows_of closed.section) (map (λ (s : Shown). s.row) shown)) nothing closed.gone in (
                record run { empty = run.empty + 1 },
                stands.awaits.0,
                (stands.horizon, nothing, refl),
                record {
                  fair = passes_fair w q now.count now.budget run stands.fair stands.awaits.0 nothing (low_of w q run of.query stands.horizon ready.low)
                      (none_told law w q (general_horizon q run) (rows_of closed.section) (closed.tells.all_told closed.ends) gone.judged)
                      closed.within (rows_of closed.section, gone, closed.tells.all_told closed.ends);
                  horizon = (let horizon = stands.horizon in let e : now.horizon + 1 ≡ (range_of q).0 + (run.empty + 1) = omega arith in e);
                  listed = stands.listed;
                  awaits = (stands.awaits.0, nothing);
                },
              );
          less = let low = ready.low in omega arith;
          goes = λ is. absurd cc;
          writable = ready.small;
          good = λ w q of. tt;
        }
          where
            no_items : (shown : List Shown) → length shown ≡ 0 → shown ≡ []
            no_items [] is = refl
            no_items (one ∷ others) is = absurd (omega arith)

        -- there are no more candidates
        pub exhausted_gives : IsOver now → Comes now search lines.items new after (Some halts.Exhausted) → (then : GeneralView) (event : GeneralTurn) →
            (0 < now.listed → (event ≡ events.Ended (endings.Complete now.horizon now.listed)) × (then ≡ now)) →
            (now.listed ≡ 0 → (event ≡ events.NoHistory now.horizon) × (then ≡ record now { horizon = now.horizon + 1; phase = phases.Opening })) → Gives listing then event
        exhausted_gives over comes then event some none = by now.listed refl
          where
            by : (listed : ℕ) → now.listed ≡ listed → Gives listing then event
            by zero is = let told = none is in gives_at listing then _ event _ told.1 told.0 (pass_gives is comes)
            by (suc listed) is = let told = some (omega arith) in gives_at listing then now event _ told.1 told.0 (complete_gives over (omega arith) comes)

        module _ (row : List ℕ) (shown : List LogLine) (comes : Comes now search lines.items new after (Some (halts.Alone row shown))) (kept : Vec LogLine) (kept_is : kept.items ≡ after) where
          pub show_few : now.listed < most_histories
          show_few = let few = comes.ready.0.few in let most = comes.ready.0.stands.few in omega arith

          pub show_ready : IsReady (record now { listed = now.listed + 1 }) (phases.Listing new kept)
          show_ready = (
            more now.count wanting,
            subst (λ (l : List LogLine). IsListingAt now (now.listed + 1) new l) (sym kept_is) comes.ready.0,
          )
            where
              more : (o : Option ℕ) → IfSome o (λ most. now.listed < most) → IfSome o (λ most. now.listed + 1 ≤ most)
              more None is = tt
              more (Some most) is = omega arith

          shown_at : Gives listing (record now { listed = now.listed + 1; phase = phases.Listing new kept }) (events.History now.horizon (now.listed + 1) row shown)
          shown_at = record {
            tells = λ w q run of stands.
                let (found, shows) = halted (halts.Alone row shown) comes w q run of stands in
                let at = general_horizon q run in
                let is : IsGeneral w q at row = (law w q at row).1 (
                  candidate law w q at (rows_in found.steps) (rows_shown run) row found.first found.gone.judged,
                  λ other rival. in_none other (((subst (Rattle.cc_defs.specs.Histories.AreAllOf (IsRival w at row)) shows.looks.silent (shows.looks.tells.all_told shows.ends)).members other).1 rival),
                ) in
                let gone = subst (WentThrough w q at (rows_in found.steps ++ row ∷ [])) (sym (shown_behind run row shows.section))
                (gone_more law w q at (rows_in found.steps) (rows_shown run) row found.first found.stands.few found.gone shows.looks.within is) in (
                  record run { shown = run.shown ++ record { row = row; section = shows.section } ∷ [] },
                  stands.awaits.0,
                  (stands.horizon, (let listed = stands.listed in let e : now.listed + 1 ≡ length run.shown + 1 = omega arith in e), (shows.section, shows.lines_are, refl)),
                  record {
                    fair = shows_fair w q now.count now.budget run stands.fair row shows.section stands.awaits.0 (low_of w q run of.query stands.horizon ready.low) found.within
                        (wanting_of run stands.listed wanting)
                        (first_told law w q at (rows_in found.steps) (rows_shown run) row found.first found.gone.judged is stands.fair.first) (rows_in found.steps ++ row ∷ [], gone) (shows.looks, shows.ends);
                    horizon = stands.horizon;
                    listed = (let listed = stands.listed in let long = length-append run.shown (record { row = row; section = shows.section } ∷ []) in omega arith);
                    awaits = (
                      stands.awaits.0,
                      subst (λ (h : ℕ). IsAmong w q now.budget h (rows_shown (record run { shown = run.shown ++ record { row = row; section = shows.section } ∷ [] })) new kept.items) (sym stands.horizon) (record {
                        within = found.within;
                        section = section_of found.steps (Some row) None;
                        stands = found.stands;
                        lines_are = kept_is ∙ found.lines_are;
                        gone = gone;
                      }),
                    );
                  },
                );
            less = let less = comes.less in omega arith;
            goes = λ is. absurd cc;
            writable = record {
              low = ready.small;
              few = (let few = show_few in omega arith);
              is_row = comes.ready.1;
              formed = comes.ready.2;
            };
            good = λ w q of. comes.ready.3 w of.laws;
          }

          pub show_gives : (then : GeneralView) (event : GeneralTurn) → then ≡ record now { listed = now.listed + 1; phase = phases.Listing new kept } →
              event ≡ events.History now.horizon (now.listed + 1) row shown → Gives listing then event
          show_gives then event then_is event_is = gives_at listing then _ event _ then_is event_is shown_at

pub come_at : (now : GeneralView) (before : SearchView) (begun after : List LogLine) (new : SearchView) (halt given : Halt) → halt ≡ given →
    Comes now before begun new after (Some halt) → Comes now before begun new after (Some given)
come_at now before begun after new halt given same comes = subst (λ (h : Halt). Comes now before begun new after (Some h)) same comes

pub over_told : (now : GeneralView) (search : SearchView) (lines : Vec LogLine) (event told : GeneralTurn) → event ≡ told → Gives (listing now search lines) now told → Gives (listing now search lines) now event
over_told now search lines event told same gives = subst (Gives (listing now search lines) now) (sym same) gives

pub among_told : (law : HistoriesHaveNoRivals) (now : GeneralView) (new : SearchView) (after : List LogLine) (halt : Halt) (r : Result GeneralTurn Fault) → halt ≡ halts.SpentAmong → IsOver now →
    IfSome now.count (λ most. now.listed < most) → IfOk r (λ event. event ≡ events.Spent now.horizon now.listed None (after ++ said.End words.Spent ∷ [])) →
    IfOk r (IsToldOf now new after halt now)
among_told law now new after halt (Err fault) is over wanting told = tt
among_told law now new after halt (Ok event) is over wanting told = λ before begun ready comes.
    subst (Gives (listing now before begun) now) (sym told)
    (among_gives now before begun ready law wanting new after over (after ++ said.End words.Spent ∷ []) refl (come_at now before begun.items after new halt halts.SpentAmong is comes))

pub told_gives : (now then : GeneralView) (search new : SearchView) (lines : Vec LogLine) (after : List LogLine) (halt : Halt) (r : Result GeneralTurn Fault) →
    IsListingAt now now.listed search lines.items → Comes now search lines.items new after (Some halt) → IfOk r (IsToldOf now new after halt then) → IfOk r (Gives (listing now search lines) then)
told_gives now then search new lines after halt (Err fault) ready comes told = tt
told_gives now then search new lines after halt (Ok event) ready comes told = told search lines ready comes

pub only_memory : (general : GeneralView) (r : Result GeneralTurn Fault) → IfErr r (λ fault. fault ≡ faults.OutOfMemory) → IfErr r (IsRightFault general)
only_memory general (Ok event) is = tt
only_memory general (Err fault) is = subst (IsRightFault general) (sym is) tt

module _ (now : GeneralView) (search : SearchView) (lines : Vec LogLine) (none : now.listed ≡ 0) (empty : lines.items ≡ [])
    (among : (w : WideDescription) (q : Query) → IsGeneralOf now w q → IsAmong w q now.budget now.horizon [] search []) where
  pub all_begun_gives : (new : GeneralView) (r : Result GeneralTurn Fault) → IfOk r (Gives (listing now search lines) new) → IfOk r (Gives (opening now) new)
  all_begun_gives new (Err fault) gives = tt
  all_begun_gives new (Ok event) gives = begun_gives now search lines none empty among new event gives

  pub all_begun_fault : (r : Result GeneralTurn Fault) → IfErr r (IsRightFault (listing now search lines)) → IfErr r (IsRightFault (opening now))
  all_begun_fault (Ok event) right = tt
  all_begun_fault (Err fault) right = begun_fault now search lines none empty among fault right

pub good_gives : (old new : GeneralView) (r : Result GeneralTurn Fault) → IfOk r (Gives old new) → (w : WideDescription) (q : Query) → IsGeneralOf old w q → IfOk r (IsGoodEvent w)
good_gives old new (Err fault) gives w q of = tt
good_gives old new (Ok event) gives w q of = gives.good w q of

-- what was taken out was the phase
pub taken_back : (now new : GeneralView) (given phase : Phase) → given ≡ now.phase → new ≡ record now { phase = phases.Ended } → given ≡ phase → record new { phase = phase } ≡ now
taken_back now new given phase taken left is = (λ i. record (left i) { phase = phase }) ∙ (λ i. record now { phase = (sym is ∙ taken) i })
