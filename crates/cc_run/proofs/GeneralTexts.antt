-- What a run over candidates gives, event by event, and how it ends.
use Rattle.std.proofs.Common.{◌≡◌, ◌∙◌, refl, sym, ap, subst, ℕ, zero, suc, ◌+◌, List, [], ◌∷◌, ◌++◌, append-nil, append_assoc, add-one, flat_map, length, map, Option, Some, None, inl, inr, arith}
use Rattle.std.specs.Prelude.{IsNone}
use Rattle.std.proofs.lemmas.Grind.{flat_map-append}
use Rattle.std.proofs.lemmas.List.{flat_map_more}
use Rattle.cc_defs.specs.declared.event.Event.TheVariants as said
use Rattle.cc_defs.specs.declared.event.Ending.TheVariants as endings
use Rattle.cc_defs.specs.declared.event.Told.{Told}
use Rattle.cc_defs.specs.Description.{Description}
use Rattle.cc_defs.specs.Events.{out_text, told_text}
use Rattle.cc_defs.specs.Resolved.{Query}
use Rattle.cc_defs.specs.Runs.{Section, range_of, told, told_row}
use Rattle.cc_general.specs.declared.turn.GeneralTurn.{GeneralTurn}
use Rattle.cc_general.specs.declared.turn.GeneralTurn.TheVariants as events
use Rattle.cc_general.specs.GeneralRuns.{ReachesGeneralLimit, GeneralEnding, Complete, Asked, NoneAtAll, SpentAmong, SpentOver, GeneralRun, Shown, general_horizon}
use Rattle.cc_general.specs.Accepted.{IsUnspentEnding}
use Rattle.cc_general.specs.Generals.{GoesOnBy, IsSpentWith}
use Rattle.cc_silent.specs.GeneralLogs.{general_header}
use Rattle.cc_general.specs.GeneralSteps.{GeneralSubject, IsRightRun, Steps}
use Rattle.cc_general.specs.GeneralTold.{ending_of, general_log, general_told, none_told, shown_text, shown_told, spent_text}
use Rattle.cc_lists.specs.Sections.{section_lines}
use Rattle.cc_run.specs.Generals.{generally_given}
use Rattle.cc_run.specs.Modes.Generally.{EndsGenerally}
use Rattle.cc_tell_modes.specs.GeneralTexts.{general_status_behind, given_generally, heading_for, lines_text}
use Rattle.cc_tell.specs.declared.status.Status.{Status}
use Rattle.cc_tell.specs.Statuses.{status_of}
use Rattle.cc_tell_modes.specs.RunsTold.{EndsBy, GivesBy}
use Rattle.cc_tell.specs.Givens.{Given, joined}
use Rattle.cc_wide.specs.WideLaws.{WideDescription, frame}

-- ---- what is told of an event

abbrev told_by : GeneralTurn → Told
told_by (events.NoHistory horizon) = told (said.NoHistory horizon)
told_by (events.History horizon number row lines) = told_row (said.History horizon number) row
told_by (events.Ended ending) = told (said.Ended ending)
told_by (events.Spent horizon listed rivals_of lines) = told (said.Ended (endings.Spent horizon listed))

abbrev logged_by : GeneralTurn → List ℕ
logged_by (events.NoHistory horizon) = []
logged_by (events.History horizon number row lines) = heading_for horizon (Some row) ++ lines_text lines
logged_by (events.Ended ending) = []
logged_by (events.Spent horizon listed rivals_of lines) = heading_for horizon rivals_of ++ lines_text lines

given_is : (d : Description) (event : GeneralTurn) → given_generally d event ≡ record { out = out_text d (told_by event ∷ []); err = []; log = logged_by event }
given_is d (events.NoHistory horizon) = refl
given_is d (events.History horizon number row lines) = refl
given_is d (events.Ended ending) = refl
given_is d (events.Spent horizon listed rivals_of lines) = refl

-- ---- a run with one event more

none_more : (first count : ℕ) → none_told first (suc count) ≡ none_told first count ++ told (said.NoHistory (first + count)) ∷ []
none_more first zero = let same : first ≡ first + 0 = omega arith in ap (λ (n : ℕ). told (said.NoHistory n) ∷ []) same
none_more first (suc count) =
    let same : first + 1 + count ≡ first + suc count = omega arith in
    ap (λ (l : List Told). told (said.NoHistory first) ∷ l) (none_more (first + 1) count
    ∙ ap (λ (n : ℕ). none_told (first + 1) count ++ told (said.NoHistory n) ∷ []) same)

shown_more : (horizon number : ℕ) (shown : List Shown) (one : Shown) →
    shown_told horizon number (map (λ (s : Shown). s.row) (shown ++ one ∷ []))
    ≡ shown_told horizon number (map (λ (s : Shown). s.row) shown) ++ told_row (said.History horizon (number + length shown)) one.row ∷ []
shown_more horizon number [] one = let same : number ≡ number + 0 = omega arith in ap (λ (n : ℕ). told_row (said.History horizon n) one.row ∷ []) same
shown_more horizon number (first ∷ shown) one =
    let same : number + 1 + length shown ≡ number + suc (length shown) = omega arith in
    ap (λ (l : List Told). told_row (said.History horizon number) first.row ∷ l) (shown_more horizon (number + 1) shown one
    ∙ ap (λ (n : ℕ). shown_told horizon (number + 1) (map (λ (s : Shown). s.row) shown) ++ told_row (said.History horizon n) one.row ∷ []) same)

none_of : {A : Type 0} (o : Option A) → IsNone o → o ≡ None
none_of None is = refl
none_of (Some x) is = absurd cc

module _ (q : Query) where
  abbrev going : ℕ → List Shown → GeneralRun
  going empty shown = record { empty = empty; shown = shown; ending = None }

  abbrev over : ℕ → List Shown → GeneralEnding → GeneralRun
  over empty shown how = record { empty = empty; shown = shown; ending = Some how }

  -- behind this run comes this event
  abbrev Grows : GeneralRun → GeneralTurn → GeneralRun → Type 0
  Grows run event after = (general_told q after ≡ general_told q run ++ told_by event ∷ []) × (general_log q after ≡ general_log q run ++ logged_by event)

  module _ (empty : ℕ) (shown : List Shown) where
    abbrev at : ℕ
    at = (range_of q).0 + empty

    abbrev none : List Told
    none = none_told (range_of q).0 empty

    abbrev rows : List Told
    rows = shown_told at 1 (map (λ (s : Shown). s.row) shown)

    abbrev log : List ℕ
    log = general_header ++ flat_map (shown_text at) shown

    no_history : shown ≡ [] → Grows (going empty shown) (events.NoHistory at) (going (empty + 1) shown)
    no_history is = subst (λ (s : List Shown). Grows (going empty s) (events.NoHistory at) (going (empty + 1) s)) (sym is) (
      append-nil _ ∙ (append-nil _ ∙ (ap (none_told (range_of q).0) (add-one empty) ∙ (none_more (range_of q).0 empty
          ∙ ap (λ (l : List Told). l ++ told (said.NoHistory at) ∷ []) (sym (append-nil _ ∙ append-nil none))))),
      sym (append-nil _),
    )

    a_history : (row : List ℕ) (section : Section) → Grows (going empty shown) (events.History at (length shown + 1) row (section_lines section))
        (going empty (shown ++ record { row = row; section = section } ∷ []))
    a_history row section =
        let one : Shown = record { row = row; section = section } in
        let same : 1 + length shown ≡ length shown + 1 = omega arith in (
          append-nil _ ∙ (ap (λ (l : List Told). none ++ l) (shown_more at 1 shown one
              ∙ ap (λ (n : ℕ). rows ++ told_row (said.History at n) row ∷ []) same)
              ∙ (sym (append_assoc none rows _) ∙ ap (λ (l : List Told). l ++ told_row (said.History at (length shown + 1)) row ∷ []) (sym (append-nil (none ++ rows))))),
          append-nil _ ∙ (sym (flat_map_more (shown_text at) general_header shown one) ∙ ap (λ (l : List ℕ). l ++ shown_text at one) (sym (append-nil log))),
        )

    ended_told : (how : GeneralEnding) → general_told q (over empty shown how) ≡ general_told q (going empty shown) ++ told (said.Ended (ending_of at (length shown) how)) ∷ []
    ended_told how = ap (λ (l : List Told). l ++ told (said.Ended (ending_of at (length shown) how)) ∷ []) (sym (append-nil (none ++ rows)))

    ended_log : (how : GeneralEnding) → general_log q (over empty shown how) ≡ general_log q (going empty shown) ++ spent_text at how
    ended_log how = ap (λ (l : List ℕ). log ++ l) (append-nil (spent_text at how)) ∙ ap (λ (l : List ℕ). l ++ spent_text at how) (sym (append-nil log))

    -- no section is logged where no search is spent
    unlogged : (how : GeneralEnding) → IsUnspentEnding how → spent_text at how ≡ []
    unlogged Complete is = refl
    unlogged Asked is = refl
    unlogged NoneAtAll is = refl
    unlogged (SpentAmong section) is = absurd is
    unlogged (SpentOver row section) is = absurd is

    spent_logged : (rivals_of : Option (List ℕ)) (lines : List _) (how : GeneralEnding) → IsSpentWith rivals_of lines how →
        spent_text at how ≡ heading_for at rivals_of ++ lines_text lines
    spent_logged rivals_of lines Complete is = absurd is
    spent_logged rivals_of lines Asked is = absurd is
    spent_logged rivals_of lines NoneAtAll is = absurd is
    spent_logged rivals_of lines (SpentAmong section) is = λ i. heading_for at (sym is.0 i) ++ lines_text (sym is.1 i)
    spent_logged rivals_of lines (SpentOver row section) is = λ i. heading_for at (sym is.0 i) ++ lines_text (sym is.1 i)

    spent_ending : (rivals_of : Option (List ℕ)) (lines : List _) (how : GeneralEnding) → IsSpentWith rivals_of lines how →
        ending_of at (length shown) how ≡ endings.Spent at (length shown)
    spent_ending rivals_of lines Complete is = absurd is
    spent_ending rivals_of lines Asked is = absurd is
    spent_ending rivals_of lines NoneAtAll is = absurd is
    spent_ending rivals_of lines (SpentAmong section) is = refl
    spent_ending rivals_of lines (SpentOver row section) is = refl

    -- a run that has not ended goes on so
    grows : (event : GeneralTurn) (after : GeneralRun) → GoesOnBy q (going empty shown) event after → Grows (going empty shown) event after
    grows (events.NoHistory horizon) after (here, bare, is) =
        subst (λ (r : GeneralRun). Grows (going empty shown) (events.NoHistory horizon) r) (sym is)
        (subst (λ (h : ℕ). Grows (going empty shown) (events.NoHistory h) (going (empty + 1) shown)) (sym here) (no_history bare))
    grows (events.History horizon number row lines) after (here, numbered, (section, lines_are, is)) =
        let next : GeneralRun = going empty (shown ++ record { row = row; section = section } ∷ []) in
        subst (λ (r : GeneralRun). Grows (going empty shown) (events.History horizon number row lines) r) (sym is)
        (subst (λ (h : ℕ). Grows (going empty shown) (events.History h number row lines) next) (sym here)
        (subst (λ (n : ℕ). Grows (going empty shown) (events.History at n row lines) next) (sym numbered)
        (subst (λ l. Grows (going empty shown) (events.History at (length shown + 1) row l) next) (sym lines_are) (a_history row section))))
    grows (events.Ended ending) after (how, unspent, ending_is, is) =
        subst (λ (r : GeneralRun). Grows (going empty shown) (events.Ended ending) r) (sym is) (
          subst (λ e. general_told q (over empty shown how) ≡ general_told q (going empty shown) ++ told (said.Ended e) ∷ []) (sym ending_is) (ended_told how),
          ended_log how ∙ ap (λ (l : List ℕ). general_log q (going empty shown) ++ l) (unlogged how unspent),
        )
    grows (events.Spent horizon listed rivals_of lines) after (how, spent, here, counted, is) =
        subst (λ (r : GeneralRun). Grows (going empty shown) (events.Spent horizon listed rivals_of lines) r) (sym is)
        (subst (λ (h : ℕ). Grows (going empty shown) (events.Spent h listed rivals_of lines) (over empty shown how)) (sym here)
        (subst (λ (n : ℕ). Grows (going empty shown) (events.Spent at n rivals_of lines) (over empty shown how)) (sym counted) (
          ended_told how ∙ ap (λ e. general_told q (going empty shown) ++ told (said.Ended e) ∷ []) (spent_ending rivals_of lines how spent),
          ended_log how ∙ ap (λ (l : List ℕ). general_log q (going empty shown) ++ l) (spent_logged rivals_of lines how spent),
        )))

  grows_behind : (run : GeneralRun) (event : GeneralTurn) (after : GeneralRun) → IsNone run.ending → GoesOnBy q run event after → Grows run event after
  grows_behind run event after open_yet =
      let bare : run ≡ going run.empty run.shown = λ i. record { empty = run.empty; shown = run.shown; ending = none_of run.ending open_yet i } in
      subst (λ (r : GeneralRun). GoesOnBy q r event after → Grows r event after) (sym bare) (grows run.empty run.shown event after)

module _ (w : WideDescription) (q : Query) (run : GeneralRun) (event : GeneralTurn) (after : GeneralRun) (goes : GoesOnBy q run event after) where
  -- what a run gives grows by what is told
  grown : IsNone run.ending → joined (generally_given w q run) (given_generally (frame w) event) ≡ generally_given w q after
  grown open_yet =
      let more = grows_behind q run event after open_yet goes in
      ap (λ (g : Given). joined (generally_given w q run) g) (given_is (frame w) event)
      ∙ (λ i. record {
        out = (sym (flat_map-append (told_text (frame w)) (general_told q run) (told_by event ∷ [])) ∙ ap (out_text (frame w)) (sym more.0)) i;
        err = [];
        log = sym more.1 i;
      })

-- ---- the ending

spent_status : (rivals_of : Option (List ℕ)) (lines : List _) (how : GeneralEnding) (horizon listed : ℕ) → IsSpentWith rivals_of lines how →
    status_of (endings.Spent horizon listed) ≡ status_of (ending_of horizon listed how)
spent_status rivals_of lines Complete horizon listed is = absurd is
spent_status rivals_of lines Asked horizon listed is = absurd is
spent_status rivals_of lines NoneAtAll horizon listed is = absurd is
spent_status rivals_of lines (SpentAmong section) horizon listed is = refl
spent_status rivals_of lines (SpentOver row section) horizon listed is = refl

-- the run ends as its last event says
ends_so : (w : WideDescription) (q : Query) (count : Option ℕ) (run : GeneralRun) (event : GeneralTurn) (after : GeneralRun) → GoesOnBy q run event after →
    EndsGenerally w q count after [] (general_status_behind event)
ends_so w q count run (events.NoHistory horizon) after goes = refl
ends_so w q count run (events.History horizon number row lines) after goes = refl
ends_so w q count run (events.Ended ending) after (how, unspent, ending_is, is) =
    subst (λ (r : GeneralRun). EndsGenerally w q count r [] (Some (status_of ending))) (sym is) (inl (how, refl, refl, ap status_of ending_is))
ends_so w q count run (events.Spent horizon listed rivals_of lines) after (how, spent, here, counted, is) =
    subst (λ (r : GeneralRun). EndsGenerally w q count r [] (general_status_behind (events.Spent horizon listed rivals_of lines))) (sym is)
    (inl (how, refl, refl, spent_status rivals_of lines how (general_horizon q run) (length run.shown) spent))

-- ---- how a run is told

module _ (of : GeneralSubject) where
  abbrev d : Description
  d = frame of.description

  -- what a run gives grows by what is told
  pub generally_gives : GivesBy (IsRightRun of) (Steps of) (λ (state : Unit {0}) (turn : GeneralTurn). given_generally d turn) (λ state turn. state) (λ run. tt)
      (generally_given of.description of.query)
  generally_gives = record {
    grows = λ run after turn right right_after says. sym (grown of.description of.query run turn after says.goes says.open_yet);
    moves = λ run after turn right right_after says. refl;
  }

  -- it ends as its last event says
  pub generally_ends : (run : GeneralRun) (err : List ℕ) (ends : Option Status) →
      EndsBy (ReachesGeneralLimit of.description of.query of.count) (Steps of) general_status_behind run err ends → EndsGenerally of.description of.query of.count run err ends
  generally_ends run err None how = how
  generally_ends run err (Some status) (inr limit) = inr limit
  generally_ends run err (Some status) (inl (before, turn, says, status_is, err_is)) =
      subst (λ (ends : Option Status). EndsGenerally of.description of.query of.count run err ends) status_is
      (subst (λ (text : List ℕ). EndsGenerally of.description of.query of.count run text (general_status_behind turn)) (sym err_is)
      (ends_so of.description of.query of.count before turn run says.goes))
