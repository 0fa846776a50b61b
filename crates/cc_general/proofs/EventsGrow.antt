-- The events of a run over candidates grow by those of each turn.
use Rattle.std.proofs.Common.{◌≡◌, ◌≢◌, ◌∙◌, refl, sym, ap, subst, ℕ, zero, suc, ◌+◌, true, false, List, [], ◌∷◌, ◌++◌, length, map, Option, Some, None, append_assoc, append-nil, arith}
use Rattle.std.specs.Prelude.{IsNone}
use Rattle.std.proofs.lemmas.List.{map-append}
use Rattle.cc_defs.specs.declared.event.Ending.TheVariants as endings
use Rattle.cc_defs.specs.declared.event.Event.{Event}
use Rattle.cc_defs.specs.declared.event.Event.TheVariants as events
use Rattle.cc_defs.specs.declared.event.Told.{Told}
use Rattle.cc_defs.specs.declared.log.EndWord.{EndWord}
use Rattle.cc_defs.specs.declared.log.LogLine.{LogLine}
use Rattle.cc_defs.specs.declared.log.LogLine.TheVariants as lines
use Rattle.cc_defs.specs.Resolved.{Query}
use Rattle.cc_defs.specs.Runs.{Derive, Section, Step, Tell, logged, optional, range_of, told, told_row}
use Rattle.cc_general.specs.declared.turn.GeneralTurn.{GeneralTurn}
use Rattle.cc_general.specs.declared.turn.GeneralTurn.TheVariants as turns
use Rattle.cc_general.specs.GeneralEvents.{Finishes, IsEnd, ended_events, general_events, log_lines, rivals_events, shown_events, spent_events, told_with, turn_events, turn_row, with_candidate}
use Rattle.cc_general.specs.GeneralRuns.{GeneralEnding, Complete, Asked, NoneAtAll, SpentAmong, SpentOver, GeneralRun, Shown}
use Rattle.cc_general.specs.Generals.{GeneralView, GoesOn, GoesOnBy, IsOver, IsSpentWith}
use Rattle.cc_general.specs.GeneralTold.{none_told}
use Rattle.cc_general.specs.Accepted.{IsUnspentEnding}
use Rattle.cc_lists.specs.Sections.{section_lines, step_line}

-- ---- lines

steps_told : (row : List ℕ) (steps : List Step) → told_with row (log_lines (map step_line steps)) ≡ map logged (map step_line steps)
steps_told row [] = refl
steps_told row (Derive clause chain ∷ steps) = ap (λ (l : List Told). logged (lines.Derived clause chain) ∷ l) (steps_told row steps)
steps_told row (Tell denied ∷ steps) = ap (λ (l : List Told). logged (lines.Block denied) ∷ l) (steps_told row steps)

word_told : (row : List ℕ) (word : Option EndWord) → told_with row (log_lines (map lines.End (optional word))) ≡ map logged (map lines.End (optional word))
word_told row None = refl
word_told row (Some word) = refl

lines_told : (row : List ℕ) (section : Section) → told_with row (log_lines (section_lines section)) ≡ map logged (section_lines section)
lines_told row section =
    let steps = map step_line section.steps in
    let word = map lines.End (optional section.word) in
    ap (told_with row) (map-append events.Log steps word)
    ∙ (map-append (λ (event : Event). with_candidate event row) (log_lines steps) (log_lines word)
    ∙ ((λ i. steps_told row section.steps i ++ word_told row section.word i) ∙ sym (map-append logged steps word)))

-- lines, and an event behind them
behind_lines : (row : List ℕ) (section : Section) (event : Event) →
    told_with row (log_lines (section_lines section) ++ event ∷ []) ≡ map logged (section_lines section) ++ with_candidate event row ∷ []
behind_lines row section event =
    map-append (λ (e : Event). with_candidate e row) (log_lines (section_lines section)) (event ∷ [])
    ∙ ap (λ (l : List Told). l ++ with_candidate event row ∷ []) (lines_told row section)

-- ---- lists

add_zero : (n : ℕ) → n + 0 ≡ n
add_zero n = omega arith

add_one : (n : ℕ) → n + 1 ≡ suc n
add_one n = omega arith

none_more : (low count : ℕ) → none_told low (suc count) ≡ none_told low count ++ told (events.NoHistory (low + count)) ∷ []
none_more low zero = ap (λ (h : ℕ). told (events.NoHistory h) ∷ []) (sym (add_zero low))
none_more low (suc count) =
    let same : low + 1 + count ≡ low + suc count = omega arith in
    ap (λ (l : List Told). told (events.NoHistory low) ∷ l) (none_more (low + 1) count
    ∙ ap (λ (h : ℕ). none_told (low + 1) count ++ told (events.NoHistory h) ∷ []) same)

-- a history, behind its section
abbrev one_shown : (horizon number : ℕ) → Shown → List Told
one_shown horizon number one = rivals_events horizon one.row one.section ++ (told_row (events.History horizon number) one.row ∷ [])

shown_more : (horizon number : ℕ) (shown : List Shown) (one : Shown) →
    shown_events horizon number (shown ++ one ∷ []) ≡ shown_events horizon number shown ++ one_shown horizon (number + length shown) one
shown_more horizon number [] one = ap (λ (n : ℕ). one_shown horizon n one) (sym (add_zero number))
shown_more horizon number (first ∷ shown) one =
    let same : number + 1 + length shown ≡ number + suc (length shown) = omega arith in
    let front = rivals_events horizon first.row first.section in
    let head = told_row (events.History horizon number) first.row in
    ap (λ (l : List Told). front ++ (head ∷ l)) (shown_more horizon (number + 1) shown one
    ∙ ap (λ (n : ℕ). shown_events horizon (number + 1) shown ++ one_shown horizon n one) same)
    ∙ sym (append_assoc front (head ∷ shown_events horizon (number + 1) shown) (one_shown horizon (number + suc (length shown)) one))

none_of : {A : Type 0} (o : Option A) → IsNone o → o ≡ None
none_of None is = refl
none_of (Some x) is = absurd cc

-- ---- turns

module _ (q : Query) where
  abbrev going : ℕ → List Shown → GeneralRun
  going empty shown = record { empty = empty; shown = shown; ending = None }

  abbrev over : ℕ → List Shown → GeneralEnding → GeneralRun
  over empty shown how = record { empty = empty; shown = shown; ending = Some how }

  -- behind this run comes this turn
  abbrev Grows : GeneralRun → GeneralTurn → GeneralRun → Type 0
  Grows run turn after = general_events q after ≡ general_events q run ++ told_with (turn_row turn) (turn_events turn)

  module _ (empty : ℕ) (shown : List Shown) where
    abbrev at : ℕ
    at = (range_of q).0 + empty

    abbrev none : List Told
    none = none_told (range_of q).0 empty

    abbrev rows : List Told
    rows = shown_events at 1 shown

    no_history : shown ≡ [] → Grows (going empty shown) (turns.NoHistory at) (going (empty + 1) shown)
    no_history is = subst (λ (s : List Shown). Grows (going empty s) (turns.NoHistory at) (going (empty + 1) s)) (sym is) (
        append-nil _ ∙ (append-nil _ ∙ (ap (none_told (range_of q).0) (add_one empty) ∙ (none_more (range_of q).0 empty
        ∙ ap (λ (l : List Told). l ++ told (events.NoHistory at) ∷ []) (sym (append-nil _ ∙ append-nil none))))))

    a_history : (row : List ℕ) (section : Section) → Grows (going empty shown) (turns.History at (length shown + 1) row (section_lines section))
        (going empty (shown ++ record { row = row; section = section } ∷ []))
    a_history row section =
        let one : Shown = record { row = row; section = section } in
        let same : 1 + length shown ≡ length shown + 1 = omega arith in
        let last = one_shown at (length shown + 1) one in
        append-nil _ ∙ (ap (λ (l : List Told). none ++ l) (shown_more at 1 shown one ∙ ap (λ (n : ℕ). rows ++ one_shown at n one) same)
        ∙ (sym (append_assoc none rows last) ∙ ((λ i. sym (append-nil (none ++ rows)) i ++ last)
        ∙ ap (λ (l : List Told). ((none ++ rows) ++ []) ++ (told_row (events.Log (lines.Section true at)) row ∷ l))
        (sym (behind_lines row section (events.History at (length shown + 1)))))))

    ended_more : (how : GeneralEnding) → general_events q (over empty shown how) ≡ general_events q (going empty shown) ++ ended_events at (length shown) (Some how)
    ended_more how = ap (λ (l : List Told). l ++ ended_events at (length shown) (Some how)) (sym (append-nil (none ++ rows)))

    unspent_told : (how : GeneralEnding) → IsUnspentEnding how → spent_events at how ≡ []
    unspent_told Complete is = refl
    unspent_told Asked is = refl
    unspent_told NoneAtAll is = refl
    unspent_told (SpentAmong section) is = absurd is
    unspent_told (SpentOver row section) is = absurd is

    spent_told : (rivals_of : Option (List ℕ)) (given : List LogLine) (how : GeneralEnding) → IsSpentWith rivals_of given how →
        ended_events at (length shown) (Some how)
        ≡ told_with (turn_row (turns.Spent at (length shown) rivals_of given)) (turn_events (turns.Spent at (length shown) rivals_of given))
    spent_told rivals_of given Complete is = absurd is
    spent_told rivals_of given Asked is = absurd is
    spent_told rivals_of given NoneAtAll is = absurd is
    spent_told rivals_of given (SpentAmong section) is =
        ap (λ (l : List Told). logged (lines.Section false at) ∷ l) (sym (behind_lines [] section (events.Ended (endings.Spent at (length shown)))))
        ∙ (λ i. let turn = turns.Spent at (length shown) (sym is.0 i) (sym is.1 i) in told_with (turn_row turn) (turn_events turn))
    spent_told rivals_of given (SpentOver row section) is =
        ap (λ (l : List Told). told_row (events.Log (lines.Section true at)) row ∷ l) (sym (behind_lines row section (events.Ended (endings.Spent at (length shown)))))
        ∙ (λ i. let turn = turns.Spent at (length shown) (sym is.0 i) (sym is.1 i) in told_with (turn_row turn) (turn_events turn))

    -- a run that has not ended goes on so
    grows : (turn : GeneralTurn) (after : GeneralRun) → GoesOnBy q (going empty shown) turn after → Grows (going empty shown) turn after
    grows (turns.NoHistory horizon) after (here, bare, is) =
        subst (λ (r : GeneralRun). Grows (going empty shown) (turns.NoHistory horizon) r) (sym is)
        (subst (λ (h : ℕ). Grows (going empty shown) (turns.NoHistory h) (going (empty + 1) shown)) (sym here) (no_history bare))
    grows (turns.History horizon number row given) after (here, numbered, (section, lines_are, is)) =
        let next : GeneralRun = going empty (shown ++ record { row = row; section = section } ∷ []) in
        subst (λ (r : GeneralRun). Grows (going empty shown) (turns.History horizon number row given) r) (sym is)
        (subst (λ (h : ℕ). Grows (going empty shown) (turns.History h number row given) next) (sym here)
        (subst (λ (n : ℕ). Grows (going empty shown) (turns.History at n row given) next) (sym numbered)
        (subst (λ (l : List LogLine). Grows (going empty shown) (turns.History at (length shown + 1) row l) next) (sym lines_are) (a_history row section))))
    grows (turns.Ended ending) after (how, unspent, ending_is, is) =
        subst (λ (r : GeneralRun). Grows (going empty shown) (turns.Ended ending) r) (sym is)
        (ended_more how ∙ (λ i. general_events q (going empty shown) ++ (unspent_told how unspent i ++ told (events.Ended (sym ending_is i)) ∷ [])))
    grows (turns.Spent horizon listed rivals_of given) after (how, spent, here, counted, is) =
        subst (λ (r : GeneralRun). Grows (going empty shown) (turns.Spent horizon listed rivals_of given) r) (sym is)
        (subst (λ (h : ℕ). Grows (going empty shown) (turns.Spent h listed rivals_of given) (over empty shown how)) (sym here)
        (subst (λ (n : ℕ). Grows (going empty shown) (turns.Spent at n rivals_of given) (over empty shown how)) (sym counted)
        (ended_more how ∙ ap (λ (l : List Told). general_events q (going empty shown) ++ l) (spent_told rivals_of given how spent))))

  pub grows_behind : (run : GeneralRun) (turn : GeneralTurn) (after : GeneralRun) → IsNone run.ending → GoesOnBy q run turn after → Grows run turn after
  grows_behind run turn after open_yet =
      let bare : run ≡ going run.empty run.shown = λ i. record { empty = run.empty; shown = run.shown; ending = none_of run.ending open_yet i } in
      subst (λ (r : GeneralRun). GoesOnBy q r turn after → Grows r turn after) (sym bare) (grows run.empty run.shown turn after)

-- ---- where the ending stands

finishes_lines : (given : List LogLine) (event : Event) → IsEnd event → Finishes (log_lines given ++ event ∷ [])
finishes_lines [] event is = is
finishes_lines (line ∷ []) event is = is
finishes_lines (line ∷ next ∷ others) event is = finishes_lines (next ∷ others) event is

finishes_behind : (first : Event) (given : List LogLine) (event : Event) → IsEnd event → Finishes (first ∷ (log_lines given ++ event ∷ []))
finishes_behind first [] event is = is
finishes_behind first (line ∷ others) event is = finishes_lines (line ∷ others) event is

pub turn_finishes : (new : GeneralView) (turn : GeneralTurn) → GoesOn new turn → IsOver new → Finishes (turn_events turn)
turn_finishes new (turns.NoHistory horizon) goes over = absurd (goes over)
turn_finishes new (turns.History horizon number row given) goes over = absurd (goes over)
turn_finishes new (turns.Ended ending) goes over = (ending, refl)
turn_finishes new (turns.Spent horizon listed None given) goes over = finishes_behind (events.Log (lines.Section false horizon)) given (events.Ended (endings.Spent horizon listed)) (endings.Spent horizon listed, refl)
turn_finishes new (turns.Spent horizon listed (Some row) given) goes over = finishes_behind (events.Log (lines.Section true horizon)) given (events.Ended (endings.Spent horizon listed)) (endings.Spent horizon listed, refl)

pub rest_finishes : (event : Event) (others : List Event) → Finishes (event ∷ others) → Finishes others
rest_finishes event [] is = tt
rest_finishes event (next ∷ others) is = is

-- what is not the last event has one behind it
pub more_behind : (event : Event) (others : List Event) → Finishes (event ∷ others) → (IsEnd event → ⊥) → others ≢ []
more_behind event [] is no_end = λ same. no_end is
more_behind event (next ∷ others) is no_end = λ same. absurd cc
