-- One event after another is handed out of the turns of a run.
use Rattle.std.proofs.Common.{◌≡◌, ◌≢◌, ◌⊎◌, ◌∙◌, refl, sym, ap, subst, ℕ, ◌<◌, List, [], ◌∷◌, ◌++◌, Some, None, Result, Ok, Err, IfOk, IfErr, OnOk, inl, inr, append_assoc, append-nil, arith}
use Rattle.cc_defs.specs.declared.event.Event.{Event}
use Rattle.cc_defs.specs.declared.event.Told.{Told}
use Rattle.cc_defs.specs.declared.refusal.Fault.{Fault}
use Rattle.cc_defs.specs.declared.refusal.Fault.TheVariants as faults
use Rattle.cc_defs.specs.Resolved.{Query}
use Rattle.cc_general.specs.declared.turn.GeneralTurn.{GeneralTurn}
use Rattle.cc_general.specs.declared.turn.GeneralTurn.TheVariants as kinds
use Rattle.cc_general.specs.GeneralEvents.{After, Finishes, GeneralQueue, HandsOut, HasMoreEvents, IsEnd, IsLess, IsQueue, IsRightFaultBehind, general_events, told_with, turn_events, turn_row, with_candidate}
use Rattle.cc_general.specs.GeneralRuns.{GeneralRun}
use Rattle.cc_general.specs.Generals.{GeneralView, GoesOn, HasMore, IsGeneralOf, IsOver, IsRightFault, IsSame, Stands, TellsNext, left_of, nothing_told}
use Rattle.cc_general.proofs.EventsGrow.{grows_behind, rest_finishes, turn_finishes}
use Rattle.cc_wide.specs.WideLaws.{WideDescription}

nothing_first : (event : Event) (others : List Event) → event ∷ others ≡ [] → ⊥
nothing_first event others same = absurd cc

module _ (turns : GeneralView) (row : List ℕ) (event : Event) (others : List Event) where
  abbrev full : GeneralQueue
  full = record { turns = turns; row = row; queued = event ∷ others }

  abbrev rest : GeneralQueue
  rest = record { turns = turns; row = row; queued = others }

  told_first : (w : WideDescription) (q : Query) (given : List Told) → After w q full given → After w q rest (given ++ with_candidate event row ∷ [])
  told_first w q given (run, stands, is) =
      (run, stands, is ∙ sym (append_assoc given (with_candidate event row ∷ []) (told_with row others)))

  more_first : (IsOver turns → Finishes (event ∷ others)) → (IsEnd event → ⊥) → HasMoreEvents rest
  more_first finishes no_end = by others finishes
    where
      by : (l : List Event) → (IsOver turns → Finishes (event ∷ l)) → (l ≢ []) ⊎ HasMore turns
      by [] is = inr (λ over. no_end (is over))
      by (next ∷ more) is = inl (λ same. absurd cc)

  first_hands : IsQueue full → HandsOut full rest event
  first_hands queue = record {
    tells = λ w q given of after. told_first w q given after;
    same = record { signature = refl; laws = refl; query = refl; count = refl; budget = refl };
    more = more_first queue;
    less = inr (refl, omega arith);
  }

pub popped : (old : GeneralQueue) (event : Event) (others : List Event) → IsQueue old → old.queued ≡ event ∷ others →
    HandsOut old (record { turns = old.turns; row = old.row; queued = others }) event
popped old event others queue is =
    let same : old ≡ full old.turns old.row event others = λ i. record { turns = old.turns; row = old.row; queued = is i } in
    subst (λ (g : GeneralQueue). HandsOut g (rest old.turns old.row event others) event) (sym same)
    (first_hands old.turns old.row event others (subst IsQueue same queue))

module _ (old : GeneralQueue) (empty : old.queued ≡ []) (turns : GeneralView) (turn : GeneralTurn)
    (tells : (w : WideDescription) (q : Query) (run : GeneralRun) → IsGeneralOf old.turns w q → Stands w q old.turns run → TellsNext w q turns run turn) where
  all_told : (q : Query) (given : List Told) (run : GeneralRun) → general_events q run ≡ given ++ told_with old.row old.queued → general_events q run ≡ given
  all_told q given run is = is ∙ (ap (λ (l : List Event). given ++ told_with old.row l) empty ∙ append-nil given)

  turned_after : (w : WideDescription) (q : Query) (given : List Told) → IsGeneralOf old.turns w q → After w q old given →
      After w q (record { turns = turns; row = turn_row turn; queued = turn_events turn }) given
  turned_after w q given of (run, stands, is) =
      let (after, open_yet, goes, next) = tells w q run of stands in
      (after, next, grows_behind q run turn after open_yet goes ∙ ap (λ (l : List Told). l ++ told_with (turn_row turn) (turn_events turn)) (all_told q given run is))

  pub turned : (row : List ℕ) (event : Event) (others : List Event) → row ≡ turn_row turn → turn_events turn ≡ event ∷ others → IsSame old.turns turns →
      left_of turns < left_of old.turns → GoesOn turns turn → HandsOut old (record { turns = turns; row = row; queued = others }) event
  turned row event others row_is queue_is same less goes = record {
    tells = λ w q given of after.
        told_first turns row event others w q given
        (subst (λ (g : GeneralQueue). After w q g given) (λ i. record { turns = turns; row = sym row_is i; queued = queue_is i }) (turned_after w q given of after));
    same = same;
    more = more_first turns row event others (λ over. subst Finishes queue_is (turn_finishes turns turn goes over));
    less = inl less;
  }

pub fault_behind : (old : GeneralQueue) → old.queued ≡ [] → (fault : Fault) → IsRightFault old.turns fault → IsRightFaultBehind old fault
fault_behind old empty faults.OutOfMemory is = tt
fault_behind old empty (faults.Refused refusal) is = λ w q given of after.
    let (run, stands, events) = after in
    (run, events ∙ (ap (λ (l : List Event). given ++ told_with old.row l) empty ∙ append-nil given), is w q run of stands)

-- ---- what the calls give, of a general whose parts these are

pub nothing_after : (w : WideDescription) (q : Query) (turns : GeneralView) (row : List ℕ) (queued : List Event) → queued ≡ [] → Stands w q turns nothing_told →
    After w q (record { turns = turns; row = row; queued = queued }) []
nothing_after w q turns row queued empty stands = (nothing_told, stands, sym (ap (told_with row) empty))

pub empty_queue : (turns : GeneralView) (row : List ℕ) (queued : List Event) → queued ≡ [] → IsQueue (record { turns = turns; row = row; queued = queued })
empty_queue turns row queued empty = λ over. subst Finishes (sym empty) tt

pub popped_of : (inside old : GeneralQueue) → inside ≡ old → IsQueue inside → (event : Event) (others : List Event) → inside.queued ≡ event ∷ others →
    HandsOut old (record { turns = inside.turns; row = inside.row; queued = others }) event
popped_of inside old view queue event others is =
    subst (λ (g : GeneralQueue). HandsOut g (record { turns = inside.turns; row = inside.row; queued = others }) event) view (popped inside event others queue is)

module _ (inside old : GeneralQueue) (view : inside ≡ old) where
  inside_empty : old.queued ≡ [] → inside.queued ≡ []
  inside_empty empty = ap (λ (g : GeneralQueue). g.queued) view ∙ empty

  pub turned_of : old.queued ≡ [] → (turns : GeneralView) (turn : GeneralTurn) →
      ((w : WideDescription) (q : Query) (run : GeneralRun) → IsGeneralOf inside.turns w q → Stands w q inside.turns run → TellsNext w q turns run turn) →
      (row : List ℕ) (queued : List Event) (event : Event) (others : List Event) → row ≡ turn_row turn → queued ≡ turn_events turn → queued ≡ event ∷ others →
      IsSame inside.turns turns → left_of turns < left_of inside.turns → GoesOn turns turn → HandsOut old (record { turns = turns; row = row; queued = others }) event
  turned_of empty turns turn tells row queued event others row_is are is same less goes =
      subst (λ (g : GeneralQueue). HandsOut g (record { turns = turns; row = row; queued = others }) event) view
      (turned inside (inside_empty empty) turns turn tells row event others row_is (sym are ∙ is) same less goes)

  pub turned_queue : (turns : GeneralView) (turn : GeneralTurn) (row : List ℕ) (queued : List Event) (event : Event) (others : List Event) →
      queued ≡ turn_events turn → queued ≡ event ∷ others → GoesOn turns turn → IsQueue (record { turns = turns; row = row; queued = others })
  turned_queue turns turn row queued event others are is goes = λ over.
      rest_finishes event others (subst Finishes (sym are ∙ is) (turn_finishes turns turn goes over))

  pub fault_of : old.queued ≡ [] → (fault : Fault) → IsRightFault inside.turns fault → IsRightFaultBehind old fault
  fault_of empty fault is = subst (λ (g : GeneralQueue). IsRightFaultBehind g fault) view (fault_behind inside (inside_empty empty) fault is)

pub some_event : (turn : GeneralTurn) (queued : List Event) → queued ≡ turn_events turn → queued ≡ [] → ⊥
some_event (kinds.NoHistory horizon) queued are none = nothing_first _ _ (sym are ∙ none)
some_event (kinds.History horizon number row given) queued are none = nothing_first _ _ (sym are ∙ none)
some_event (kinds.Ended ending) queued are none = nothing_first _ _ (sym are ∙ none)
some_event (kinds.Spent horizon listed None given) queued are none = nothing_first _ _ (sym are ∙ none)
some_event (kinds.Spent horizon listed (Some row) given) queued are none = nothing_first _ _ (sym are ∙ none)

-- ---- what a turn gives is given by the call around it

-- where nothing is queued any more, as nothing was
pub emptied : (inside old : GeneralQueue) → inside ≡ old → (queued : List Event) → inside.queued ≡ [] → queued ≡ [] →
    record { turns = inside.turns; row = inside.row; queued = queued } ≡ old
emptied inside old view queued was is =
    (λ i. record { turns = inside.turns; row = inside.row; queued = (is ∙ sym was) i }) ∙ view

module _ (mid old new : GeneralQueue) (same : mid ≡ old) where
  pub given_tells : (r : Result Event Fault) → IfOk r (HandsOut mid new) → (w : WideDescription) (q : Query) (given : List Told) →
      IsGeneralOf old.turns w q → After w q old given → IfOk r (λ event. After w q new (given ++ with_candidate event new.row ∷ []))
  given_tells (Ok event) hands w q given of after = (subst (λ (g : GeneralQueue). HandsOut g new event) same hands).tells w q given of after
  given_tells (Err fault) hands w q given of after = tt

  pub given_same : (r : Result Event Fault) → IfOk r (HandsOut mid new) → OnOk r (IsSame old.turns new.turns)
  given_same (Ok event) hands = (subst (λ (g : GeneralQueue). HandsOut g new event) same hands).same
  given_same (Err fault) hands = tt

  pub given_more : (r : Result Event Fault) → IfOk r (HandsOut mid new) → IfOk r (λ event. (IsEnd event → ⊥) → HasMoreEvents new)
  given_more (Ok event) hands = hands.more
  given_more (Err fault) hands = tt

  pub given_less : (r : Result Event Fault) → IfOk r (HandsOut mid new) → OnOk r (IsLess new old)
  given_less (Ok event) hands = (subst (λ (g : GeneralQueue). HandsOut g new event) same hands).less
  given_less (Err fault) hands = tt

  pub given_refused : (r : Result Event Fault) → IfErr r (IsRightFaultBehind mid) → IfErr r (IsRightFaultBehind old)
  given_refused r refused = subst (λ (g : GeneralQueue). IfErr r (IsRightFaultBehind g)) same refused

-- who has more events and none queued has more turns
pub more_turns : (inside old : GeneralQueue) → inside ≡ old → HasMoreEvents old → inside.queued ≡ [] → HasMore inside.turns
more_turns inside old view more empty = elim (subst HasMoreEvents (sym view) more) [ inl some ↦ absurd (some empty) | inr turns ↦ turns ]
