-- One event after another is handed out of the turns of a run on certain and possible atoms.
use Rattle.std.proofs.Common.{◌≡◌, ◌∙◌, sym, ap, subst, ℕ, ◌<◌, List, [], ◌∷◌, ◌++◌, Result, Ok, Err, IfOk, IfErr, append-nil}
use Rattle.cc_arena.specs.declared.ground_laws.GroundLaw.{GroundLaw}
use Rattle.cc_defs.specs.declared.refusal.Fault.{Fault}
use Rattle.cc_defs.specs.declared.refusal.Fault.TheVariants as faults
use Rattle.cc_defs.specs.Description.{Description}
use Rattle.cc_defs.specs.GroundLaws.{PlainGroundQuery, StandsForQuery}
use Rattle.cc_defs.specs.Resolved.{Query}
use Rattle.cc_defs.specs.Signatures.{Signature}
use Rattle.cc_sure.specs.declared.event.SureEvent.{SureEvent}
use Rattle.cc_sure.specs.declared.turn.SureTurn.{SureTurn}
use Rattle.cc_sure.specs.SureEvents.{After, Finishes, HasMoreEvents, IsQueue, IsRightFaultBehind, SureQueue, TakesTurn, sure_events, told_events, turn_events}
use Rattle.cc_sure.specs.SureRuns.{ReachesSureLimit, SureRun, sure_horizon}
use Rattle.cc_sure.specs.Sures.{GoesOn, IsSame, IsSureOf, Stands, SureView, TellsNext, left_of, nothing_told}
use Rattle.cc_sure.proofs.EventsGrow.{sure_grows, turn_finishes, turn_more, turn_says}
use Rattle.cc_sure.proofs.Saying.{is_of}
use Rattle.cc_theory.specs.Theories.{AreLawsOf}

pub nothing_after : (d : Description) (q : Query) (turns : SureView) (queued : List SureEvent) → queued ≡ [] → Stands d q turns nothing_told →
    After d q (record { turns = turns; queued = queued }) []
nothing_after d q turns queued empty stands = (nothing_told, stands, sym empty)

-- ---- it is about the same

pub sure_as : (old new : SureView) (d : Description) (q : Query) → IsSame old new → IsSureOf old d q → IsSureOf new d q
sure_as old new d q same is = record {
  laws = subst (λ (s : Signature). AreLawsOf s new.laws d) (sym same.signature) (subst (λ (l : List GroundLaw). AreLawsOf old.signature l d) (sym same.laws) is.laws);
  query = subst (λ (p : PlainGroundQuery). StandsForQuery p d q) (sym same.query) is.query;
}

pub same_both : (a b c : SureView) → IsSame a b → IsSame b c → IsSame a c
same_both a b c first second = record {
  signature = second.signature ∙ first.signature;
  laws = second.laws ∙ first.laws;
  query = second.query ∙ first.query;
  budget = second.budget ∙ first.budget;
}

-- ---- a turn is taken

module _ (old : SureQueue) (empty : old.queued ≡ []) where
  all_told : (q : Query) (given : List SureEvent) (run : SureRun) → sure_events q run ≡ given ++ old.queued → sure_events q run ≡ given
  all_told q given run is = is ∙ (ap (λ (l : List SureEvent). given ++ l) empty ∙ append-nil given)

  module _ (turns : SureView) (turn : SureTurn) (horizon : ℕ) (queued : List SureEvent) (at : horizon ≡ turns.horizon) (are : queued ≡ turn_events horizon turn) where
    turned_after : ((d : Description) (q : Query) (run : SureRun) → IsSureOf old.turns d q → Stands d q old.turns run → TellsNext d q turns run turn) →
        (d : Description) (q : Query) (given : List SureEvent) → IsSureOf old.turns d q → After d q old given → After d q (record { turns = turns; queued = queued }) given
    turned_after tells d q given of (run, stands, is) =
        let (after, told, says, more, next) = tells d q run of stands in
        let said : queued ≡ told_events (sure_horizon q after) told =
        are ∙ (ap (λ (n : ℕ). turn_events n turn) (at ∙ next.at.horizon) ∙ turn_says (sure_horizon q after) turn told (is_of turn told says)) in
        (after, next, sure_grows q run after told stands.fair.begun next.fair.begun more ∙ (λ i. all_told q given run is i ++ sym said i))

    pub turned : ((d : Description) (q : Query) (run : SureRun) → IsSureOf old.turns d q → Stands d q old.turns run → TellsNext d q turns run turn) →
        IsSame old.turns turns → GoesOn turns turn → left_of turns < left_of old.turns → TakesTurn old (record { turns = turns; queued = queued })
    turned tells same goes less = record {
      tells = turned_after tells;
      same = same;
      more = subst (λ (l : List SureEvent). HasMoreEvents (record { turns = turns; queued = l })) (sym are) (turn_more horizon turns turn goes);
      less = less;
    }

pub turned_queue : (turns : SureView) (turn : SureTurn) (horizon : ℕ) (queued : List SureEvent) → queued ≡ turn_events horizon turn → GoesOn turns turn →
    IsQueue (record { turns = turns; queued = queued })
turned_queue turns turn horizon queued are goes = λ over. subst Finishes (sym are) (turn_finishes horizon turns turn goes over)

-- what the call gives, of a run whose parts these are
module _ (inside old : SureQueue) (view : inside ≡ old) (empty : old.queued ≡ []) where
  inside_empty : inside.queued ≡ []
  inside_empty = ap (λ (s : SureQueue). s.queued) view ∙ empty

  pub turned_of : (turns : SureView) (turn : SureTurn) (horizon : ℕ) (queued : List SureEvent) → horizon ≡ turns.horizon → queued ≡ turn_events horizon turn →
      ((d : Description) (q : Query) (run : SureRun) → IsSureOf inside.turns d q → Stands d q inside.turns run → TellsNext d q turns run turn) →
      IsSame inside.turns turns → GoesOn turns turn → left_of turns < left_of inside.turns → TakesTurn old (record { turns = turns; queued = queued })
  turned_of turns turn horizon queued at are tells same goes less =
      subst (λ (s : SureQueue). TakesTurn s (record { turns = turns; queued = queued })) view (turned inside inside_empty turns turn horizon queued at are tells same goes less)

-- where nothing is queued any more, as nothing was, a turn is taken as from the old state
pub taken : (inside old : SureQueue) → inside ≡ old → (queued : List SureEvent) → inside.queued ≡ [] → queued ≡ [] → (new : SureQueue) →
    TakesTurn (record { turns = inside.turns; queued = queued }) new → TakesTurn old new
taken inside old view queued was is new takes =
    subst (λ (s : SureQueue). TakesTurn s new) ((λ i. record { turns = inside.turns; queued = (is ∙ sym was) i }) ∙ view) takes

-- ---- what comes behind a turn

module _ (old new : SureQueue) (takes : TakesTurn old new) where
  pub event_behind : (last : SureQueue) (r : Result SureEvent Fault) → ((d : Description) (q : Query) (given : List SureEvent) → IsSureOf new.turns d q → After d q new given →
      IfOk r (λ event. After d q last (given ++ event ∷ []))) → (d : Description) (q : Query) (given : List SureEvent) → IsSureOf old.turns d q → After d q old given →
      IfOk r (λ event. After d q last (given ++ event ∷ []))
  event_behind last r tells d q given of after = tells d q given (sure_as old.turns new.turns d q takes.same of) (takes.tells d q given of after)

  refused_as : (fault : Fault) → IsRightFaultBehind new fault → IsRightFaultBehind old fault
  refused_as faults.OutOfMemory is = tt
  refused_as (faults.Refused refusal) is = λ d q given of after.
      let (run, told, reaches) = is d q given (sure_as old.turns new.turns d q takes.same of) (takes.tells d q given of after) in
      (run, told, subst (λ (budget : ℕ). ReachesSureLimit d q budget run refusal) takes.same.budget reaches)

  pub refused_behind : (r : Result SureEvent Fault) → IfErr r (IsRightFaultBehind new) → IfErr r (IsRightFaultBehind old)
  refused_behind (Ok event) is = tt
  refused_behind (Err fault) is = refused_as fault is
