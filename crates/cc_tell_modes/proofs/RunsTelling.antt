-- A run is told, event by event: what was told so far, and one event more.
use Rattle.std.proofs.Common.{◌≡◌, ◌∙◌, refl, sym, ap, subst, ℕ, Bool, false, List, [], append_assoc, Option, Some, None, Result, Ok, Err, IfOk, OnOk, inl, inr}
use Rattle.std.specs.Prelude.{IsErrAnd, IsNone}
use Rattle.cc_defs.specs.declared.refusal.Fault.{Fault}
use Rattle.cc_defs.specs.declared.refusal.Fault.TheVariants as faults
use Rattle.cc_defs.specs.declared.refusal.Refusal.{Refusal}
use Rattle.cc_ports.specs.Moments.{Moment}
use Rattle.cc_tell.specs.declared.status.Status.{Status}
use Rattle.cc_tell.specs.declared.status.Status.TheVariants as statuses
use Rattle.cc_tell.specs.declared.status.Stop.{Stop}
use Rattle.cc_tell.specs.declared.status.Stop.TheVariants as stops
use Rattle.cc_tell.specs.ErrLines.{refusal_text}
use Rattle.cc_tell.specs.Givens.{Given, joined, nothing, only_err}
use Rattle.cc_tell.specs.Steps.{Moves, Step}
use Rattle.cc_tell.proofs.GivenSteps.{given_all, joined-nothing, moves_none, step_again, step_done, step_nothing, step_of, step_then}
use Rattle.cc_tell_modes.specs.RunsTold.{EndsBy, GivesBy, StopsFor, TellsRun}
use Rattle.cc_turns.specs.Turns.{Behind, GoesOnBy, IsFaultBy}

-- so far a run was told up to this one, at which the engine stands
pub record SoFar {View Of Run Speaker Words State : Type 0} (Is : View → Of → Type 0) (Stands : View → Of → Run → Type 0) (Speaks : Speaker → Words → State → Type 0)
    (of : Of) (words : Words) (state : Run → State) (given : Run → Given) (first : Run) (engine : View) (voice : Speaker) (old new : Moment) : Type 0 where
  pub run : Run
  pub is : Is engine of
  pub stands : Stands engine of run
  pub speaks : Speaks voice words (state run)
  pub more : Given
  pub grows : joined (given first) more ≡ given run
  pub moves : Moves {X = Unit {0}} more old new (Ok tt)

-- more is to come, and whatever the run is about, so much of it was told
pub record IsTelling {View Of Run Event Speaker Words State : Type 0} (More : View → Type 0) (Is : View → Of → Type 0) (Stands : View → Of → Run → Type 0) (Fair : Of → Run → Type 0)
    (Says : Of → Run → Event → Run → Type 0) (Fit : View → Event → Type 0) (Speaks : Speaker → Words → State → Type 0) (text : Words → State → Event → Given)
    (next : State → Event → State) (can : Speaker → Event → Type 0) (start : View) (begun : Speaker) (engine : View) (voice : Speaker) (old new : Moment) : Type 0 where
  pub more : More engine
  pub about : (of : Of) × (run : Run) × Is engine of × Stands engine of run
  pub fits : (event : Event) → Fit engine event → can voice event
  pub each : (of : Of) (run : Run) (words : Words) (state : Run → State) (given : Run → Given) → Is start of → Stands start of run → Speaks begun words (state run) →
      GivesBy (Fair of) (Says of) (text words) next state given → SoFar Is Stands Speaks of words state given run engine voice old new

joined_both : (a b c : Given) → joined (joined a b) c ≡ joined a (joined b c)
joined_both a b c = λ i. record { out = append_assoc a.out b.out c.out i; err = append_assoc a.err b.err c.err i; log = append_assoc a.log b.log c.log i }

never : {X : Type 0} (P : X → Type 0) (s : Result X Stop) → IfOk s (λ x. ⊥) → IfOk s P
never P (Ok x) is = absurd is
never P (Err stop) is = tt

-- want of memory, before anything is given
pub memory_stops : (fault : Fault) (m : Moment) → fault ≡ faults.OutOfMemory → StopsFor fault m m (Err stops.OutOfMemory)
memory_stops fault m is =
    let stopped : Result Status Stop = Err stops.OutOfMemory in
    subst (λ (f : Fault). StopsFor f m m stopped) (sym is) (step_nothing nothing m stopped refl, tt)

ends_with : (status : Status) (s : Result Status Stop) → IfOk s (λ t. t ≡ status) → IfOk s (λ t. Some status ≡ Some t)
ends_with status (Ok t) is = ap Some (sym is)
ends_with status (Err stop) is = tt

module _ {View Of Run Event Speaker Words State : Type 0} {More : View → Type 0} {Is : View → Of → Type 0} {Stands : View → Of → Run → Type 0} {Fair : Of → Run → Type 0}
    {Says : Of → Run → Event → Run → Type 0} {Fit : View → Event → Type 0} {Speaks : Speaker → Words → State → Type 0} {text : Words → State → Event → Given}
    {next : State → Event → State} {can : Speaker → Event → Type 0} where
  pub telling_begins : (start : View) (begun : Speaker) (m : Moment) → More start → ((of : Of) × (run : Run) × Is start of × Stands start of run) →
      ((event : Event) → Fit start event → can begun event) → IsTelling More Is Stands Fair Says Fit Speaks text next can start begun start begun m m
  telling_begins start begun m more about fits = record {
    more = more;
    about = about;
    fits = fits;
    each = λ of run words state given is stands speaks gives. record {
      run = run;
      is = is;
      stands = stands;
      speaks = speaks;
      more = nothing;
      grows = joined-nothing (given run);
      moves = moves_none m tt;
    };
  }

  module _ (start : View) (begun : Speaker) (engine : View) (voice : Speaker) (old mid new : Moment)
      (telling : IsTelling More Is Stands Fair Says Fit Speaks text next can start begun engine voice old mid)
      (fair : (e : View) (of : Of) (run : Run) → Is e of → Stands e of run → Fair of run) where
    -- ---- a run that goes no further

    pub telling_stops : (Limit : Of → Run → Refusal → Type 0) (status : Event → Option Status) (fault : Fault) (s : Result Status Stop) →
        ((of : Of) (run : Run) → Is engine of → Stands engine of run → IsFaultBy (Limit of run) fault) → StopsFor fault mid new s →
        (of : Of) (run : Run) (words : Words) (state : Run → State) (given : Run → Given) → Is start of → Stands start of run → Speaks begun words (state run) →
        GivesBy (Fair of) (Says of) (text words) next state given → TellsRun (Fair of) (Limit of) (Says of) status given (given run) old new s
    telling_stops Limit status fault s refused stops of run words state given is at speaks gives = by fault (refused of so_far.run so_far.is so_far.stands) stops
      where
        so_far : SoFar Is Stands Speaks of words state given run engine voice old mid
        so_far = telling.each of run words state given is at speaks gives

        stopped : (err : List ℕ) (ends : Option Status) → EndsBy (Limit of) (Says of) status so_far.run err ends → Step (only_err err) mid new s → IfOk s (λ t. ends ≡ Some t) →
            TellsRun (Fair of) (Limit of) (Says of) status given (given run) old new s
        stopped err ends how step ended = record {
          run = so_far.run;
          fair = fair engine of so_far.run so_far.is so_far.stands;
          err = err;
          ends = ends;
          how = how;
          more = joined so_far.more (only_err err);
          grows = sym (joined_both (given run) so_far.more (only_err err)) ∙ ap (λ (g : Given). joined g (only_err err)) so_far.grows;
          step = step_then so_far.more (only_err err) old mid new (Ok tt) tt s (step_of so_far.more old mid tt so_far.moves) refl step;
          ended = ended;
        }

        by : (fault : Fault) → IsFaultBy (Limit of so_far.run) fault → StopsFor fault mid new s → TellsRun (Fair of) (Limit of) (Says of) status given (given run) old new s
        by faults.OutOfMemory limit (step, none) = stopped [] None refl step (never (λ t. None ≡ Some t) s none)
        by (faults.Refused refusal) limit (step, is) =
            stopped (refusal_text refusal []) (Some statuses.Refused) (inr (refusal, limit, refl, refl)) step (ends_with statuses.Refused s is)

    -- ---- an event more

    module _ (event : Event) (going : View) (left : View → ℕ) (behind : Behind Is Stands Says left engine going event) (same : (of : Of) → Is engine of → Is going of)
        (status : Event → Option Status) (r : Result (Option Status) Stop) (ends : IfOk r (λ ends. ends ≡ status event))
        (tells : (words : Words) (state : State) → Speaks voice words state → Step (text words state event) mid new r) where
      module _ (of : Of) (run : Run) (words : Words) (state : Run → State) (given : Run → Given) (is : Is start of) (at : Stands start of run) (speaks : Speaks begun words (state run))
          (gives : GivesBy (Fair of) (Says of) (text words) next state given) where
        abbrev so_far : SoFar Is Stands Speaks of words state given run engine voice old mid
        so_far = telling.each of run words state given is at speaks gives

        abbrev gone : (after : Run) × Says of so_far.run event after × Stands going of after
        gone = behind.tells of so_far.run so_far.is so_far.stands

        fair_before : Fair of so_far.run
        fair_before = fair engine of so_far.run so_far.is so_far.stands

        fair_behind : Fair of gone.0
        fair_behind = fair going of gone.0 (same of so_far.is) gone.2

        abbrev said : Given
        said = text words (state so_far.run) event

        said_so : Step said mid new r
        said_so = tells words (state so_far.run) so_far.speaks

        grown : joined (given run) (joined so_far.more said) ≡ given gone.0
        grown = sym (joined_both (given run) so_far.more said)
            ∙ (ap (λ (g : Given). joined g said) so_far.grows ∙ sym (gives.grows so_far.run gone.0 event fair_before fair_behind gone.1))

        step_on : {X : Type 0} (s : Result X Stop) → Step said mid new s → Step (joined so_far.more said) old new s
        step_on s step = step_then so_far.more said old mid new (Ok tt) tt s (step_of so_far.more old mid tt so_far.moves) refl step

        told : (Limit : Of → Run → Refusal → Type 0) (s : Result Status Stop) → Step said mid new s → IfOk s (λ t. status event ≡ Some t) →
            TellsRun (Fair of) (Limit of) (Says of) status given (given run) old new s
        told Limit s step ended = record {
          run = gone.0;
          fair = fair_behind;
          err = [];
          ends = status event;
          how = how (status event) refl;
          more = joined so_far.more said;
          grows = grown ∙ sym (joined-nothing (given gone.0));
          step = step_on s step;
          ended = ended;
        }
          where
            how : (o : Option Status) → status event ≡ o → EndsBy (Limit of) (Says of) status gone.0 [] o
            how None was = refl
            how (Some t) was = inl (so_far.run, event, gone.1, was, refl)

        pub telling_ends : (Limit : Of → Run → Refusal → Type 0) (s : Status) → r ≡ Ok (Some s) → TellsRun (Fair of) (Limit of) (Says of) status given (given run) old new (Ok s)
        telling_ends Limit s was = told Limit (Ok s) (step_done said mid new r (Some s) s said_so was)
            (sym (subst (λ (t : Result (Option Status) Stop). IfOk t (λ e. e ≡ status event)) was ends))

        pub telling_cut : (Limit : Of → Run → Refusal → Type 0) (e : Stop) (s : Result Status Stop) → r ≡ Err e → IsErrAnd s (λ d. d ≡ e) →
            TellsRun (Fair of) (Limit of) (Says of) status given (given run) old new s
        telling_cut Limit e (Ok t) was again = absurd again
        telling_cut Limit e (Err d) was again =
            let stopped : Result Status Stop = Err d in
            told Limit stopped (step_again said mid new r e stopped said_so was again) tt

      pub telling_next : (further : Speaker) → r ≡ Ok None → ((words : Words) (state : State) → Speaks voice words state → OnOk r (Speaks further words (next state event))) →
          ((other : Event) → can voice other → can further other) → ((other : Event) → Fit going other → Fit engine other) → (last : Event → Bool) → GoesOnBy (last event) (More going) →
          ((other : Event) → IsNone (status other) → last other ≡ false) → IsTelling More Is Stands Fair Says Fit Speaks text next can start begun going further old new
      telling_next further was moves keeps fits last goes lasts = record {
        more = subst (λ (b : Bool). GoesOnBy b (More going)) (lasts event none_behind) goes;
        about = about telling.about;
        fits = λ other fit. keeps other (telling.fits other (fits other fit));
        each = each;
      }
        where
          none_behind : IsNone (status event)
          none_behind = subst IsNone (subst (λ (t : Result (Option Status) Stop). IfOk t (λ e. e ≡ status event)) was ends) refl

          about : (of : Of) × (run : Run) × Is engine of × Stands engine of run → (of : Of) × (run : Run) × Is going of × Stands going of run
          about (of, run, is, at) = let (after, says, stands) = behind.tells of run is at in (of, after, same of is, stands)

          each : (of : Of) (run : Run) (words : Words) (state : Run → State) (given : Run → Given) → Is start of → Stands start of run → Speaks begun words (state run) →
              GivesBy (Fair of) (Says of) (text words) next state given → SoFar Is Stands Speaks of words state given run going further old new
          each of run words state given is at speaks gives =
              let before = so_far of run words state given is at speaks gives in
              let after = gone of run words state given is at speaks gives in
              let words_so = said of run words state given is at speaks gives in
              let none : Option Status = None in
              let done : Result (Unit {0}) Stop = Ok tt in
              record {
                run = after.0;
                is = same of before.is;
                stands = after.2;
                speaks = subst (λ (s : State). Speaks further words s)
                    (sym (gives.moves before.run after.0 event (fair_before of run words state given is at speaks gives) (fair_behind of run words state given is at speaks gives) after.1))
                    (subst (λ (t : Result (Option Status) Stop). OnOk t (Speaks further words (next (state before.run) event))) was (moves words (state before.run) before.speaks));
                more = joined before.more words_so;
                grows = grown of run words state given is at speaks gives;
                moves = given_all (joined before.more words_so) old new tt (step_on of run words state given is at speaks gives done
                    (step_done words_so mid new r none tt (said_so of run words state given is at speaks gives) was));
              }

-- ---- behind a header

module _ {Run Event : Type 0} {Fair : Run → Type 0} {Limit : Run → Refusal → Type 0} {Says : Run → Event → Run → Type 0} {status : Event → Option Status} {given : Run → Given}
    (first : Run) (header : Given) (is : header ≡ given first) where
  pub header_cut : {X : Type 0} (x y : Moment) (r : Result X Stop) (e : Stop) (s : Result Status Stop) → Fair first → Step header x y r → r ≡ Err e → IsErrAnd s (λ d. d ≡ e) →
      TellsRun Fair Limit Says status given nothing x y s
  header_cut x y r e (Ok t) fair step was again = absurd again
  header_cut x y r e (Err d) fair step was again =
      let stopped : Result Status Stop = Err d in
      record {
        run = first;
        fair = fair;
        err = [];
        ends = None;
        how = refl;
        more = header;
        grows = is ∙ sym (joined-nothing (given first));
        step = step_again header x y r e stopped step was again;
        ended = tt;
      }

  pub header_told : {X : Type 0} (x y z : Moment) (r : Result X Stop) (v : X) (s : Result Status Stop) → Step header x y r → r ≡ Ok v →
      TellsRun Fair Limit Says status given (given first) y z s → TellsRun Fair Limit Says status given nothing x z s
  header_told x y z r v s step was told = record {
    run = told.run;
    fair = told.fair;
    err = told.err;
    ends = told.ends;
    how = told.how;
    more = joined header told.more;
    grows = ap (λ (g : Given). joined g told.more) is ∙ told.grows;
    step = step_then header told.more x y z r v s step was told.step;
    ended = told.ended;
  }
