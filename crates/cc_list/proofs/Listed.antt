-- A search told event by event: each step of it, and its beginning and ends.
use Rattle.std.proofs.Common.{◌≡◌, ◌≢◌, ℕ, ◌<◌, ◌≤◌, Bool, List, [], ◌∷◌, ◌++◌, Option, Some, None, Result, Ok, Err, refl, sym, ap, subst, ◌∙◌, append_assoc, append-nil, arith, true, false, inl, inr}
use Rattle.std.specs.Prelude.{IsErrAnd, IfOk, IsNone, is_some}
use Rattle.cc_arena.specs.declared.ground_laws.GroundLaw.{GroundLaw}
use Rattle.cc_list.specs.Descriptions.{IsDescriptionOf}
use Rattle.cc_defs.specs.declared.event.Ending.{Ending}
use Rattle.cc_defs.specs.declared.event.Event.{Event}
use Rattle.cc_defs.specs.declared.event.Event.TheVariants as events
use Rattle.cc_defs.specs.declared.event.Told.{Told}
use Rattle.cc_defs.specs.declared.refusal.Refusal.{Refusal}
use Rattle.cc_defs.specs.Conditions.{IsSignatureOfDescription}
use Rattle.cc_defs.specs.Description.{Description}
use Rattle.cc_defs.specs.GroundLaws.{PlainGroundQuery, StandsForQuery}
use Rattle.cc_defs.specs.Resolved.{Query}
use Rattle.cc_defs.specs.Runs.{Ask, Run, AreFair, IsFairRun, events_of, first_horizon}
use Rattle.cc_defs.specs.Signatures.{Signature}
use Rattle.cc_describe.specs.declared.description.Described.{Described}
use Rattle.cc_ports.specs.declared.desk.To.TheVariants as outputs
use Rattle.cc_ports.specs.Moments.{Moment}
use Rattle.cc_lists.specs.Subjects.{with_row}
use Rattle.cc_query.specs.Lefts.{left_of}
use Rattle.cc_query.specs.Laws.{SpentBudgetsAreSmall}
use Rattle.cc_query.specs.Sessions.{After, HasMore, IsSame, IsSessionOf, SessionView}
use Rattle.cc_list.specs.Asking.{AreOf}
use Rattle.cc_list.specs.Laws.{LogLaws}
use Rattle.cc_list.specs.Searching.{EndsSo, IsTold}
use Rattle.cc_list.specs.Stops.{Searches}
use Rattle.cc_list.specs.Tasks.{Task}
use Rattle.cc_list.specs.Telling.{GoesOn, HasGoodLines, IsListing, ListedSoFar, counts_of, so_far, task_of}
use Rattle.cc_tell.specs.declared.status.Status.{Status}
use Rattle.cc_tell.specs.declared.status.Status.TheVariants as statuses
use Rattle.cc_tell.specs.declared.status.Stop.{Stop}
use Rattle.cc_tell.specs.declared.status.Stop.TheVariants as stops
use Rattle.cc_tell.specs.declared.telling.Teller.{Teller}
use Rattle.cc_tell.specs.ErrLines.{refusal_text}
use Rattle.cc_tell.specs.Manners.{Manner, OneByOne, Summed, header_told, log_told, out_told}
use Rattle.cc_tell.specs.Statuses.{status_of, status_told}
use Rattle.cc_tell.specs.EventTexts.{IsRowOfEvent, lines_told, texts_behind, texts_of}
use Rattle.cc_tell.specs.Steps.{Moves, Step}
use Rattle.cc_tell.specs.Givens.{given_to, Given, joined, nothing, only_err, only_log}
use Rattle.cc_tell.specs.Tellers.{IsCounted, KeepsUp, manner_of}
use Rattle.cc_theory.specs.Theories.{AreLawsOf}
use Rattle.cc_tell.proofs.GivenSteps.{given_all, joined-nothing, moves_again, moves_as, moves_both, moves_done, moves_none, step_again, step_as, step_nothing, step_of, step_then}
use Rattle.cc_list.proofs.EventTexts.{texts_more}
use Rattle.cc_list.proofs.LogsAccepted.{logs_accepted}
use Rattle.cc_list.proofs.Passing.{StopsAt, no_run}
use Rattle.cc_list.proofs.RunEvents.{ends_so, last_row}
use Rattle.cc_list.proofs.Spending.{budget_small}
use Rattle.cc_list.proofs.Worth.{IsGoodEvent, keeps_limits, next_good, no_lines}

-- ---- what a run tells

-- the texts so far, with these behind them, are those of all its events
record IsAll (manner : Manner) (d : Description) (told : List Told) (before more : Given) : Type 0 where
  pub out : before.out ++ more.out ≡ out_told manner d told
  pub log : before.log ++ more.log ≡ log_told manner told

-- the log is its header and the lines
log_is : (manner : Manner) (told : List Told) → header_told manner ++ lines_told manner told ≡ log_told manner told
log_is (OneByOne version counts) told = refl
log_is (Summed size) told = refl

all_more : (manner : Manner) (d : Description) (given : List Told) (more : Given) (all told : List Told) →
    joined (texts_of manner d given) more ≡ texts_of manner d all → all ≡ told → IsAll manner d told (so_far manner d given) more
all_more manner d given more all told joins is = record {
  out = ap (λ (g : Given). g.out) joins ∙ ap (λ (l : List Told). out_told manner d l) is;
  log = append_assoc (header_told manner) (lines_told manner given) more.log
      ∙ (ap (λ (g : Given). header_told manner ++ g.log) joins ∙ (log_is manner all ∙ ap (λ (l : List Told). log_told manner l) is));
}

all_err : (manner : Manner) (d : Description) (given told : List Told) (text : List ℕ) → given ≡ told → IsAll manner d told (so_far manner d given) (only_err text)
all_err manner d given told text is = record {
  out = append-nil (out_told manner d given) ∙ ap (λ (l : List Told). out_told manner d l) is;
  log = append-nil (header_told manner ++ lines_told manner given) ∙ (log_is manner given ∙ ap (λ (l : List Told). log_told manner l) is);
}

-- ---- events

pub fair_of : (d : Description) (q : Query) (session : SessionView) (ask : Ask) (given : List Told) → session.ask ≡ ask → After d q session given → AreFair d q ask given
fair_of d q session ask given same after = subst (λ (a : Ask). AreFair d q a given) same (after.0, after.1, after.2)

ending_told : (event : Event) (status : Status) → Some status ≡ status_told event → (ending : Ending) × (event ≡ events.Ended ending) × (status ≡ status_of ending)
ending_told (events.Log line) status is = absurd cc
ending_told (events.NoHistory horizon) status is = absurd cc
ending_told (events.History horizon number) status is = absurd cc
ending_told (events.NoConditions horizon) status is = absurd cc
ending_told (events.Holds horizon) status is = absurd cc
ending_told (events.Counterexample horizon) status is = absurd cc
ending_told (events.Ended ending) status is = (ending, refl, cc)

-- what was told is of a fair run, and this is given of it
told_so : (teller : Teller) (d : Description) (q : Query) (ask : Ask) (given : List Told) → LogLaws → SpentBudgetsAreSmall → ask.budget ≤ 2000000 →
    (run : Run) (told : List Told) (more : Given) (ends : Option Status) →
    IsFairRun d q ask run → HasGoodLines d q ask.after told → told ≡ events_of (first_horizon q ask.after) run →
    IsAll (manner_of (counts_of d q ask.after) teller) d (events_of (first_horizon q ask.after) run) (so_far (manner_of (counts_of d q ask.after) teller) d given) more →
    EndsSo (task_of d q ask) run more.err ends → IsTold (manner_of (counts_of d q ask.after) teller) (task_of d q ask) run
    (record { given = joined (so_far (manner_of (counts_of d q ask.after) teller) d given) more; begun = false; ends = ends })
told_so teller d q ask given law small budget run told more ends fair good is all how =
    let lines = subst (λ (l : List Told). HasGoodLines d q ask.after l) is good in
    record {
      fair = fair;
      out = all.out;
      log = all.log;
      limits = keeps_limits d q ask (events_of (first_horizon q ask.after) run) lines;
      accepted = logs_accepted law d q ask budget teller run fair lines;
      spent = budget_small d q ask small run fair lines;
      ends = how;
    }

module _ (d : Description) (q : Query) (given : List Told) (old new : Teller) (session next : SessionView) where
  abbrev counts : Bool → ℕ → ℕ
  counts = counts_of d q session.ask.after

  abbrev manner : Manner
  manner = manner_of counts old

  abbrev Going : Moment → Moment → Result (Option Status) Stop → Type 0
  Going x y r = GoesOn manner d q given new session next x y r

  module _ (law : LogLaws) (small : SpentBudgetsAreSmall) (budget : session.ask.budget ≤ 2000000) (lines : HasGoodLines d q session.ask.after given) where
    module _ (keeps : KeepsUp counts old given) (event : Event) (is : IsGoodEvent d q session.ask.after event) (same : IsSame session next)
        (axioms : ℕ) (counted : IsCounted counts event axioms) (after : After d q next (given ++ with_row event next.row ∷ []) × IsSessionOf next d q) (x y : Moment) where
      abbrev one : Told
      one = with_row event next.row

      abbrev more : Given
      more = texts_behind manner d given one

      joins : joined (texts_of manner d given) more ≡ texts_of manner d (given ++ one ∷ [])
      joins = texts_more d given one counts old manner refl keeps

      good : HasGoodLines d q session.ask.after (given ++ one ∷ [])
      good = next_good d q session.ask.after given event next.row lines is

      fair : AreFair d q session.ask (given ++ one ∷ [])
      fair = fair_of d q next session.ask (given ++ one ∷ []) same.ask after.0

      all : IsAll manner d (events_of (first_horizon q session.ask.after) fair.0) (so_far manner d given) more
      all = all_more manner d given more (given ++ one ∷ []) (events_of (first_horizon q session.ask.after) fair.0) joins fair.2

      abbrev Kept : List ℕ → Result (Option Status) Stop → Type 0
      Kept row r = IfOk r (λ _. (counts : Bool → ℕ → ℕ) (before : List Told) → IsCounted counts event axioms → KeepsUp counts old before →
          IsNone (status_told event) → KeepsUp counts new (before ++ with_row event row ∷ []))

      told_here : (r : Result (Option Status) Stop) → Step more x y r → IfOk r (λ status. status ≡ status_told event) → Kept next.row r → Going x y r
      told_here (Ok None) step status kept = record {
        told = one;
        is = after.1;
        after = after.0;
        lines = subst (λ (a : Ask). HasGoodLines d q a.after (given ++ one ∷ [])) (sym same.ask) good;
        keeps = subst (λ (a : Ask). KeepsUp (counts_of d q a.after) new (given ++ one ∷ [])) (sym same.ask) (kept counts given counted keeps (ap is_some (sym status)));
        moves = given_all _ x y None step;
      }
      told_here (Ok (Some status)) step told kept =
          let ending = ending_told event status told in
          let last = subst (λ (e : Event). given ++ with_row e next.row ∷ [] ≡ events_of (first_horizon q session.ask.after) fair.0) ending.1 fair.2 in
          record {
            run = fair.0;
            given = more;
            ends = Some status;
            told = told_so old d q session.ask given law small budget fair.0 (given ++ one ∷ []) more (Some status) fair.1 good fair.2 all
                (inl (ending.0, ends_so (first_horizon q session.ask.after) fair.0 given ending.0 last, ap (λ (g : Given). g.err) joins, ending.2));
            step = step_of more x y status (moves_done more x y (Some status) status (given_all more x y (Some status) step));
            ended = refl;
          }
      told_here (Err stop) step status kept =
          record {
            run = fair.0;
            given = more;
            ends = None;
            told = told_so old d q session.ask given law small budget fair.0 (given ++ one ∷ []) more None fair.1 good fair.2 all (ap (λ (g : Given). g.err) joins);
            step = record { given = step.given; moves = moves_again step.given x y stop stop refl step.moves; how = step.how };
            ended = tt;
          }

      -- the next event was told, or a front of it
      pub event_told : (row : List ℕ) (r : Result (Option Status) Stop) → row ≡ next.row → Step (texts_behind manner d given (with_row event row)) x y r →
          IfOk r (λ status. status ≡ status_told event) → Kept row r → Going x y r
      event_told row r is step status kept =
          told_here r (subst (λ (l : List ℕ). Step (texts_behind manner d given (with_row event l)) x y r) is step) status
          (subst (λ (l : List ℕ). Kept l r) is kept)

    limit_all : (refusal : Refusal) → (at : StopsAt d q session.ask given refusal) →
        IsAll manner d (events_of (first_horizon q session.ask.after) at.run) (so_far manner d given) (only_err (refusal_text refusal []))
    limit_all refusal at = all_err manner d given (events_of (first_horizon q session.ask.after) at.run) (refusal_text refusal []) at.given_is

    limit_so : (refusal : Refusal) → (at : StopsAt d q session.ask given refusal) → IsTold manner (task_of d q session.ask) at.run
        (record { given = joined (so_far manner d given) (only_err (refusal_text refusal [])); begun = false; ends = Some statuses.Refused })
    limit_so refusal at = told_so old d q session.ask given law small budget at.run given (only_err (refusal_text refusal [])) (Some statuses.Refused) at.fair lines at.given_is
        (limit_all refusal at) (inr (refusal, at.still, at.passes, refl, refl))

    -- a limit was told, or a front of its line
    pub limit_told : (refusal : Refusal) (x y : Moment) (r : Result (Option Status) Stop) → StopsAt d q session.ask given refusal →
        Step (only_err (refusal_text refusal [])) x y r → IfOk r (λ status. status ≡ Some statuses.Refused) → Going x y r
    limit_told refusal x y (Ok None) at step status = absurd cc
    limit_told refusal x y (Ok (Some status)) at step told = record {
      run = at.run;
      given = only_err (refusal_text refusal []);
      ends = Some statuses.Refused;
      told = limit_so refusal at;
      step = step_of (only_err (refusal_text refusal [])) x y status (moves_done _ x y (Some status) status (given_all _ x y (Some status) step));
      ended = sym told;
    }
    limit_told refusal x y (Err stop) at step status = record {
      run = at.run;
      given = only_err (refusal_text refusal []);
      ends = Some statuses.Refused;
      told = limit_so refusal at;
      step = record { given = step.given; moves = moves_again step.given x y stop stop refl step.moves; how = step.how };
      ended = tt;
    }

    -- memory was wanting
    pub memory_told : (m : Moment) → After d q session given → Going m m (Err stops.OutOfMemory)
    memory_told m after =
        let lacking : Result Status Stop = Err stops.OutOfMemory in
        record {
          run = after.0;
          given = nothing;
          ends = None;
          told = told_so old d q session.ask given law small budget after.0 given nothing None after.1 lines after.2
              (all_err manner d given (events_of (first_horizon q session.ask.after) after.0) [] after.2) refl;
          step = step_nothing nothing m lacking refl;
          ended = tt;
        }

-- a session that tells an event which is not the ending goes on
pub goes_next : (session next : SessionView) (event : Event) (r : Result (Option Status) Stop) → IsSame session next → (((ending : Ending) → event ≢ events.Ended ending) → HasMore next) →
    left_of next < left_of session → IfOk r (λ status. status ≡ status_told event) →
    IfOk r (λ status. IsNone status → IsSame session next × HasMore next × (left_of next < left_of session))
goes_next session next event (Ok status) same more less told = λ none. (same, more (λ ending is. ended ending is none), less)
  where
    ended : (ending : Ending) → event ≡ events.Ended ending → IsNone status → ⊥
    ended ending is none =
        let still : is_some (status_told event) ≡ false = ap is_some (sym told) ∙ none in
        let over : is_some (status_told event) ≡ true = ap (λ (e : Event). is_some (status_told e)) is in absurd cc
goes_next session next event (Err stop) same more less told = tt

-- ---- behind what was given

joined_assoc : (a b c : Given) → joined (joined a b) c ≡ joined a (joined b c)
joined_assoc a b c = λ i. record { out = append_assoc a.out b.out c.out i; err = append_assoc a.err b.err c.err i; log = append_assoc a.log b.log c.log i }

-- a step, and the search behind it
pub search_behind : {X : Type 0} (manner : Manner) (task : Task) (before more : Given) (x y z : Moment) (r : Result X Stop) (v : X) (s : Result Status Stop) → Step more x y r → r ≡ Ok v →
    Searches manner task (joined before more) y z s → Searches manner task before x z s
search_behind manner task before more x y z r v s step is search = record {
  run = search.run;
  given = joined more search.given;
  ends = search.ends;
  told = subst (λ (g : Given). IsTold manner task search.run (record { given = g; begun = false; ends = search.ends })) (joined_assoc before more search.given) search.told;
  step = step_then more search.given x y z r v s step is search.step;
  ended = search.ended;
}

-- ---- the loop

none_given : (manner : Manner) (d : Description) → nothing ≡ texts_of manner d []
none_given (OneByOne version counts) d = refl
none_given (Summed size) d = refl

module _ (described : Described) (begun : Teller) (entry : SessionView) where
  -- how it is told
  abbrev told_as : Description → Query → Manner
  told_as d q = manner_of (counts_of d q entry.ask.after) begun

  pub listing_begins : (m : Moment) → ((counts : Bool → ℕ → ℕ) → KeepsUp counts begun []) → HasMore entry →
      ((d : Description) × (q : Query) × IsDescriptionOf described d × IsSessionOf entry d q × After d q entry []) → IsListing described begun entry begun entry m m
  listing_begins m keeps more of = record {
    manner_is = λ counts. refl;
    same = record { signature = refl; laws = refl; query = refl; ask = refl };
    more = more;
    of = (of.0, of.1, [], of.2, of.3, of.4, no_lines of.0 of.1 entry.ask.after, keeps (counts_of of.0 of.1 entry.ask.after));
    so_far = λ d q is_described is_of after. record {
      given = [];
      is = is_of;
      after = after;
      lines = no_lines d q entry.ask.after;
      keeps = keeps (counts_of d q entry.ask.after);
      moves = moves_as nothing (texts_of (told_as d q) d []) m m (Ok tt) (none_given (told_as d q) d) (moves_none m tt);
    };
  }

  module _ (old new : Teller) (session next : SessionView) (x y z : Moment) (r : Result (Option Status) Stop) (listing : IsListing described begun entry old session x y)
      (goes : (d : Description) (q : Query) (given : List Told) → IsDescriptionOf described d → IsSessionOf session d q → After d q session given →
      HasGoodLines d q session.ask.after given → KeepsUp (counts_of d q session.ask.after) old given →
      GoesOn (manner_of (counts_of d q session.ask.after) old) d q given new session next y z r) where
    manner_same : (d : Description) (q : Query) → manner_of (counts_of d q session.ask.after) old ≡ told_as d q
    manner_same d q = listing.manner_is (counts_of d q session.ask.after) ∙ ap (λ (a : Ask). manner_of (counts_of d q a.after) begun) listing.same.ask

    gone : (s : Result (Option Status) Stop) → r ≡ s → (d : Description) (q : Query) (given : List Told) → IsDescriptionOf described d → IsSessionOf session d q → After d q session given →
        HasGoodLines d q session.ask.after given → KeepsUp (counts_of d q session.ask.after) old given → GoesOn (told_as d q) d q given new session next y z s
    gone s is d q given is_described is_of after lines keeps =
        subst (λ (m : Manner). GoesOn m d q given new session next y z s) (manner_same d q)
        (subst (λ (t : Result (Option Status) Stop). GoesOn (manner_of (counts_of d q session.ask.after) old) d q given new session next y z t) is (goes d q given is_described is_of after lines keeps))

    pub listing_next : r ≡ Ok None → ((counts : Bool → ℕ → ℕ) → manner_of counts new ≡ manner_of counts old) → IsSame session next → HasMore next →
        IsListing described begun entry new next x z
    listing_next is manner_is same more = record {
      manner_is = λ counts. manner_is counts ∙ listing.manner_is counts;
      same = record {
        signature = same.signature ∙ listing.same.signature;
        laws = same.laws ∙ listing.same.laws;
        query = same.query ∙ listing.same.query;
        ask = same.ask ∙ listing.same.ask;
      };
      more = more;
      of =
          let of = listing.of in
          let one = gone (Ok None) is of.0 of.1 of.2 of.3 of.4 of.5 of.6 of.7 in
          (of.0, of.1, of.2 ++ one.told ∷ [], of.3, one.is, one.after, one.lines, one.keeps);
      so_far = λ d q is_described is_of after.
          let before = listing.so_far d q is_described is_of after in
          let one = gone (Ok None) is d q before.given is_described before.is before.after before.lines before.keeps in
          let more = texts_behind (told_as d q) d before.given one.told in
          record {
            given = before.given ++ one.told ∷ [];
            is = one.is;
            after = one.after;
            lines = one.lines;
            keeps = one.keeps;
            moves = moves_as _ _ x z (Ok tt) (texts_more d before.given one.told (counts_of d q session.ask.after) old (told_as d q) (manner_same d q) before.keeps)
                (moves_both (texts_of (told_as d q) d before.given) more x y z tt (Ok tt) before.moves (moves_done more y z None tt one.moves));
          };
    }

    -- the search as a whole, from its last part
    whole_of : (d : Description) (q : Query) (given : List Told) (s : Result Status Stop) → Moves {X = Unit {0}} (texts_of (told_as d q) d given) x y (Ok tt) →
        Searches (told_as d q) (task_of d q session.ask) (so_far (told_as d q) d given) y z s →
        Searches (told_as d q) (task_of d q entry.ask) (only_log (header_told (told_as d q))) x z s
    whole_of d q given s moves ends =
        search_behind (told_as d q) (task_of d q entry.ask) (only_log (header_told (told_as d q))) (texts_of (told_as d q) d given) x y z (Ok tt) tt s
        (step_of (texts_of (told_as d q) d given) x y tt moves) refl
        (subst (λ (a : Ask). Searches (told_as d q) (task_of d q a) (so_far (told_as d q) d given) y z s) listing.same.ask ends)

    module _ (d : Description) (q : Query) (is_described : IsDescriptionOf described d) (is_of : IsSessionOf entry d q) (after : After d q entry []) where
      abbrev before : ListedSoFar (told_as d q) d q old session x y
      before = listing.so_far d q is_described is_of after

      pub listing_ends : (status : Status) → r ≡ Ok (Some status) → Searches (told_as d q) (task_of d q entry.ask) (only_log (header_told (told_as d q))) x z (Ok status)
      listing_ends status is =
          whole_of d q before.given (Ok status) before.moves (gone (Ok (Some status)) is d q before.given is_described before.is before.after before.lines before.keeps)

      pub listing_stops : (stop : Stop) (s : Result Status Stop) → r ≡ Err stop → IsErrAnd s (λ e. e ≡ stop) →
          Searches (told_as d q) (task_of d q entry.ask) (only_log (header_told (told_as d q))) x z s
      listing_stops stop (Ok status) is same = absurd same
      listing_stops stop (Err error) is same =
          whole_of d q before.given (Err error) before.moves
          (gone (Err error) (is ∙ ap Err (sym same)) d q before.given is_described before.is before.after before.lines before.keeps)

-- ---- from the header on

module _ (manner : Manner) (task : Task) (x y : Moment) (fair : IsFairRun task.description task.query task.ask no_run) where
  -- a run that has not begun, of which the header is given
  told_none : IsTold manner task no_run (record { given = joined nothing (given_to outputs.Log (header_told manner)); begun = false; ends = None })
  told_none = record {
    fair = fair;
    out = ap (λ (g : Given). g.out) (none_given manner task.description);
    log = sym (append-nil (header_told manner)) ∙ (ap (λ (l : List ℕ). header_told manner ++ l) (ap (λ (g : Given). g.log) (none_given manner task.description)) ∙ log_is manner []);
    limits = keeps_limits task.description task.query task.ask [] (no_lines task.description task.query task.ask.after);
    accepted = record { reported = λ some. absurd (omega arith); complete = λ horizon listed is. absurd cc };
    spent = λ at listed next opens is. absurd cc;
    ends = refl;
  }

  pub header_cut : {X : Type 0} (r : Result X Stop) (stop : Stop) (s : Result Status Stop) → Step (given_to outputs.Log (header_told manner)) x y r → r ≡ Err stop →
      IsErrAnd s (λ e. e ≡ stop) → Searches manner task nothing x y s
  header_cut r stop (Ok status) step is same = absurd same
  header_cut r stop (Err error) step is same = record {
    run = no_run;
    given = given_to outputs.Log (header_told manner);
    ends = None;
    told = told_none;
    step = step_again (given_to outputs.Log (header_told manner)) x y r stop (Err error) step is same;
    ended = tt;
  }

  pub header_lacks : {X : Type 0} (r : Result X Stop) (v : X) (s : Result Status Stop) → Step (given_to outputs.Log (header_told manner)) x y r → r ≡ Ok v →
      IsErrAnd s (λ e. e ≡ stops.OutOfMemory) → Searches manner task nothing x y s
  header_lacks r v (Ok status) step is lacks = absurd lacks
  header_lacks r v (Err error) step is lacks = record {
    run = no_run;
    given = given_to outputs.Log (header_told manner);
    ends = None;
    told = told_none;
    step = step_as (joined (given_to outputs.Log (header_told manner)) nothing) (given_to outputs.Log (header_told manner)) x y (Err error) (joined-nothing (given_to outputs.Log (header_told manner)))
        (step_then (given_to outputs.Log (header_told manner)) nothing x y y r v (Err error) step is (step_nothing nothing y (Err error) lacks));
    ended = tt;
  }

-- ---- the row of an event that comes

pub event_row : (d : Description) (q : Query) (given : List Told) (signature : Signature) (old next : SessionView) (event : Event) (row : List ℕ) → IsSessionOf old d q →
    signature ≡ old.signature → row ≡ next.row → After d q next (given ++ with_row event next.row ∷ []) → IsRowOfEvent signature event row
event_row d q given signature old next event row is same row_is after =
    subst (λ (l : List ℕ). IsRowOfEvent signature event l) (sym row_is)
    (last_row d q next.ask after.0 signature given event next.row after.1
    (subst (λ (s : Signature). IsSignatureOfDescription d s) (sym same) is.laws.signature_is) after.2)

pub session_of : (session : SessionView) (signature : Signature) (laws : List GroundLaw) (query : PlainGroundQuery) (d : Description) (q : Query) → session.signature ≡ signature →
    session.laws ≡ laws → session.query ≡ query → AreOf signature laws query d q → IsSessionOf session d q
session_of session signature laws query d q signature_is laws_is query_is of = record {
  laws = subst (λ (s : Signature). AreLawsOf s session.laws d) (sym signature_is) (subst (λ (l : List GroundLaw). AreLawsOf signature l d) (sym laws_is) of.laws_are);
  query = subst (λ (p : PlainGroundQuery). StandsForQuery p d q) (sym query_is) of.query_is;
}

-- the same search, asked by what the session holds
pub search_as : (teller : Teller) (d : Description) (q : Query) (a b : Ask) (x y : Moment) (r : Result Status Stop) → a ≡ b →
    Searches (manner_of (counts_of d q a.after) teller) (task_of d q a) (only_log (header_told (manner_of (counts_of d q a.after) teller))) x y r →
    Searches (manner_of (counts_of d q b.after) teller) (task_of d q b) (only_log (header_told (manner_of (counts_of d q b.after) teller))) x y r
search_as teller d q a b x y r same search =
    subst (λ (ask : Ask). Searches (manner_of (counts_of d q ask.after) teller) (task_of d q ask) (only_log (header_told (manner_of (counts_of d q ask.after) teller))) x y r) same search
