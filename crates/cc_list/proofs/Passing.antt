-- A refusal that a session answers is that of a limit which its run passes; and a run that has not begun.
use Rattle.std.proofs.Common.{◌≡◌, ℕ, ◌+◌, ◌≤◌, true, false, List, [], Option, Some, None, refl, sym, ap, subst, ◌∙◌, arith, inl, inr}
use Rattle.std.specs.Prelude.{IsNone, is_some, unwrap_or}
use Rattle.cc_defs.specs.declared.event.Told.{Told}
use Rattle.cc_defs.specs.declared.lists.Key.{Key}
use Rattle.cc_defs.specs.declared.log.EndWord.TheVariants as words
use Rattle.cc_defs.specs.declared.refusal.LimitAt.TheVariants as limits
use Rattle.cc_defs.specs.declared.refusal.Refusal.{Refusal}
use Rattle.cc_defs.specs.Description.{Description}
use Rattle.cc_defs.specs.GroundLaws.{PlainGroundQuery, StandsForQuery}
use Rattle.cc_defs.specs.Refusals.{past}
use Rattle.cc_defs.specs.Resolved.{Query}
use Rattle.cc_defs.specs.Runs.{Ask, Horizon, Run, IsFairRun, events_of, first_horizon, horizon_at, last_horizon, range_of}
use Rattle.cc_lists.specs.Horizons.{last_at, opening_refusal}
use Rattle.cc_query.specs.declared.phase.Part.{Part}
use Rattle.cc_query.specs.declared.phase.Part.TheVariants as parts
use Rattle.cc_query.specs.declared.phase.Phase.{Phase}
use Rattle.cc_query.specs.declared.phase.Phase.TheVariants as phases
use Rattle.cc_query.specs.Parts.{is_conditions}
use Rattle.cc_query.specs.Sessions.{After, Awaits, HasMore, HasTooMany, IsSessionOf, MayRefuse, Opens, SessionView, StandsBehind, opens_at}
use Rattle.cc_list.specs.Searching.{OpensNext, PassesLimit, horizon_of}
use Rattle.cc_list.specs.Tasks.{Task}
use Rattle.cc_list.proofs.RunEvents.{both_open}

-- ---- horizons

pub range_is : (made : PlainGroundQuery) (d : Description) (q : Query) (stands : StandsForQuery made d q) → (range_of q ≡ stands.0)
range_is made d q stands = ap (λ (range : Option (ℕ × ℕ)). unwrap_or range (1, 0)) stands.1

last_is : (made : PlainGroundQuery) (d : Description) (q : Query) (after : Option Key) → StandsForQuery made d q → last_at made after ≡ last_horizon q after
last_is made d q None stands = ap (λ (query : PlainGroundQuery). query.hi) stands.2 ∙ ap (λ (range : ℕ × ℕ). range.1) (sym (range_is made d q stands))
last_is made d q (Some key) stands = refl

first_low : (made : PlainGroundQuery) (d : Description) (q : Query) (after : Option Key) → StandsForQuery made d q → made.lo ≤ made.hi →
    first_horizon q after + 0 ≤ last_horizon q after + 1
first_low made d q None stands ordered =
    let low : made.lo ≡ (range_of q).0 = ap (λ (query : PlainGroundQuery). query.lo) stands.2 ∙ ap (λ (range : ℕ × ℕ). range.0) (sym (range_is made d q stands)) in
    let high : made.hi ≡ (range_of q).1 = ap (λ (query : PlainGroundQuery). query.hi) stands.2 ∙ ap (λ (range : ℕ × ℕ). range.1) (sym (range_is made d q stands)) in
    omega arith
first_low made d q (Some key) stands ordered = omega arith

-- ---- a run that has not begun

abbrev pub no_run : Run
no_run = record { done = []; next = None; ending = None }

pub no_run_is_fair : (made : PlainGroundQuery) (d : Description) (q : Query) (ask : Ask) → StandsForQuery made d q → made.lo ≤ made.hi → IsFairRun d q ask no_run
no_run_is_fair made d q ask stands ordered = record { done = tt; next = tt; within = first_low made d q ask.after stands ordered; ending = tt }

-- ---- limits

-- a session that is not done has not ended
pub still_open : (d : Description) (q : Query) (session : SessionView) (run : Run) (phase : Phase) → session.phase ≡ phase → HasMore session →
    Awaits d q session run phase → run.ending ≡ None
still_open d q session run (phases.Opening part) is more awaits = awaits.0
still_open d q session run (phases.Searching part solver listed) is more awaits = awaits.0
still_open d q session run (phases.Denying solver listed) is more awaits = awaits.0
still_open d q session run (phases.Refuted part listed) is more awaits = awaits.0
still_open d q session run (phases.Closed part word listed) is more awaits = awaits.0
still_open d q session run phases.Failing is more awaits = awaits.0
still_open d q session run phases.Ended is more awaits = absurd (more is)

none_of : {X : Type 0} (o : Option X) → o ≡ None → IsNone o
none_of o is = ap is_some is

same_part : (a b : Part) → Some a ≡ Some b → a ≡ b
same_part a b is = cc

module _ (d : Description) (q : Query) (ask : Ask) (run : Run) where
  abbrev task_of : Task
  task_of = record { description = d; query = q; ask = ask }

  opening : (part : Part) (next : Option Horizon) → Opens q part next → horizon_of task_of run ≤ last_horizon q ask.after → OpensNext task_of run (is_conditions part) next
  opening parts.Histories next opens low = subst (λ (n : Option Horizon). OpensNext task_of run false n) (sym opens.1) (sym opens.0, low)
  opening parts.Conditions next opens low = subst (λ (n : Option Horizon). OpensNext task_of run true n) (sym opens.1) (sym opens.0, low)
  opening parts.Claim next opens low = absurd opens

  opens_next : (session : SessionView) (phase : Phase) (part : Part) → opens_at phase ≡ Some part → Awaits d q session run phase →
      horizon_of task_of run ≤ last_horizon q ask.after → OpensNext task_of run (is_conditions part) run.next
  opens_next session (phases.Opening first) part is awaits low =
      subst (λ (p : Part). OpensNext task_of run (is_conditions p) run.next) (same_part first part is) (opening first run.next awaits.1 low)
  opens_next session (phases.Searching first solver listed) part is awaits low = absurd cc
  opens_next session (phases.Denying solver listed) part is awaits low = absurd cc
  opens_next session (phases.Refuted first listed) part is awaits low = absurd cc
  opens_next session (phases.Closed parts.Histories word listed) part is awaits low = absurd cc
  opens_next session (phases.Closed parts.Claim word listed) part is awaits low = absurd cc
  opens_next session (phases.Closed parts.Conditions words.Empty listed) part is awaits low = absurd cc
  opens_next session (phases.Closed parts.Conditions words.Spent listed) part is awaits low = absurd cc
  opens_next session (phases.Closed parts.Conditions words.Found listed) part is awaits low =
      subst (λ (p : Part). OpensNext task_of run (is_conditions p) run.next) (same_part parts.Claim part is)
      (subst (λ (n : Option Horizon). OpensNext task_of run false n) (sym awaits.1.next) (refl, awaits.1.word_is))
  opens_next session phases.Failing part is awaits low = absurd cc
  opens_next session phases.Ended part is awaits low = absurd cc

-- a run that passes this limit, and has not ended, told these events
pub record StopsAt (d : Description) (q : Query) (ask : Ask) (given : List Told) (refusal : Refusal) : Type 0 where
  pub run : Run
  pub fair : IsFairRun d q ask run
  pub given_is : given ≡ events_of (first_horizon q ask.after) run
  pub still : IsNone run.ending
  pub passes : PassesLimit (record { description = d; query = q; ask = ask }) run refusal

opening_passed : (d : Description) (q : Query) (session : SessionView) (given : List Told) (refusal : Refusal) (part : Part) (run : Run) → IsSessionOf session d q → HasMore session →
    IsFairRun d q session.ask run → given ≡ events_of (first_horizon q session.ask.after) run → StandsBehind d q session run →
    opens_at session.phase ≡ Some part → session.horizon ≤ last_at session.query session.ask.after →
    opening_refusal d q session.ask session.horizon (is_conditions part) ≡ Some refusal → StopsAt d q session.ask given refusal
opening_passed d q session given refusal part run is more fair given_is stands opens low refused =
    let last = last_is session.query d q session.ask.after is.query in
    let here = stands.horizon in
    let low_there : horizon_at (first_horizon q session.ask.after) run ≤ last_horizon q session.ask.after = omega arith in
    record {
      run = run;
      fair = fair;
      given_is = given_is;
      still = none_of run.ending (still_open d q session run session.phase refl more stands.awaits);
      passes = inl (record {
        conditions = is_conditions part;
        opens = opens_next d q session.ask run session session.phase part opens stands.awaits low_there;
        passed = subst (λ (n : ℕ). opening_refusal d q session.ask n (is_conditions part) ≡ Some refusal) here refused;
      });
    }

histories_passed : (d : Description) (q : Query) (session : SessionView) (given : List Told) (refusal : Refusal) (run : Run) → HasMore session →
    given ≡ events_of (first_horizon q session.ask.after) run → StandsBehind d q session run →
    refusal ≡ past limits.Histories → HasTooMany d q session given → StopsAt d q session.ask given refusal
histories_passed d q session given refusal run more given_is stands refused many =
    let first = first_horizon q session.ask.after in
    let same : events_of first run ≡ events_of first many.run = sym given_is ∙ many.given_is in
    record {
      run = many.run;
      fair = many.fair;
      given_is = many.given_is;
      still = none_of many.run.ending (both_open first run many.run same (still_open d q session run session.phase refl more stands.awaits));
      passes = inr (many.many, refused);
    }

pub stops_at : (d : Description) (q : Query) (session : SessionView) (given : List Told) (refusal : Refusal) → IsSessionOf session d q → HasMore session →
    After d q session given → MayRefuse d q session given refusal → StopsAt d q session.ask given refusal
stops_at d q session given refusal is more after (inl opens) =
    opening_passed d q session given refusal opens.0 after.0 is more after.1 after.2 after.3 opens.1 opens.2 opens.3
stops_at d q session given refusal is more after (inr many) =
    histories_passed d q session given refusal after.0 more after.2 after.3 many.0 many.1
