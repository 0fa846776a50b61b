-- Runs that go on: what is true of them, and the event that comes.
use Rattle.std.proofs.Common.{◌≡◌, ◌∙◌, ℕ, ◌+◌, ◌≤◌, suc, Bool, true, false, List, [], ◌∷◌, ◌++◌, length, map, Option, Some, None, sym, subst, ap, ap₂, arith, append_assoc, append-nil}
use Rattle.std.specs.Prelude.{flat_map}
use Rattle.std.proofs.lemmas.List.{length_push}
use Rattle.cc_defs.specs.declared.event.Ending.{Ending}
use Rattle.cc_defs.specs.declared.event.Event.TheVariants as events
use Rattle.cc_defs.specs.declared.event.Told.{Told}
use Rattle.cc_defs.specs.declared.log.EndWord.{EndWord}
use Rattle.cc_defs.specs.declared.log.LogLine.TheVariants as lines
use Rattle.cc_defs.specs.Clauses.{Literal}
use Rattle.cc_defs.specs.Description.{Description}
use Rattle.cc_defs.specs.Resolved.{Query}
use Rattle.cc_defs.specs.Runs.{Ask, Step, Derive, Tell, Section, Horizon, Run, AreDone, IsExhausted, IsFairRun, IsTrueOf, MayEndBehind, MayEndWithin, done_events, events_of, first_horizon, horizon_events, last_horizon, logged, optional, said_of, section_events, step_events, told, told_row}
use Rattle.cc_lists.specs.Sections.{section_of, open_section, rows_in}
use Rattle.cc_query.specs.declared.phase.Part.{Part}
use Rattle.cc_query.specs.declared.phase.Part.TheVariants as parts
use Rattle.cc_query.specs.Parts.{is_conditions, told_by}

-- ---- the events of a section

step_events_behind : (horizon number : ℕ) (steps more : List Step) →
    step_events horizon number (steps ++ more) ≡ step_events horizon number steps ++ step_events horizon (number + length (rows_in steps)) more
step_events_behind horizon number [] more = ap (λ (n : ℕ). step_events horizon n more) (omega arith)
step_events_behind horizon number (Derive clause chain ∷ steps) more =
    ap (λ (l : List Told). logged (lines.Derived clause chain) ∷ l) (step_events_behind horizon number steps more)
step_events_behind horizon number (Tell row ∷ steps) more =
    ap (λ (l : List Told). told_row (events.History horizon number) row ∷ logged (lines.Block row) ∷ l)
    (step_events_behind horizon (number + 1) steps more ∙ ap (λ (n : ℕ). step_events horizon (number + 1) steps ++ step_events horizon n more) (omega arith))

without_ends : (events : List Told) → (events ++ []) ++ [] ≡ events
without_ends events = append-nil (events ++ []) ∙ append-nil events

pub line_event : (conditions : Bool) (horizon : ℕ) (steps : List Step) (clause : List Literal) (chain : List ℕ) →
    section_events conditions horizon (open_section (steps ++ Derive clause chain ∷ []))
    ≡ section_events conditions horizon (open_section steps) ++ logged (lines.Derived clause chain) ∷ []
line_event conditions horizon steps clause chain =
    ap (λ (l : List Told). logged (lines.Section conditions horizon) ∷ l)
    (without_ends (step_events horizon 1 (steps ++ Derive clause chain ∷ [])) ∙ step_events_behind horizon 1 steps (Derive clause chain ∷ [])
    ∙ ap (λ (l : List Told). l ++ logged (lines.Derived clause chain) ∷ []) (sym (without_ends (step_events horizon 1 steps))))

pub history_event : (horizon : ℕ) (steps : List Step) (row : List ℕ) →
    section_events false horizon (section_of steps (Some row) None)
    ≡ section_events false horizon (open_section steps) ++ told_row (events.History horizon (length (rows_in steps) + 1)) row ∷ []
history_event horizon steps row =
    ap (λ (l : List Told). logged (lines.Section false horizon) ∷ l)
    (append-nil (step_events horizon 1 steps ++ told_row (events.History horizon (length (rows_in steps) + 1)) row ∷ [])
    ∙ ap (λ (l : List Told). l ++ told_row (events.History horizon (length (rows_in steps) + 1)) row ∷ []) (sym (without_ends (step_events horizon 1 steps))))

pub block_event : (horizon : ℕ) (steps : List Step) (row : List ℕ) →
    section_events false horizon (open_section (steps ++ Tell row ∷ []))
    ≡ section_events false horizon (section_of steps (Some row) None) ++ logged (lines.Block row) ∷ []
block_event horizon steps row =
    ap (λ (l : List Told). logged (lines.Section false horizon) ∷ l)
    (without_ends (step_events horizon 1 (steps ++ Tell row ∷ [])) ∙ step_events_behind horizon 1 steps (Tell row ∷ [])
    ∙ ap (λ (n : ℕ). step_events horizon 1 steps ++ told_row (events.History horizon n) row ∷ logged (lines.Block row) ∷ []) (omega arith)
    ∙ sym (append_assoc (step_events horizon 1 steps) (told_row (events.History horizon (length (rows_in steps) + 1)) row ∷ []) (logged (lines.Block row) ∷ []))
    ∙ ap (λ (l : List Told). l ++ logged (lines.Block row) ∷ [])
    (sym (append-nil (step_events horizon 1 steps ++ told_row (events.History horizon (length (rows_in steps) + 1)) row ∷ []))))

pub end_event : (conditions : Bool) (horizon : ℕ) (steps : List Step) (last : Option (List ℕ)) (word : EndWord) →
    section_events conditions horizon (section_of steps last (Some word))
    ≡ section_events conditions horizon (section_of steps last None) ++ logged (lines.End word) ∷ []
end_event conditions horizon steps last word =
    ap (λ (l : List Told). logged (lines.Section conditions horizon) ∷ (l ++ logged (lines.End word) ∷ []))
    (sym (append-nil (step_events horizon 1 steps ++ map (told_row (events.History horizon (length (rows_in steps) + 1))) (optional last))))

pub horizon_event : (part : Part) (before : Section) (horizon : ℕ) (old new : Section) (event : Told) →
    section_events (is_conditions part) horizon new ≡ section_events (is_conditions part) horizon old ++ event ∷ [] →
    horizon_events horizon (told_by part before new) ≡ horizon_events horizon (told_by part before old) ++ event ∷ []
horizon_event parts.Histories before horizon old new event is = is
horizon_event parts.Conditions before horizon old new event is = is
horizon_event parts.Claim before horizon old new event is =
    ap (λ (l : List Told). section_events true horizon before ++ l) is
    ∙ sym (append_assoc (section_events true horizon before) (section_events false horizon old) (event ∷ []))

-- ---- runs

abbrev pub run_at : List Horizon → Option Horizon → Option Ending → Run
run_at done next ending = record { done = done; next = next; ending = ending }

done_behind : (d : Description) (q : Query) (ask : Ask) (horizon : ℕ) (done : List Horizon) (last : Horizon) → AreDone d q ask horizon done →
    IsTrueOf d q ask (horizon + length done) last → IsExhausted ask last → AreDone d q ask horizon (done ++ last ∷ [])
done_behind d q ask horizon [] last are true_there exhausted =
    let same : horizon + 0 ≡ horizon = omega arith in (subst (λ (n : ℕ). IsTrueOf d q ask n last) same true_there, exhausted, tt)
done_behind d q ask horizon (first ∷ done) last are true_there exhausted =
    let same : horizon + suc (length done) ≡ (horizon + 1) + length done = omega arith in
    (are.0, are.1, done_behind d q ask (horizon + 1) done last are.2 (subst (λ (n : ℕ). IsTrueOf d q ask n last) same true_there) exhausted)

done_events_behind : (horizon : ℕ) (done : List Horizon) (last : Horizon) →
    done_events horizon (done ++ last ∷ []) ≡ (done_events horizon done ++ horizon_events (horizon + length done) last) ++ said_of (horizon + length done) last
done_events_behind horizon [] last =
    append-nil (horizon_events horizon last ++ said_of horizon last)
    ∙ ap (λ (n : ℕ). horizon_events n last ++ said_of n last) (omega arith)
done_events_behind horizon (first ∷ done) last =
    ap (λ (l : List Told). (horizon_events horizon first ++ said_of horizon first) ++ l) (done_events_behind (horizon + 1) done last)
    ∙ ap (λ (n : ℕ). (horizon_events horizon first ++ said_of horizon first) ++ ((done_events (horizon + 1) done ++ horizon_events n last) ++ said_of n last)) (omega arith)
    ∙ sym (append_assoc (horizon_events horizon first ++ said_of horizon first) (done_events (horizon + 1) done ++ horizon_events (horizon + suc (length done)) last)
    (said_of (horizon + suc (length done)) last))
    ∙ ap (λ (l : List Told). l ++ said_of (horizon + suc (length done)) last)
    (sym (append_assoc (horizon_events horizon first ++ said_of horizon first) (done_events (horizon + 1) done) (horizon_events (horizon + suc (length done)) last)))

module _ (d : Description) (q : Query) (ask : Ask) where
  abbrev first_of : ℕ
  first_of = first_horizon q ask.after

  abbrev last_of : ℕ
  last_of = last_horizon q ask.after

  -- a run that has not ended stands at this horizon, and these are its events
  pub record IsRunning (horizon : ℕ) (given : List Told) (done : List Horizon) (next : Option Horizon) : Type 0 where
    pub fair : IsFairRun d q ask (run_at done next None)
    pub given_is : given ≡ events_of first_of (run_at done next None)
    pub horizon_is : horizon ≡ first_of + length done

  pub running : (run : Run) (next : Option Horizon) (horizon : ℕ) (given : List Told) → IsFairRun d q ask run → given ≡ events_of first_of run →
      horizon ≡ first_of + length run.done → run.next ≡ next → run.ending ≡ None → IsRunning horizon given run.done next
  running run next horizon given fair given_is horizon_is next_is ending_is =
      let same : run ≡ run_at run.done next None = ap₂ (λ (n : Option Horizon) (e : Option Ending). run_at run.done n e) next_is ending_is in
      record {
        fair = subst (λ (r : Run). IsFairRun d q ask r) same fair;
        given_is = given_is ∙ ap (λ (r : Run). events_of first_of r) same;
        horizon_is = horizon_is;
      }

  module _ (horizon : ℕ) (given : List Told) (done : List Horizon) where
    pub true_there : (now : Horizon) → IsRunning horizon given done (Some now) → (horizon ≤ last_of) × IsTrueOf d q ask horizon now
    true_there now is = subst (λ (n : ℕ). (n ≤ last_of) × IsTrueOf d q ask n now) (sym is.horizon_is) is.fair.next

    pub within_there : (next : Option Horizon) → IsRunning horizon given done next → horizon ≤ last_of + 1
    within_there next is = subst (λ (n : ℕ). n ≤ last_of + 1) (sym is.horizon_is) is.fair.within

    fair_there : (old : Option Horizon) (new : Horizon) → IsRunning horizon given done old → horizon ≤ last_of → IsTrueOf d q ask horizon new →
        IsFairRun d q ask (run_at done (Some new) None)
    fair_there old new is low now_true = record {
      done = is.fair.done;
      next = subst (λ (n : ℕ). (n ≤ last_of) × IsTrueOf d q ask n new) is.horizon_is (low, now_true);
      within = is.fair.within;
      ending = tt;
    }

    -- one event more of the horizon
    pub goes_on : (old new : Horizon) (event : Told) → IsRunning horizon given done (Some old) → IsTrueOf d q ask horizon new →
        horizon_events horizon new ≡ horizon_events horizon old ++ event ∷ [] → IsRunning horizon (given ++ event ∷ []) done (Some new)
    goes_on old new event is now_true events_are = record {
      fair = fair_there (Some old) new is (true_there old is).0 now_true;
      given_is =
          let here : horizon_events (first_of + length done) new ≡ horizon_events (first_of + length done) old ++ event ∷ [] =
          subst (λ (n : ℕ). horizon_events n new ≡ horizon_events n old ++ event ∷ []) is.horizon_is events_are in
          ap (λ (l : List Told). l ++ event ∷ []) is.given_is ∙ one_more (done_events first_of done) (horizon_events (first_of + length done) old)
          (horizon_events (first_of + length done) new) event here;
      horizon_is = is.horizon_is;
    }
      where
        one_more : (front old new : List Told) (event : Told) → new ≡ old ++ event ∷ [] →
            ((front ++ (old ++ [])) ++ []) ++ event ∷ [] ≡ (front ++ (new ++ [])) ++ []
        one_more front old new event is =
            ap (λ (l : List Told). l ++ event ∷ []) (append-nil (front ++ (old ++ [])) ∙ ap (λ (l : List Told). front ++ l) (append-nil old))
            ∙ append_assoc front old (event ∷ [])
            ∙ ap (λ (l : List Told). front ++ l) (sym is)
            ∙ sym (append-nil (front ++ (new ++ [])) ∙ ap (λ (l : List Told). front ++ l) (append-nil new))

    -- the first event of a horizon
    pub begins : (new : Horizon) (event : Told) → IsRunning horizon given done None → horizon ≤ last_of → IsTrueOf d q ask horizon new →
        horizon_events horizon new ≡ event ∷ [] → IsRunning horizon (given ++ event ∷ []) done (Some new)
    begins new event is low now_true events_are = record {
      fair = fair_there None new is low now_true;
      given_is =
          let here : horizon_events (first_of + length done) new ≡ event ∷ [] = subst (λ (n : ℕ). horizon_events n new ≡ event ∷ []) is.horizon_is events_are in
          ap (λ (l : List Told). l ++ event ∷ []) (is.given_is ∙ without_ends (done_events first_of done))
          ∙ ap (λ (l : List Told). done_events first_of done ++ l) (sym (append-nil (horizon_events (first_of + length done) new) ∙ here))
          ∙ sym (append-nil (done_events first_of done ++ (horizon_events (first_of + length done) new ++ [])));
      horizon_is = is.horizon_is;
    }

    -- the horizon is done with
    pub passes : (now : Horizon) (event : Told) → IsRunning horizon given done (Some now) → IsExhausted ask now → said_of horizon now ≡ event ∷ [] →
        IsRunning (horizon + 1) (given ++ event ∷ []) (done ++ now ∷ []) None
    passes now event is exhausted said =
        let there = true_there now is in
        let longer : first_of + length (done ++ now ∷ []) ≡ horizon + 1 = let push = length_push done now in let same = is.horizon_is in omega arith in
        record {
          fair = record {
            done = done_behind d q ask first_of done now is.fair.done is.fair.next.1 exhausted;
            next = tt;
            within = subst (λ (n : ℕ). n ≤ last_of + 1) (sym longer) (let low : horizon ≤ last_of = there.0 in omega arith);
            ending = tt;
          };
          given_is =
              let here : said_of (first_of + length done) now ≡ event ∷ [] = subst (λ (n : ℕ). said_of n now ≡ event ∷ []) is.horizon_is said in
              ap (λ (l : List Told). l ++ event ∷ []) (is.given_is
              ∙ append-nil (done_events first_of done ++ (horizon_events (first_of + length done) now ++ []))
              ∙ ap (λ (l : List Told). done_events first_of done ++ l) (append-nil (horizon_events (first_of + length done) now)))
              ∙ ap (λ (l : List Told). (done_events first_of done ++ horizon_events (first_of + length done) now) ++ l) (sym here)
              ∙ sym (done_events_behind first_of done now)
              ∙ sym (without_ends (done_events first_of (done ++ now ∷ [])));
          horizon_is = sym longer;
        }

    ended_events : (next : Option Horizon) (ending : Ending) → IsRunning horizon given done next →
        given ++ told (events.Ended ending) ∷ [] ≡ events_of first_of (run_at done next (Some ending))
    ended_events next ending is =
        ap (λ (l : List Told). l ++ told (events.Ended ending) ∷ []) (is.given_is ∙ append-nil (done_events first_of done ++ flat_map (horizon_events (first_of + length done)) (optional next)))

    -- the run ends within the horizon, or behind the last one
    pub ends_within : (now : Horizon) (ending : Ending) → IsRunning horizon given done (Some now) → MayEndWithin ask horizon now ending →
        IsFairRun d q ask (run_at done (Some now) (Some ending)) × (given ++ told (events.Ended ending) ∷ [] ≡ events_of first_of (run_at done (Some now) (Some ending)))
    ends_within now ending is may = (
      record {
        done = is.fair.done;
        next = is.fair.next;
        within = is.fair.within;
        ending = subst (λ (n : ℕ). MayEndWithin ask n now ending) is.horizon_is may;
      },
      ended_events (Some now) ending is,
    )

    pub ends_behind : (ending : Ending) → IsRunning horizon given done None → horizon ≡ last_of + 1 → MayEndBehind q ask done ending →
        IsFairRun d q ask (run_at done None (Some ending)) × (given ++ told (events.Ended ending) ∷ [] ≡ events_of first_of (run_at done None (Some ending)))
    ends_behind ending is past may = (
      record { done = is.fair.done; next = tt; within = is.fair.within; ending = (sym is.horizon_is ∙ past, may) },
      ended_events None ending is,
    )
