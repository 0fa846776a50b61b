-- A session that goes on: where it stands behind each of its steps.
use Rattle.std.proofs.Common.{◌≡◌, ◌≢◌, ◌∙◌, ℕ, ◌+◌, ◌<◌, ◌≤◌, ◌⊎◌, inl, inr, Bool, true, false, List, [], ◌∷◌, ◌++◌, length, map, Option, Some, None, refl, sym, subst, ap, arith, append-nil}
use Rattle.std.specs.Prelude.{Contains, IfSome, IsSome, IsNone, ◌||◌, if◌then◌else◌, is_some}
use Rattle.std.specs.List.{AllByRecursion, list_any}
use Rattle.std.proofs.lemmas.List.{length_push}
use Rattle.std.proofs.lemmas.List.Elements.{Contains-append_right}
use Rattle.std.proofs.lemmas.List.Folds.{list_any-append}
use Rattle.cc_cdcl.specs.Solvers.{SolverView, Found, AddsDerived}
use Rattle.cc_clauses.specs.RowsOf.{IsLeastRowOf}
use Rattle.std.proofs.lemmas.Bool.{false≢true}
use Rattle.cc_defs.specs.declared.event.Ending.{Ending}
use Rattle.cc_defs.specs.declared.event.Ending.TheVariants as endings
use Rattle.cc_defs.specs.declared.event.Event.TheVariants as events
use Rattle.cc_defs.specs.declared.event.Told.{Told}
use Rattle.cc_defs.specs.declared.lists.Key.{Key}
use Rattle.cc_defs.specs.declared.log.EndWord.{EndWord}
use Rattle.cc_defs.specs.declared.log.EndWord.TheVariants as words
use Rattle.cc_defs.specs.declared.log.LogLine.TheVariants as lines
use Rattle.cc_defs.specs.Assignments.{IsEarned}
use Rattle.cc_defs.specs.Clauses.{Literal}
use Rattle.cc_defs.specs.Description.{Description}
use Rattle.cc_defs.specs.Histories.{AreFirst}
use Rattle.cc_defs.specs.Resolved.{Query}
use Rattle.cc_defs.specs.Runs.{Ask, Step, Derive, Tell, Section, Horizon, Histories, Conditions, Claim, Failure, AreDone, EndsWith, MayEndBehind, MayEndWithin, IsFairRun, IsWithoutConditions, axioms_of, counted, counted_in, events_of, first_horizon, horizon_events, key_row, last_horizon, logged, rows_of, section_events, told, told_row}
use Rattle.cc_defs.specs.Sections.{Axioms, HasNoEmpty, row_denial}
use Rattle.cc_kernel.specs.declared.kernel.Origin.TheVariants as origins
use Rattle.cc_kernel.specs.Kernels.{Entry, added, axiom_of, clauses_of, derived_count}
use Rattle.cc_lists.specs.Sections.{section_of, open_section, rows_in}
use Rattle.cc_lists.proofs.Members.{in_first, in_none}
use Rattle.cc_query.specs.declared.phase.Part.{Part}
use Rattle.cc_query.specs.declared.phase.Part.TheVariants as parts
use Rattle.cc_query.specs.declared.phase.Phase.{Phase}
use Rattle.cc_query.specs.declared.phase.Phase.TheVariants as phases
use Rattle.cc_query.specs.Laws.{SearchLaws as Laws}
use Rattle.cc_query.specs.Parts.{axioms_at, is_conditions, told_by, MayAsk, TellsTrue}
use Rattle.cc_query.specs.Sessions.{SessionView, After, Awaits, Holds, HasTooMany, IsClosed, IsOpened, IsRefuted, IsSearched, IsTold, Opens, RowsAreHistories, has_conditions}
use Rattle.cc_query.proofs.Holding.{axioms_alone, clauses_held, counted_as_derived, counted_within, holds_block, holds_line}
use Rattle.cc_query.proofs.Opened.{as_many, nothing_behind}
use Rattle.cc_query.proofs.PartsTold.{IsGoingOn, asked_of, asked_true, begun, counterexample_first, denied_on, empty_true, found_true, going_on, going_on_told, line_on, next_first, open_true, spent_true, telling_true, true_of}
use Rattle.cc_query.proofs.Running.{IsRunning, begins, block_event, end_event, ends_behind, ends_within, goes_on, history_event, horizon_event, line_event, passes, run_at, running, true_there, within_there}
use Rattle.cc_query.proofs.Told.{still_fewer}
use Rattle.cc_query.proofs.Steps.{added_behind, counted_more, rows_kept, rows_more}

-- what is asked goes with the query
pub record IsAskFor (q : Query) (ask : Ask) : Type 0 where
  pub key : IsSome q.claim → ask.after ≡ None
  pub count : IfSome ask.count (λ most. 0 < most)

claimed : (d : Description) (q : Query) (ask : Ask) (horizon : ℕ) (part : Part) (before : Section) → MayAsk d q ask horizon part before → part ≢ parts.Histories →
    IsSome q.claim
claimed d q ask horizon parts.Histories before may other = absurd (other refl)
claimed d q ask horizon parts.Conditions before may other = may
claimed d q ask horizon parts.Claim before may other = may.0

pub earned_none_empty : (clauses : List (List Literal)) (clause : List Literal) → IsEarned clauses clause → HasNoEmpty clauses
earned_none_empty clauses clause earned there = earned.closed.none_failed [] there (λ literal none. absurd (in_none literal none))

-- a session behind a run that has not ended
pub after_run : (d : Description) (q : Query) (s : SessionView) (given : List Told) (done : List Horizon) (next : Option Horizon) →
    IsRunning d q s.ask s.horizon given done next → s.met ≡ list_any has_conditions done → Awaits d q s (run_at done next None) s.phase → After d q s given
after_run d q s given done next is met awaits =
    (run_at done next None, is.fair, is.given_is, record { horizon = is.horizon_is; met = met; awaits = awaits })

no_items : {A : Type 0} (xs : List A) → length xs ≡ 0 → xs ≡ []
no_items [] is = refl
no_items (x ∷ xs) is = absurd (omega arith)

or_false : (b : Bool) → b ≡ (b || false)
or_false true = refl
or_false false = refl

or_true : (b : Bool) → true ≡ (b || true)
or_true true = refl
or_true false = refl

-- behind the last horizon of a listing there is no key
no_key_behind : (d : Description) (q : Query) (ask : Ask) (horizon : ℕ) (done : List Horizon) (key : Option Key) → ask.after ≡ key →
    AreDone d q ask (first_horizon q key) done → IsNone q.claim → horizon ≡ first_horizon q key + length done → last_horizon q key < horizon → IsNone ask.after
no_key_behind d q ask horizon done None is are claim at past = ap (λ (k : Option Key). is_some k) is
no_key_behind d q ask horizon [] (Some key) is are claim at past = absurd (omega arith)
no_key_behind d q ask horizon (Histories section ∷ done) (Some key) is are claim at past = are.1.2
no_key_behind d q ask horizon (Conditions section ∷ done) (Some key) is are claim at past = absurd (false≢true (sym claim ∙ are.0.0))
no_key_behind d q ask horizon (Claim conditions section ∷ done) (Some key) is are claim at past = absurd (false≢true (sym claim ∙ are.0.0))
no_key_behind d q ask horizon (Failure conditions section row ∷ done) (Some key) is are claim at past = absurd (are.1)

-- no path met the conditions at the horizons that are done with, or one did
claimed_done : (d : Description) (q : Query) (ask : Ask) (done : List Horizon) (horizon : ℕ) → AreDone d q ask horizon done → IsSome q.claim →
    list_any has_conditions done ≡ false → AllByRecursion IsWithoutConditions done
claimed_done d q ask [] horizon are claim none = tt
claimed_done d q ask (Histories section ∷ done) horizon are claim none = absurd (false≢true (sym are.0.0 ∙ claim))
claimed_done d q ask (Conditions section ∷ done) horizon are claim none = (tt, claimed_done d q ask done (horizon + 1) are.2 claim none)
claimed_done d q ask (Claim conditions section ∷ done) horizon are claim none = absurd cc
claimed_done d q ask (Failure conditions section row ∷ done) horizon are claim none = absurd cc

some_met : (done : List Horizon) → list_any has_conditions done ≡ true → AllByRecursion IsWithoutConditions done → ⊥
some_met [] some all = absurd cc
some_met (Histories section ∷ done) some all = absurd all.0
some_met (Conditions section ∷ done) some all = some_met done some all.1
some_met (Claim conditions section ∷ done) some all = absurd all.0
some_met (Failure conditions section row ∷ done) some all = absurd all.0

claim_ends : (d : Description) (q : Query) (ask : Ask) (done : List Horizon) (horizon : ℕ) (met : Bool) → AreDone d q ask horizon done → IsSome q.claim →
    met ≡ list_any has_conditions done → MayEndBehind q ask done (if met then endings.ClaimHolds else endings.ClaimEmpty)
claim_ends d q ask done horizon true are claim is = (claim, some_met done (sym is))
claim_ends d q ask done horizon false are claim is = (claim, claimed_done d q ask done horizon are claim (sym is))

module _ (laws : Laws) (d : Description) (q : Query) (s : SessionView) (fits : IsAskFor q s.ask) where
  abbrev form_of : Part → Axioms
  form_of part = axioms_at d q s.ask s.horizon part

  -- ---- a section that is searched

  pub record IsGoing (given : List Told) (part : Part) (solver : SolverView) (listed : ℕ) : Type 0 where
    pub done : List Horizon
    pub steps : List Step
    pub before : Section
    pub is : IsRunning d q s.ask s.horizon given done (Some (told_by part before (open_section steps)))
    pub met : s.met ≡ list_any has_conditions done
    pub asks : MayAsk d q s.ask s.horizon part before
    pub on : IsGoingOn d q s.ask s.horizon part steps (clauses_of solver.kernel)
    pub holds : Holds (form_of part) steps solver
    pub rows : RowsAreHistories d q s.ask s.horizon part
    pub listed_is : listed ≡ length (rows_in steps)

  pub going : (given : List Told) (part : Part) (solver : SolverView) (listed : ℕ) → s.phase ≡ phases.Searching part solver listed → After d q s given →
      IsGoing given part solver listed
  going given part solver listed phase_is (run, fair, given_is, stands) =
      let awaits : (run.ending ≡ None) × IsSearched d q s run part solver listed = subst (λ (p : Phase). Awaits d q s run p) phase_is stands.awaits in
      let searched = awaits.1 in
      let is = running d q s.ask run (Some (told_by part searched.before (open_section searched.steps))) s.horizon given fair given_is stands.horizon searched.next awaits.0 in
      let there = true_there d q s.ask s.horizon given run.done (told_by part searched.before (open_section searched.steps)) is in
      let asked = asked_of d q s.ask s.horizon part searched.before (open_section searched.steps) there.1 in
      let on = going_on laws d q s.ask s.horizon part searched.steps
      (λ other. fits.key (claimed d q s.ask s.horizon part searched.before asked.0 other)) asked.1 in
      let same : on.0 ≡ clauses_of solver.kernel = added_behind (form_of part).sizes (form_of part).clauses searched.steps on.0 on.1.told.fair
      ∙ sym (clauses_held (form_of part) searched.steps solver searched.holds) in
      record {
        done = run.done;
        steps = searched.steps;
        before = searched.before;
        is = is;
        met = stands.met;
        asks = asked.0;
        on = subst (λ (clauses : List (List Literal)). IsGoingOn d q s.ask s.horizon part searched.steps clauses) same on.1;
        holds = searched.holds;
        rows = searched.rows;
        listed_is = searched.listed_is;
      }

  pub searching_after : (given : List Told) (done : List Horizon) (steps : List Step) (before : Section) (part : Part) (solver : SolverView) (listed : ℕ) →
      IsRunning d q s.ask s.horizon given done (Some (told_by part before (open_section steps))) → s.met ≡ list_any has_conditions done →
      Holds (form_of part) steps solver → RowsAreHistories d q s.ask s.horizon part → listed ≡ length (rows_in steps) →
      After d q (record s { phase = phases.Searching part solver listed }) given
  searching_after given done steps before part solver listed is met holds rows listed_is =
      after_run d q (record s { phase = phases.Searching part solver listed }) given done (Some (told_by part before (open_section steps))) is met
      (refl, record { steps = steps; before = before; next = refl; holds = holds; rows = rows; listed_is = listed_is })

  -- one derived line more
  line_of : (given : List Told) (part : Part) (solver new : SolverView) (listed : ℕ) (clause : List Literal) → (going : IsGoing given part solver listed) →
      AddsDerived solver.kernel new.kernel clause → (clause ≢ [] → IsEarned (clauses_of solver.kernel) clause) → HasNoEmpty (clauses_of solver.kernel) →
      counted_in (going.steps ++ Derive clause new.kernel.chain ∷ []) ≤ s.ask.budget →
      IsGoingOn d q s.ask s.horizon part (going.steps ++ Derive clause new.kernel.chain ∷ []) (clauses_of solver.kernel ++ clause ∷ [])
      × IsRunning d q s.ask s.horizon (given ++ logged (lines.Derived clause new.kernel.chain) ∷ []) going.done
      (Some (told_by part going.before (open_section (going.steps ++ Derive clause new.kernel.chain ∷ []))))
  line_of given part solver new listed clause going adds earned none most =
      let more : counted_in (going.steps ++ Derive clause new.kernel.chain ∷ []) ≡ counted_in going.steps + counted (Derive clause new.kernel.chain) =
      counted_more going.steps (Derive clause new.kernel.chain) in
      let few : solver.kernel.variables ≤ 4000000 = subst (λ (n : ℕ). n ≤ 4000000) (sym going.holds.variables) going.holds.few in
      let short : length new.kernel.chain ≤ 8000001 = let chain = adds.short in omega arith in
      let on = line_on laws d q s.ask s.horizon part going.steps (clauses_of solver.kernel) going.on clause new.kernel.chain none
      (record { reached = adds.reached; earned = earned; short = short }) (subst (λ (n : ℕ). n ≤ s.ask.budget) more most) in (
        on,
        goes_on d q s.ask s.horizon given going.done (told_by part going.before (open_section going.steps))
            (told_by part going.before (open_section (going.steps ++ Derive clause new.kernel.chain ∷ []))) (logged (lines.Derived clause new.kernel.chain)) going.is
            (true_of d q s.ask s.horizon part going.before (open_section (going.steps ++ Derive clause new.kernel.chain ∷ [])) going.asks
            (open_true laws d q s.ask s.horizon part (going.steps ++ Derive clause new.kernel.chain ∷ []) (clauses_of solver.kernel ++ clause ∷ []) on))
            (horizon_event part going.before s.horizon (open_section going.steps) (open_section (going.steps ++ Derive clause new.kernel.chain ∷ []))
            (logged (lines.Derived clause new.kernel.chain)) (line_event (is_conditions part) s.horizon going.steps clause new.kernel.chain)),
      )

  pub after_line : (given : List Told) (part : Part) (solver new : SolverView) (listed : ℕ) → s.phase ≡ phases.Searching part solver listed → After d q s given →
      (clause : List Literal) → AddsDerived solver.kernel new.kernel clause → IsEarned (clauses_of solver.kernel) clause →
      derived_count new.kernel.entries ≤ s.ask.budget → new.sizes ≡ solver.sizes →
      After d q (record s { phase = phases.Searching part new listed }) (given ++ logged (lines.Derived clause new.kernel.chain) ∷ [])
  after_line given part solver new listed phase_is after clause adds earned most sizes =
      let here = going given part solver listed phase_is after in
      let holds = holds_line (form_of part) here.steps solver new clause here.holds sizes adds in
      let within : counted_in (here.steps ++ Derive clause new.kernel.chain ∷ []) ≤ s.ask.budget =
      let few = counted_within (form_of part) (here.steps ++ Derive clause new.kernel.chain ∷ []) new holds in omega arith in
      let line = line_of given part solver new listed clause here adds (λ _. earned) (earned_none_empty (clauses_of solver.kernel) clause earned) within in
      searching_after (given ++ logged (lines.Derived clause new.kernel.chain) ∷ []) here.done (here.steps ++ Derive clause new.kernel.chain ∷ []) here.before part new listed
      line.1 here.met holds here.rows
      (here.listed_is ∙ ap (λ (l : List (List ℕ)). length l) (sym (rows_kept here.steps clause new.kernel.chain)))

  -- the empty clause was derived
  pub after_empty_line : (given : List Told) (part : Part) (solver new : SolverView) (listed : ℕ) → s.phase ≡ phases.Searching part solver listed → After d q s given →
      AddsDerived solver.kernel new.kernel [] → HasNoEmpty (clauses_of solver.kernel) →
      After d q (record s { phase = phases.Refuted part listed }) (given ++ logged (lines.Derived [] new.kernel.chain) ∷ [])
  after_empty_line given part solver new listed phase_is after adds none =
      let here = going given part solver listed phase_is after in
      let within : counted_in (here.steps ++ Derive [] new.kernel.chain ∷ []) ≤ s.ask.budget =
      let more = counted_more here.steps (Derive [] new.kernel.chain) in let before = here.on.told.within in omega arith in
      let line = line_of given part solver new listed [] here adds (λ some. absurd (some refl)) none within in
      let there : Contains (clauses_of solver.kernel ++ [] ∷ []) [] = Contains-append_right (clauses_of solver.kernel) ([] ∷ []) [] (in_first [] []) in
      after_run d q (record s { phase = phases.Refuted part listed }) (given ++ logged (lines.Derived [] new.kernel.chain) ∷ []) here.done
      (Some (told_by part here.before (open_section (here.steps ++ Derive [] new.kernel.chain ∷ [])))) line.1 here.met (
        refl,
        record {
          steps = here.steps ++ Derive [] new.kernel.chain ∷ [];
          before = here.before;
          next = refl;
          rows = here.rows;
          empty = subst (λ (clauses : List (List Literal)). Contains clauses [])
              (added_behind (form_of part).sizes (form_of part).clauses (here.steps ++ Derive [] new.kernel.chain ∷ []) (clauses_of solver.kernel ++ [] ∷ []) line.0.told.fair) there;
          listed_is = here.listed_is ∙ ap (λ (l : List (List ℕ)). length l) (sym (rows_kept here.steps [] new.kernel.chain));
        },
      )

  -- ---- a section that ends

  closing : (given : List Told) (part : Part) (done : List Horizon) (steps : List Step) (before : Section) (word : EndWord) →
      IsRunning d q s.ask s.horizon given done (Some (told_by part before (open_section steps))) → MayAsk d q s.ask s.horizon part before →
      TellsTrue d q s.ask s.horizon part (section_of steps None (Some word)) →
      IsRunning d q s.ask s.horizon (given ++ logged (lines.End word) ∷ []) done (Some (told_by part before (section_of steps None (Some word))))
  closing given part done steps before word is asks tells =
      goes_on d q s.ask s.horizon given done (told_by part before (open_section steps)) (told_by part before (section_of steps None (Some word))) (logged (lines.End word)) is
      (true_of d q s.ask s.horizon part before (section_of steps None (Some word)) asks tells)
      (horizon_event part before s.horizon (open_section steps) (section_of steps None (Some word)) (logged (lines.End word))
      (end_event (is_conditions part) s.horizon steps None word))

  told_so_far : (steps : List Step) (listed : ℕ) (word : Option EndWord) → listed ≡ length (rows_in steps) → listed ≡ length (rows_of (section_of steps None word))
  told_so_far steps listed word is = is ∙ ap (λ (l : List (List ℕ)). length l) (sym (append-nil (rows_in steps)))

  pub after_spent : (given : List Told) (part : Part) (solver : SolverView) (listed : ℕ) → s.phase ≡ phases.Searching part solver listed → After d q s given →
      derived_count solver.kernel.entries ≡ s.ask.budget → HasNoEmpty (clauses_of solver.kernel) →
      After d q (record s { phase = phases.Closed part words.Spent listed }) (given ++ logged (lines.End words.Spent) ∷ [])
  after_spent given part solver listed phase_is after all none =
      let here = going given part solver listed phase_is after in
      let tells = spent_true laws d q s.ask s.horizon part here.steps (clauses_of solver.kernel) here.on none
      (counted_as_derived (form_of part) here.steps solver here.holds none ∙ all) in
      after_run d q (record s { phase = phases.Closed part words.Spent listed }) (given ++ logged (lines.End words.Spent) ∷ []) here.done
      (Some (told_by part here.before (section_of here.steps None (Some words.Spent))))
      (closing given part here.done here.steps here.before words.Spent here.is here.asks tells) here.met (
        refl,
        record {
          section = section_of here.steps None (Some words.Spent);
          before = here.before;
          next = refl;
          word_is = refl;
          listed_is = told_so_far here.steps listed (Some words.Spent) here.listed_is;
          found = λ _ is. absurd cc;
        },
      )

  after_empty_of : (given : List Told) (part : Part) (listed : ℕ) (done : List Horizon) (steps : List Step) (before : Section) (clauses : List (List Literal)) →
      IsRunning d q s.ask s.horizon given done (Some (told_by part before (open_section steps))) → s.met ≡ list_any has_conditions done →
      MayAsk d q s.ask s.horizon part before → IsGoingOn d q s.ask s.horizon part steps clauses → RowsAreHistories d q s.ask s.horizon part →
      Contains clauses [] → listed ≡ length (rows_in steps) →
      After d q (record s { phase = phases.Closed part words.Empty listed }) (given ++ logged (lines.End words.Empty) ∷ [])
  after_empty_of given part listed done steps before clauses is met asks on rows there listed_is =
      after_run d q (record s { phase = phases.Closed part words.Empty listed }) (given ++ logged (lines.End words.Empty) ∷ []) done
      (Some (told_by part before (section_of steps None (Some words.Empty))))
      (closing given part done steps before words.Empty is asks (empty_true laws d q s.ask s.horizon part steps clauses on rows there)) met (
        refl,
        record {
          section = section_of steps None (Some words.Empty);
          before = before;
          next = refl;
          word_is = refl;
          listed_is = told_so_far steps listed (Some words.Empty) listed_is;
          found = λ _ is. absurd cc;
        },
      )

  -- one of the clauses was empty
  pub after_empty : (given : List Told) (part : Part) (solver : SolverView) (listed : ℕ) → s.phase ≡ phases.Searching part solver listed → After d q s given →
      Contains (clauses_of solver.kernel) [] → After d q (record s { phase = phases.Closed part words.Empty listed }) (given ++ logged (lines.End words.Empty) ∷ [])
  after_empty given part solver listed phase_is after there =
      let here = going given part solver listed phase_is after in
      after_empty_of given part listed here.done here.steps here.before (clauses_of solver.kernel) here.is here.met here.asks here.on here.rows there here.listed_is

  -- so is one that was derived
  pub after_refuted : (given : List Told) (part : Part) (listed : ℕ) → s.phase ≡ phases.Refuted part listed → After d q s given →
      After d q (record s { phase = phases.Closed part words.Empty listed }) (given ++ logged (lines.End words.Empty) ∷ [])
  after_refuted given part listed phase_is (run, fair, given_is, stands) =
      let awaits : (run.ending ≡ None) × IsRefuted d q s run part listed = subst (λ (p : Phase). Awaits d q s run p) phase_is stands.awaits in
      let refuted = awaits.1 in
      let is = running d q s.ask run (Some (told_by part refuted.before (open_section refuted.steps))) s.horizon given fair given_is stands.horizon refuted.next awaits.0 in
      let there = true_there d q s.ask s.horizon given run.done (told_by part refuted.before (open_section refuted.steps)) is in
      let asked = asked_of d q s.ask s.horizon part refuted.before (open_section refuted.steps) there.1 in
      let on = going_on laws d q s.ask s.horizon part refuted.steps
      (λ other. fits.key (claimed d q s.ask s.horizon part refuted.before asked.0 other)) asked.1 in
      after_empty_of given part listed run.done refuted.steps refuted.before on.0 is stands.met asked.0 on.1 refuted.rows
      (subst (λ (clauses : List (List Literal)). Contains clauses [])
      (sym (added_behind (form_of part).sizes (form_of part).clauses refuted.steps on.0 on.1.told.fair)) refuted.empty) refuted.listed_is

  -- ---- rows that were found

  pub after_found : (given : List Told) (part : Part) (solver : SolverView) (listed : ℕ) → part ≢ parts.Histories → s.phase ≡ phases.Searching part solver listed →
      After d q s given → (row : List ℕ) → IsLeastRowOf solver.sizes (clauses_of solver.kernel) row →
      After d q (record s { row = row; phase = phases.Closed part words.Found listed }) (given ++ logged (lines.End words.Found) ∷ [])
  after_found given part solver listed other phase_is after row least =
      let here = going given part solver listed phase_is after in
      let least_of : IsLeastRowOf (form_of part).sizes (clauses_of solver.kernel) row =
      subst (λ (sizes : List ℕ). IsLeastRowOf sizes (clauses_of solver.kernel) row) here.holds.sizes least in
      let tells = found_true laws d q s.ask s.horizon part other here.steps (clauses_of solver.kernel) here.on here.rows row least_of in
      after_run d q (record s { row = row; phase = phases.Closed part words.Found listed }) (given ++ logged (lines.End words.Found) ∷ []) here.done
      (Some (told_by part here.before (section_of here.steps None (Some words.Found))))
      (closing given part here.done here.steps here.before words.Found here.is here.asks tells) here.met (
        refl,
        record {
          section = section_of here.steps None (Some words.Found);
          before = here.before;
          next = refl;
          word_is = refl;
          listed_is = told_so_far here.steps listed (Some words.Found) here.listed_is;
          found = λ is _. first_of part is here.steps here.on here.rows least_of;
        },
      )
    where
      first_of : (p : Part) → p ≡ parts.Claim → (steps : List Step) → IsGoingOn d q s.ask s.horizon p steps (clauses_of solver.kernel) →
          RowsAreHistories d q s.ask s.horizon p → IsLeastRowOf (form_of p).sizes (clauses_of solver.kernel) row → AreFirst d q s.horizon None (row ∷ [])
      first_of parts.Histories is steps on rows low = absurd cc
      first_of parts.Conditions is steps on rows low = absurd cc
      first_of parts.Claim is steps on rows low = counterexample_first laws d q s.ask s.horizon steps (clauses_of solver.kernel) on rows row low

  pub after_history : (given : List Told) (solver new : SolverView) (listed : ℕ) → s.phase ≡ phases.Searching parts.Histories solver listed → After d q s given →
      (row : List ℕ) → IsLeastRowOf solver.sizes (clauses_of solver.kernel) row → new ≡ record solver { standing = Found row } →
      After d q (record s { row = row; phase = phases.Denying new (listed + 1) }) (given ++ told_row (events.History s.horizon (listed + 1)) row ∷ [])
  after_history given solver new listed phase_is after row least new_is =
      let here = going given parts.Histories solver listed phase_is after in
      let least_of : IsLeastRowOf (form_of parts.Histories).sizes (clauses_of solver.kernel) row =
      subst (λ (sizes : List ℕ). IsLeastRowOf sizes (clauses_of solver.kernel) row) here.holds.sizes least in
      let tells = telling_true laws d q s.ask s.horizon here.steps (clauses_of solver.kernel) here.on here.rows row least_of in
      let is = goes_on d q s.ask s.horizon given here.done (Histories (open_section here.steps)) (Histories (section_of here.steps (Some row) None))
      (told_row (events.History s.horizon (listed + 1)) row) here.is (here.asks, tells)
      (subst (λ (n : ℕ). section_events false s.horizon (section_of here.steps (Some row) None)
      ≡ section_events false s.horizon (open_section here.steps) ++ told_row (events.History s.horizon (n + 1)) row ∷ []) (sym here.listed_is)
      (history_event s.horizon here.steps row)) in
      after_run d q (record s { row = row; phase = phases.Denying new (listed + 1) }) (given ++ told_row (events.History s.horizon (listed + 1)) row ∷ []) here.done
      (Some (Histories (section_of here.steps (Some row) None))) is here.met (
        refl,
        record {
          steps = here.steps;
          next = refl;
          holds = subst (λ (v : SolverView). Holds (form_of parts.Histories) here.steps v) (sym new_is)
              (record { sizes = here.holds.sizes; variables = here.holds.variables; few = here.holds.few; entries = here.holds.entries });
          rows = here.rows;
          least = subst (λ (v : SolverView). IsLeastRowOf v.sizes (clauses_of v.kernel) row) (sym new_is) least;
          standing = ap (λ (v : SolverView). v.standing) new_is;
          listed_is = ap (λ (n : ℕ). n + 1) here.listed_is;
        },
      )

  -- ---- a history that was told

  pub record IsTelling (given : List Told) (solver : SolverView) (listed : ℕ) : Type 0 where
    pub done : List Horizon
    pub steps : List Step
    pub is : IsRunning d q s.ask s.horizon given done (Some (Histories (section_of steps (Some s.row) None)))
    pub met : s.met ≡ list_any has_conditions done
    pub asks : IsNone q.claim
    pub on : IsGoingOn d q s.ask s.horizon parts.Histories steps (clauses_of solver.kernel)
    pub holds : Holds (form_of parts.Histories) steps solver
    pub rows : RowsAreHistories d q s.ask s.horizon parts.Histories
    pub least : IsLeastRowOf (form_of parts.Histories).sizes (clauses_of solver.kernel) s.row
    pub standing : solver.standing ≡ Found s.row
    pub listed_is : listed ≡ length (rows_in steps) + 1

  pub telling : (given : List Told) (solver : SolverView) (listed : ℕ) → s.phase ≡ phases.Denying solver listed → After d q s given → IsTelling given solver listed
  telling given solver listed phase_is (run, fair, given_is, stands) =
      let awaits : (run.ending ≡ None) × IsTold d q s run solver listed = subst (λ (p : Phase). Awaits d q s run p) phase_is stands.awaits in
      let told = awaits.1 in
      let is = running d q s.ask run (Some (Histories (section_of told.steps (Some s.row) None))) s.horizon given fair given_is stands.horizon told.next awaits.0 in
      let there = true_there d q s.ask s.horizon given run.done (Histories (section_of told.steps (Some s.row) None)) is in
      let on = going_on_told laws d q s.ask s.horizon told.steps s.row there.1.1 in
      let same : on.0 ≡ clauses_of solver.kernel = added_behind (form_of parts.Histories).sizes (form_of parts.Histories).clauses told.steps on.0 on.1.told.fair
      ∙ sym (clauses_held (form_of parts.Histories) told.steps solver told.holds) in
      record {
        done = run.done;
        steps = told.steps;
        is = is;
        met = stands.met;
        asks = there.1.0;
        on = subst (λ (clauses : List (List Literal)). IsGoingOn d q s.ask s.horizon parts.Histories told.steps clauses) same on.1;
        holds = told.holds;
        rows = told.rows;
        least = subst (λ (sizes : List ℕ). IsLeastRowOf sizes (clauses_of solver.kernel) s.row) told.holds.sizes told.least;
        standing = told.standing;
        listed_is = told.listed_is;
      }

  pub after_asked : (given : List Told) (solver : SolverView) (listed : ℕ) → s.phase ≡ phases.Denying solver listed → After d q s given →
      s.ask.count ≡ Some listed → After d q (record s { phase = phases.Closed parts.Histories words.Found listed }) (given ++ logged (lines.End words.Found) ∷ [])
  after_asked given solver listed phase_is after all =
      let here = telling given solver listed phase_is after in
      let tells = asked_true laws d q s.ask s.horizon here.steps (clauses_of solver.kernel) here.on here.rows s.row here.least
      (all ∙ ap (λ (n : ℕ). Some n) here.listed_is) in
      after_run d q (record s { phase = phases.Closed parts.Histories words.Found listed }) (given ++ logged (lines.End words.Found) ∷ []) here.done
      (Some (Histories (section_of here.steps (Some s.row) (Some words.Found))))
      (goes_on d q s.ask s.horizon given here.done (Histories (section_of here.steps (Some s.row) None)) (Histories (section_of here.steps (Some s.row) (Some words.Found)))
      (logged (lines.End words.Found)) here.is (here.asks, tells) (end_event false s.horizon here.steps (Some s.row) words.Found)) here.met (
        refl,
        record {
          section = section_of here.steps (Some s.row) (Some words.Found);
          before = open_section [];
          next = refl;
          word_is = refl;
          listed_is = here.listed_is ∙ sym (length_push (rows_in here.steps) s.row);
          found = λ is. absurd cc;
        },
      )

  pub after_block : (given : List Told) (solver new : SolverView) (listed : ℕ) → s.phase ≡ phases.Denying solver listed → After d q s given →
      (s.ask.count ≡ Some listed → ⊥) → new.sizes ≡ solver.sizes → new.kernel ≡ added solver.kernel (row_denial solver.sizes s.row) origins.Block →
      After d q (record s { phase = phases.Searching parts.Histories new listed }) (given ++ logged (lines.Block s.row) ∷ [])
  after_block given solver new listed phase_is after other sizes blocked =
      let here = telling given solver listed phase_is after in
      let fewer = still_fewer s.ask.count (length (rows_in here.steps)) here.on.may (λ is. other (is ∙ ap (λ (n : ℕ). Some n) (sym here.listed_is))) in
      let on = denied_on laws d q s.ask s.horizon here.steps (clauses_of solver.kernel) here.on here.rows s.row here.least fewer in
      searching_after (given ++ logged (lines.Block s.row) ∷ []) here.done (here.steps ++ Tell s.row ∷ []) (open_section []) parts.Histories new listed
      (goes_on d q s.ask s.horizon given here.done (Histories (section_of here.steps (Some s.row) None)) (Histories (open_section (here.steps ++ Tell s.row ∷ [])))
      (logged (lines.Block s.row)) here.is
      (here.asks, open_true laws d q s.ask s.horizon parts.Histories (here.steps ++ Tell s.row ∷ []) (clauses_of solver.kernel ++ row_denial (form_of parts.Histories).sizes s.row ∷ []) on)
      (block_event s.horizon here.steps s.row)) here.met
      (holds_block (form_of parts.Histories) here.steps solver new s.row here.holds sizes blocked) here.rows
      (here.listed_is ∙ sym (ap (λ (l : List (List ℕ)). length l) (rows_more here.steps s.row) ∙ length_push (rows_in here.steps) s.row))

  -- ---- a section that begins

  begun_true : (part : Part) (before : Section) → MayAsk d q s.ask s.horizon part before → TellsTrue d q s.ask s.horizon part (open_section [])
  begun_true part before asks = open_true laws d q s.ask s.horizon part [] (form_of part).clauses
      (begun laws d q s.ask s.horizon part (λ other. fits.key (claimed d q s.ask s.horizon part before asks other)) fits.count)

  opening_asks : (part : Part) (next : Option Horizon) → Opens q part next →
      MayAsk d q s.ask s.horizon part (open_section []) × (next ≡ None)
      × (horizon_events s.horizon (told_by part (open_section []) (open_section [])) ≡ logged (lines.Section (is_conditions part) s.horizon) ∷ [])
  opening_asks parts.Histories next opens = (opens.0, opens.1, refl)
  opening_asks parts.Conditions next opens = (opens.0, opens.1, refl)
  opening_asks parts.Claim next opens = absurd opens

  pub after_heading : (given : List Told) (part : Part) (solver : SolverView) → s.phase ≡ phases.Opening part → After d q s given →
      s.horizon ≤ last_horizon q s.ask.after → Holds (form_of part) [] solver → RowsAreHistories d q s.ask s.horizon part →
      After d q (record s { phase = phases.Searching part solver 0 }) (given ++ logged (lines.Section (is_conditions part) s.horizon) ∷ [])
  after_heading given part solver phase_is (run, fair, given_is, stands) low holds rows =
      let awaits : (run.ending ≡ None) × Opens q part run.next = subst (λ (p : Phase). Awaits d q s run p) phase_is stands.awaits in
      let asks = opening_asks part run.next awaits.1 in
      let is = running d q s.ask run None s.horizon given fair given_is stands.horizon asks.1 awaits.0 in
      searching_after (given ++ logged (lines.Section (is_conditions part) s.horizon) ∷ []) run.done [] (open_section []) part solver 0
      (begins d q s.ask s.horizon given run.done (told_by part (open_section []) (open_section [])) (logged (lines.Section (is_conditions part) s.horizon)) is low
      (true_of d q s.ask s.horizon part (open_section []) (open_section []) asks.0 (begun_true part (open_section []) asks.0)) asks.2)
      stands.met holds rows refl

  -- ---- a section that has ended

  pub record IsClosing (given : List Told) (part : Part) (word : EndWord) (listed : ℕ) : Type 0 where
    pub done : List Horizon
    pub section : Section
    pub before : Section
    pub is : IsRunning d q s.ask s.horizon given done (Some (told_by part before section))
    pub met : s.met ≡ list_any has_conditions done
    pub low : s.horizon ≤ last_horizon q s.ask.after
    pub asks : MayAsk d q s.ask s.horizon part before
    pub tells : TellsTrue d q s.ask s.horizon part section
    pub word_is : EndsWith word section
    pub listed_is : listed ≡ length (rows_of section)
    pub found : part ≡ parts.Claim → word ≡ words.Found → AreFirst d q s.horizon None (s.row ∷ [])

  pub closed : (given : List Told) (part : Part) (word : EndWord) (listed : ℕ) → s.phase ≡ phases.Closed part word listed → After d q s given →
      IsClosing given part word listed
  closed given part word listed phase_is (run, fair, given_is, stands) =
      let awaits : (run.ending ≡ None) × IsClosed d q s run part word listed = subst (λ (p : Phase). Awaits d q s run p) phase_is stands.awaits in
      let shut = awaits.1 in
      let is = running d q s.ask run (Some (told_by part shut.before shut.section)) s.horizon given fair given_is stands.horizon shut.next awaits.0 in
      let there = true_there d q s.ask s.horizon given run.done (told_by part shut.before shut.section) is in
      let asked = asked_of d q s.ask s.horizon part shut.before shut.section there.1 in
      record {
        done = run.done;
        section = shut.section;
        before = shut.before;
        is = is;
        met = stands.met;
        low = there.0;
        asks = asked.0;
        tells = asked.1;
        word_is = shut.word_is;
        listed_is = shut.listed_is;
        found = shut.found;
      }

  pub after_claim_heading : (given : List Told) (solver : SolverView) (listed : ℕ) → s.phase ≡ phases.Closed parts.Conditions words.Found listed → After d q s given →
      Holds (form_of parts.Claim) [] solver → RowsAreHistories d q s.ask s.horizon parts.Claim →
      After d q (record s { phase = phases.Searching parts.Claim solver 0 }) (given ++ logged (lines.Section false s.horizon) ∷ [])
  after_claim_heading given solver listed phase_is after holds rows =
      let here = closed given parts.Conditions words.Found listed phase_is after in
      let asks : MayAsk d q s.ask s.horizon parts.Claim here.section = (here.asks, here.tells, here.word_is) in
      searching_after (given ++ logged (lines.Section false s.horizon) ∷ []) here.done [] here.section parts.Claim solver 0
      (goes_on d q s.ask s.horizon given here.done (Conditions here.section) (Claim here.section (open_section [])) (logged (lines.Section false s.horizon)) here.is
      (true_of d q s.ask s.horizon parts.Claim here.section (open_section []) asks (begun_true parts.Claim here.section asks)) refl)
      here.met holds rows refl

  pub after_counterexample : (given : List Told) (listed : ℕ) → s.phase ≡ phases.Closed parts.Claim words.Found listed → After d q s given →
      After d q (record s { phase = phases.Failing }) (given ++ told_row (events.Counterexample s.horizon) s.row ∷ [])
  after_counterexample given listed phase_is after =
      let here = closed given parts.Claim words.Found listed phase_is after in
      after_run d q (record s { phase = phases.Failing }) (given ++ told_row (events.Counterexample s.horizon) s.row ∷ []) here.done
      (Some (Failure here.before here.section s.row))
      (goes_on d q s.ask s.horizon given here.done (Claim here.before here.section) (Failure here.before here.section s.row)
      (told_row (events.Counterexample s.horizon) s.row) here.is (here.asks.0, here.asks.1, here.asks.2, here.tells, here.word_is, here.found refl refl) refl)
      here.met (refl, (here.before, here.section, refl))

  met_more : (done : List Horizon) (now : Horizon) → s.met ≡ list_any has_conditions done →
      list_any has_conditions (done ++ now ∷ []) ≡ (s.met || list_any has_conditions (now ∷ []))
  met_more done now is = list_any-append has_conditions done (now ∷ []) ∙ ap (λ (met : Bool). met || list_any has_conditions (now ∷ [])) (sym is)

  pub after_no_history : (given : List Told) → s.phase ≡ phases.Closed parts.Histories words.Empty 0 → After d q s given → s.ask.after ≡ None →
      After d q (record s { horizon = s.horizon + 1; phase = phases.Opening parts.Histories }) (given ++ told (events.NoHistory s.horizon) ∷ [])
  after_no_history given phase_is after none =
      let here = closed given parts.Histories words.Empty 0 phase_is after in
      after_run d q (record s { horizon = s.horizon + 1; phase = phases.Opening parts.Histories }) (given ++ told (events.NoHistory s.horizon) ∷ [])
      (here.done ++ Histories here.section ∷ []) None
      (passes d q s.ask s.horizon given here.done (Histories here.section) (told (events.NoHistory s.horizon)) here.is
      (here.word_is, no_items (rows_of here.section) (sym here.listed_is), ap (λ (key : Option Key). is_some key) none) refl)
      (or_false s.met ∙ sym (met_more here.done (Histories here.section) here.met)) (refl, (here.asks, refl))

  pub after_no_conditions : (given : List Told) (listed : ℕ) → s.phase ≡ phases.Closed parts.Conditions words.Empty listed → After d q s given →
      After d q (record s { horizon = s.horizon + 1; phase = phases.Opening parts.Conditions }) (given ++ told (events.NoConditions s.horizon) ∷ [])
  after_no_conditions given listed phase_is after =
      let here = closed given parts.Conditions words.Empty listed phase_is after in
      after_run d q (record s { horizon = s.horizon + 1; phase = phases.Opening parts.Conditions }) (given ++ told (events.NoConditions s.horizon) ∷ [])
      (here.done ++ Conditions here.section ∷ []) None
      (passes d q s.ask s.horizon given here.done (Conditions here.section) (told (events.NoConditions s.horizon)) here.is here.word_is refl)
      (or_false s.met ∙ sym (met_more here.done (Conditions here.section) here.met)) (refl, (here.asks, refl))

  pub after_holds : (given : List Told) (listed : ℕ) → s.phase ≡ phases.Closed parts.Claim words.Empty listed → After d q s given →
      After d q (record s { horizon = s.horizon + 1; met = true; phase = phases.Opening parts.Conditions }) (given ++ told (events.Holds s.horizon) ∷ [])
  after_holds given listed phase_is after =
      let here = closed given parts.Claim words.Empty listed phase_is after in
      after_run d q (record s { horizon = s.horizon + 1; met = true; phase = phases.Opening parts.Conditions }) (given ++ told (events.Holds s.horizon) ∷ [])
      (here.done ++ Claim here.before here.section ∷ []) None
      (passes d q s.ask s.horizon given here.done (Claim here.before here.section) (told (events.Holds s.horizon)) here.is here.word_is refl)
      (or_true s.met ∙ sym (met_more here.done (Claim here.before here.section) here.met)) (refl, (here.asks.0, refl))

  -- ---- endings

  over : (given : List Told) (done : List Horizon) (next : Option Horizon) (ending : Ending) → s.horizon ≡ first_horizon q s.ask.after + length done →
      s.met ≡ list_any has_conditions done →
      IsFairRun d q s.ask (run_at done next (Some ending)) × (given ++ told (events.Ended ending) ∷ [] ≡ events_of (first_horizon q s.ask.after) (run_at done next (Some ending))) →
      After d q (record s { phase = phases.Ended }) (given ++ told (events.Ended ending) ∷ [])
  over given done next ending horizon_is met ends =
      (run_at done next (Some ending), ends.0, ends.1, record { horizon = horizon_is; met = met; awaits = refl })

  pub after_complete : (given : List Told) (listed : ℕ) → s.phase ≡ phases.Closed parts.Histories words.Empty listed → After d q s given →
      (0 < listed) ⊎ IsSome s.ask.after → After d q (record s { phase = phases.Ended }) (given ++ told (events.Ended (endings.Complete s.horizon listed)) ∷ [])
  after_complete given listed phase_is after some =
      let here = closed given parts.Histories words.Empty listed phase_is after in
      over given here.done (Some (Histories here.section)) (endings.Complete s.horizon listed) here.is.horizon_is here.met
      (ends_within d q s.ask s.horizon given here.done (Histories here.section) (endings.Complete s.horizon listed) here.is
      (refl, here.listed_is, here.word_is, elim some [ inl more ↦ inl (subst (λ (n : ℕ). 0 < n) here.listed_is more) | inr key ↦ inr key ]))

  pub after_all_asked : (given : List Told) (listed : ℕ) → s.phase ≡ phases.Closed parts.Histories words.Found listed → After d q s given →
      After d q (record s { phase = phases.Ended }) (given ++ told (events.Ended (endings.Asked s.horizon listed)) ∷ [])
  after_all_asked given listed phase_is after =
      let here = closed given parts.Histories words.Found listed phase_is after in
      over given here.done (Some (Histories here.section)) (endings.Asked s.horizon listed) here.is.horizon_is here.met
      (ends_within d q s.ask s.horizon given here.done (Histories here.section) (endings.Asked s.horizon listed) here.is (refl, here.listed_is, here.word_is))

  may_be_spent : (part : Part) (before section : Section) (listed : ℕ) → TellsTrue d q s.ask s.horizon part section → EndsWith words.Spent section →
      listed ≡ length (rows_of section) → MayEndWithin s.ask s.horizon (told_by part before section) (endings.Spent s.horizon listed)
  may_be_spent parts.Histories before section listed tells word_is listed_is = (refl, listed_is, word_is)
  may_be_spent parts.Conditions before section listed tells word_is listed_is =
      (refl, listed_is ∙ ap (λ (l : List (List ℕ)). length l) tells.silent, word_is)
  may_be_spent parts.Claim before section listed tells word_is listed_is =
      (refl, listed_is ∙ ap (λ (l : List (List ℕ)). length l) tells.silent, word_is)

  pub after_budget : (given : List Told) (part : Part) (listed : ℕ) → s.phase ≡ phases.Closed part words.Spent listed → After d q s given →
      After d q (record s { phase = phases.Ended }) (given ++ told (events.Ended (endings.Spent s.horizon listed)) ∷ [])
  after_budget given part listed phase_is after =
      let here = closed given part words.Spent listed phase_is after in
      over given here.done (Some (told_by part here.before here.section)) (endings.Spent s.horizon listed) here.is.horizon_is here.met
      (ends_within d q s.ask s.horizon given here.done (told_by part here.before here.section) (endings.Spent s.horizon listed) here.is
      (may_be_spent part here.before here.section listed here.tells here.word_is here.listed_is))

  pub after_failing : (given : List Told) → s.phase ≡ phases.Failing → After d q s given →
      After d q (record s { phase = phases.Ended }) (given ++ told (events.Ended endings.ClaimFails) ∷ [])
  after_failing given phase_is (run, fair, given_is, stands) =
      let awaits : (run.ending ≡ None) × ((conditions : Section) × (claim : Section) × (run.next ≡ Some (Failure conditions claim s.row))) =
      subst (λ (p : Phase). Awaits d q s run p) phase_is stands.awaits in
      let is = running d q s.ask run (Some (Failure awaits.1.0 awaits.1.1 s.row)) s.horizon given fair given_is stands.horizon awaits.1.2 awaits.0 in
      over given run.done (Some (Failure awaits.1.0 awaits.1.1 s.row)) endings.ClaimFails stands.horizon stands.met
      (ends_within d q s.ask s.horizon given run.done (Failure awaits.1.0 awaits.1.1 s.row) endings.ClaimFails is tt)

  -- behind the last horizon
  pub after_last : (given : List Told) → s.phase ≡ phases.Opening parts.Histories → After d q s given → last_horizon q s.ask.after < s.horizon →
      After d q (record s { phase = phases.Ended }) (given ++ told (events.Ended endings.NoHistory) ∷ [])
  after_last given phase_is (run, fair, given_is, stands) past =
      let awaits : (run.ending ≡ None) × Opens q parts.Histories run.next = subst (λ (p : Phase). Awaits d q s run p) phase_is stands.awaits in
      let is = running d q s.ask run None s.horizon given fair given_is stands.horizon awaits.1.1 awaits.0 in
      let low = within_there d q s.ask s.horizon given run.done None is in
      over given run.done None endings.NoHistory stands.horizon stands.met
      (ends_behind d q s.ask s.horizon given run.done endings.NoHistory is (omega arith)
      (awaits.1.0, no_key_behind d q s.ask s.horizon run.done s.ask.after refl fair.done awaits.1.0 stands.horizon past))

  pub after_last_claim : (given : List Told) → s.phase ≡ phases.Opening parts.Conditions → After d q s given → last_horizon q s.ask.after < s.horizon →
      After d q (record s { phase = phases.Ended }) (given ++ told (events.Ended (if s.met then endings.ClaimHolds else endings.ClaimEmpty)) ∷ [])
  after_last_claim given phase_is (run, fair, given_is, stands) past =
      let awaits : (run.ending ≡ None) × Opens q parts.Conditions run.next = subst (λ (p : Phase). Awaits d q s run p) phase_is stands.awaits in
      let is = running d q s.ask run None s.horizon given fair given_is stands.horizon awaits.1.1 awaits.0 in
      let low = within_there d q s.ask s.horizon given run.done None is in
      over given run.done None (if s.met then endings.ClaimHolds else endings.ClaimEmpty) stands.horizon stands.met
      (ends_behind d q s.ask s.horizon given run.done (if s.met then endings.ClaimHolds else endings.ClaimEmpty) is (omega arith)
      (claim_ends d q s.ask run.done (first_horizon q s.ask.after) s.met fair.done awaits.1.0 stands.met))

  -- ---- a history too many

  pub history_too_many : (given : List Told) (solver : SolverView) (listed : ℕ) → s.phase ≡ phases.Searching parts.Histories solver listed → After d q s given →
      (row : List ℕ) → IsLeastRowOf solver.sizes (clauses_of solver.kernel) row → listed ≡ 100000000 → HasTooMany d q s given
  history_too_many given solver listed phase_is after row least many =
      let here = going given parts.Histories solver listed phase_is after in
      let least_of : IsLeastRowOf (form_of parts.Histories).sizes (clauses_of solver.kernel) row =
      subst (λ (sizes : List ℕ). IsLeastRowOf sizes (clauses_of solver.kernel) row) here.holds.sizes least in
      record {
        run = run_at here.done (Some (Histories (open_section here.steps))) None;
        fair = here.is.fair;
        given_is = here.is.given_is;
        many = record {
          section = open_section here.steps;
          next = refl;
          open_yet = refl;
          told = rows_in here.steps;
          told_is = append-nil (rows_in here.steps);
          many = sym here.listed_is ∙ many;
          further = row;
          first = subst (λ (n : ℕ). AreFirst d q n (key_row s.ask) (rows_in here.steps ++ row ∷ [])) here.is.horizon_is
              (next_first laws d q s.ask s.horizon here.steps (clauses_of solver.kernel) here.on here.rows row least_of);
        };
      }

-- ---- right behind a heading

-- the solver that is at hand has just the axioms of the section
pub axioms_counted : (d : Description) (q : Query) (s now : SessionView) (given : List Told) (part : Part) (solver : SolverView) (listed : ℕ) (conditions : Bool) (horizon : ℕ) →
    s ≡ now → s.phase ≡ phases.Searching part solver listed → After d q now given → IsOpened now conditions horizon →
    length solver.kernel.entries ≡ length ((axioms_of d q now.ask.after conditions horizon).clauses)
axioms_counted d q s now given part solver listed conditions horizon same at (run, fair, given_is, stands) (other, held, phase_is, none, conditions_is, horizon_is) =
    let awaits : (run.ending ≡ None) × IsSearched d q now run other held 0 = subst (λ (p : Phase). Awaits d q now run p) phase_is stands.awaits in
    let searched = awaits.1 in
    let here : phases.Searching part solver listed ≡ phases.Searching other held 0 = sym at ∙ ap (λ (v : SessionView). v.phase) same ∙ phase_is in
    let one : solver ≡ held = cc in
    let form = axioms_at d q now.ask now.horizon other in
    let alone = axioms_alone form searched.steps held searched.holds none searched.listed_is in
    ap (λ (v : SolverView). length v.kernel.entries) one ∙ ap (λ (l : List Entry). length l) (alone ∙ nothing_behind (map axiom_of form.clauses)) ∙ as_many form.clauses
    ∙ ap (λ (n : ℕ). length ((axioms_of d q now.ask.after (is_conditions other) n).clauses)) (sym horizon_is)
    ∙ ap (λ (b : Bool). length ((axioms_of d q now.ask.after b horizon).clauses)) (sym conditions_is)
