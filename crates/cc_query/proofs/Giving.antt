-- What each step of a session gives.
use Rattle.std.proofs.Common.{◌≡◌, ◌≢◌, ◌∙◌, ℕ, ◌+◌, ◌<◌, ◌≤◌, ◌⊎◌, Bool, true, List, [], ◌∷◌, ◌++◌, Option, Some, None, refl, sym, subst, ap, arith}
use Rattle.std.specs.Prelude.{Contains, IfSome, IsSome, is_some, if◌then◌else◌}
use Rattle.std.specs.Option.{option_map}
use Rattle.std.proofs.lemmas.Bool.{false≢true}
use Rattle.cc_cdcl.specs.Solvers.{SolverView, Found, AddsDerived}
use Rattle.cc_clauses.specs.RowsOf.{IsLeastRowOf}
use Rattle.cc_defs.specs.declared.event.Ending.{Ending}
use Rattle.cc_defs.specs.declared.event.Ending.TheVariants as endings
use Rattle.cc_defs.specs.declared.event.Event.{Event}
use Rattle.cc_defs.specs.declared.event.Event.TheVariants as events
use Rattle.cc_defs.specs.declared.event.Told.{Told}
use Rattle.cc_defs.specs.declared.lists.Key.{Key}
use Rattle.cc_defs.specs.declared.log.EndWord.{EndWord}
use Rattle.cc_defs.specs.declared.log.EndWord.TheVariants as words
use Rattle.cc_defs.specs.declared.log.LogLine.TheVariants as lines
use Rattle.cc_defs.specs.Assignments.{IsEarned}
use Rattle.cc_defs.specs.Clauses.{Literal}
use Rattle.cc_defs.specs.Description.{Description}
use Rattle.cc_defs.specs.GroundLaws.{PlainGroundQuery, StandsForQuery, ground_condition}
use Rattle.cc_defs.specs.Limits.{most_histories}
use Rattle.cc_defs.specs.Resolved.{Condition, Query}
use Rattle.cc_defs.specs.Runs.{axioms_of, last_horizon}
use Rattle.cc_defs.specs.Sections.{HasNoEmpty, row_denial}
use Rattle.cc_kernel.specs.declared.kernel.Origin.TheVariants as origins
use Rattle.cc_kernel.specs.Kernels.{added, clauses_of, derived_count}
use Rattle.cc_lists.specs.Horizons.{Fits, last_at, opening_refusal}
use Rattle.cc_lists.specs.Subjects.{AreGoodAxioms, IsFewEvent, IsShortEvent, with_row}
use Rattle.cc_lists.proofs.Ranges.{last_is, last_low}
use Rattle.cc_query.specs.declared.phase.Part.{Part}
use Rattle.cc_query.specs.declared.phase.Part.TheVariants as parts
use Rattle.cc_query.specs.declared.phase.Phase.{Phase}
use Rattle.cc_query.specs.declared.phase.Phase.TheVariants as phases
use Rattle.cc_query.specs.Laws.{SearchLaws}
use Rattle.cc_query.specs.Parts.{axioms_at, is_conditions}
use Rattle.cc_query.specs.Events.{Gives}
use Rattle.cc_query.specs.Lefts.{left_at, left_behind, left_of}
use Rattle.cc_query.specs.Sessions.{SessionView, After, Awaits, HasFound, Holds, IsAskable, IsSame, IsSessionOf, IsWithin, RowsAreHistories, Tells, ending_behind, opens_at}
use Rattle.cc_query.proofs.Lessening.{less_at, less_block, less_heading, less_history, less_line, less_next}
use Rattle.cc_query.proofs.Shortness.{line_short, row_short}
use Rattle.cc_query.proofs.Going.{IsAskFor, after_asked, after_block, after_all_asked, after_budget, after_claim_heading, after_complete, after_counterexample, after_empty, after_empty_line, after_failing, after_found, after_heading, after_history, after_holds, after_last, after_last_claim, after_line, after_no_conditions, after_no_history, after_refuted, after_spent, telling}

-- ---- what is asked goes with the query

claim_there : (d : Description) (claim : Option Condition) → IsSome claim → IsSome (option_map (ground_condition d.universe) claim)
claim_there d None is = absurd cc
claim_there d (Some condition) is = refl

no_key_of : (d : Description) (q : Query) (signature : _) (query : PlainGroundQuery) (after : Option Key) → StandsForQuery query d q → IfSome after (Fits signature query) →
    IsSome q.claim → after ≡ None
no_key_of d q signature query None stands fits claim = refl
no_key_of d q signature query (Some key) (range, range_is, is) fits claim =
    absurd (false≢true (sym fits.claim ∙ ap (λ (made : PlainGroundQuery). is_some made.claim) is ∙ claim_there d q.claim claim))

pub asks_for : (s : SessionView) (d : Description) (q : Query) → IsAskable s.signature s.laws s.query s.ask → IsSessionOf s d q → IsAskFor q s.ask
asks_for s d q askable of = record {
  key = no_key_of d q s.signature s.query s.ask.after of.query askable.key;
  count = positive_of s.ask.count askable.count;
}
  where
    positive_of : (count : Option ℕ) → IfSome count (λ most. 1 ≤ most) → IfSome count (λ most. 0 < most)
    positive_of None is = tt
    positive_of (Some most) is = omega arith

-- ---- events

abbrev IsNoHeading : Event → Type 0
IsNoHeading event = (conditions : Bool) (horizon : ℕ) → event ≢ events.Log (lines.Section conditions horizon)

module _ (laws : SearchLaws) (s : SessionView) (askable : IsAskable s.signature s.laws s.query s.ask) where
  -- a step that opens no section, and not the ending
  step : (new : SessionView) (event : Event) → IsSame s new → Tells s new event → IsNoHeading event → IsFewEvent event → IsShortEvent event → left_of new < left_of s →
      new.phase ≢ phases.Ended → Gives s new event
  step new event same tells other few short less more = record {
    same = same;
    tells = tells;
    within = λ d q of conditions horizon is. absurd (other conditions horizon is);
    good = λ d q of conditions horizon is. absurd (other conditions horizon is);
    opened = λ conditions horizon is. absurd (other conditions horizon is);
    few = few;
    short = short;
    less = less;
    more = λ _. more;
  }

  same_of : (row : List ℕ) (horizon : ℕ) (met : Bool) (phase : Phase) → IsSame s (record s { row = row; horizon = horizon; met = met; phase = phase })
  same_of row horizon met phase = record { signature = refl; laws = refl; query = refl; ask = refl }

  -- the ending
  ending_given : (ending : Ending) (phase : Phase) → s.phase ≡ phase → 0 < left_at phase → Tells s (record s { phase = phases.Ended }) (events.Ended ending) →
      Gives s (record s { phase = phases.Ended }) (events.Ended ending)
  ending_given ending phase phase_is some tells = record {
    same = same_of s.row s.horizon s.met phases.Ended;
    tells = tells;
    within = λ d q of conditions horizon is. absurd cc;
    good = λ d q of conditions horizon is. absurd cc;
    opened = λ conditions horizon is. absurd cc;
    few = λ horizon number is. absurd cc;
    short = tt;
    less = less_at s s.row s.met phase phases.Ended phase_is some;
    more = λ none. absurd (none ending refl);
  }

  pub gives_line : (part : Part) (solver new : SolverView) (listed : ℕ) → s.phase ≡ phases.Searching part solver listed → (clause : List Literal) →
      AddsDerived solver.kernel new.kernel clause → IsEarned (clauses_of solver.kernel) clause → derived_count new.kernel.entries ≤ s.ask.budget → new.sizes ≡ solver.sizes →
      IsWithin s.ask solver listed → Gives s (record s { phase = phases.Searching part new listed }) (events.Log (lines.Derived clause new.kernel.chain))
  gives_line part solver new listed phase_is clause adds earned most sizes within =
      let budget = askable.budget in
      step (record s { phase = phases.Searching part new listed }) (events.Log (lines.Derived clause new.kernel.chain))
      (same_of s.row s.horizon s.met (phases.Searching part new listed))
      (λ d q given of after. after_line laws d q s (asks_for s d q askable of) given part solver new listed phase_is after clause adds earned most sizes)
      (λ conditions horizon is. absurd cc) (λ horizon number is. absurd cc) (line_short s.ask solver new listed clause budget within adds)
      (less_at s s.row s.met (phases.Searching part solver listed) (phases.Searching part new listed) phase_is
      (less_line part solver new listed clause adds (omega arith))) (λ is. absurd cc)

  pub gives_empty_line : (part : Part) (solver new : SolverView) (listed : ℕ) → s.phase ≡ phases.Searching part solver listed →
      AddsDerived solver.kernel new.kernel [] → HasNoEmpty (clauses_of solver.kernel) → IsWithin s.ask solver listed →
      Gives s (record s { phase = phases.Refuted part listed }) (events.Log (lines.Derived [] new.kernel.chain))
  gives_empty_line part solver new listed phase_is adds none within =
      step (record s { phase = phases.Refuted part listed }) (events.Log (lines.Derived [] new.kernel.chain))
      (same_of s.row s.horizon s.met (phases.Refuted part listed))
      (λ d q given of after. after_empty_line laws d q s (asks_for s d q askable of) given part solver new listed phase_is after adds none)
      (λ conditions horizon is. absurd cc) (λ horizon number is. absurd cc) (line_short s.ask solver new listed [] askable.budget within adds)
      (less_at s s.row s.met (phases.Searching part solver listed) (phases.Refuted part listed) phase_is (omega arith)) (λ is. absurd cc)

  -- an end line
  end_line : (part : Part) (word : EndWord) (listed : ℕ) (row : List ℕ) (phase : Phase) → s.phase ≡ phase → 2 + left_behind part < left_at phase →
      Tells s (record s { row = row; phase = phases.Closed part word listed }) (events.Log (lines.End word)) →
      Gives s (record s { row = row; phase = phases.Closed part word listed }) (events.Log (lines.End word))
  end_line part word listed row phase phase_is less tells =
      step (record s { row = row; phase = phases.Closed part word listed }) (events.Log (lines.End word))
      (same_of row s.horizon s.met (phases.Closed part word listed)) tells (λ conditions horizon is. absurd cc) (λ horizon number is. absurd cc) tt
      (less_at s row s.met phase (phases.Closed part word listed) phase_is less) (λ is. absurd cc)

  pub gives_spent : (part : Part) (solver : SolverView) (listed : ℕ) → s.phase ≡ phases.Searching part solver listed →
      derived_count solver.kernel.entries ≡ s.ask.budget → HasNoEmpty (clauses_of solver.kernel) →
      Gives s (record s { phase = phases.Closed part words.Spent listed }) (events.Log (lines.End words.Spent))
  gives_spent part solver listed phase_is all none = end_line part words.Spent listed s.row (phases.Searching part solver listed) phase_is (omega arith)
      (λ d q given of after. after_spent laws d q s (asks_for s d q askable of) given part solver listed phase_is after all none)

  pub gives_empty : (part : Part) (solver : SolverView) (listed : ℕ) → s.phase ≡ phases.Searching part solver listed → Contains (clauses_of solver.kernel) [] →
      Gives s (record s { phase = phases.Closed part words.Empty listed }) (events.Log (lines.End words.Empty))
  gives_empty part solver listed phase_is there = end_line part words.Empty listed s.row (phases.Searching part solver listed) phase_is (omega arith)
      (λ d q given of after. after_empty laws d q s (asks_for s d q askable of) given part solver listed phase_is after there)

  pub gives_refuted : (part : Part) (listed : ℕ) → s.phase ≡ phases.Refuted part listed →
      Gives s (record s { phase = phases.Closed part words.Empty listed }) (events.Log (lines.End words.Empty))
  gives_refuted part listed phase_is = end_line part words.Empty listed s.row (phases.Refuted part listed) phase_is (omega arith)
      (λ d q given of after. after_refuted laws d q s (asks_for s d q askable of) given part listed phase_is after)

  pub gives_found : (part : Part) (solver : SolverView) (listed : ℕ) → part ≢ parts.Histories → s.phase ≡ phases.Searching part solver listed →
      (row : List ℕ) → IsLeastRowOf solver.sizes (clauses_of solver.kernel) row →
      Gives s (record s { row = row; phase = phases.Closed part words.Found listed }) (events.Log (lines.End words.Found))
  gives_found part solver listed other phase_is row least = end_line part words.Found listed row (phases.Searching part solver listed) phase_is (omega arith)
      (λ d q given of after. after_found laws d q s (asks_for s d q askable of) given part solver listed other phase_is after row least)

  pub gives_asked : (solver : SolverView) (listed : ℕ) → s.phase ≡ phases.Denying solver listed → s.ask.count ≡ Some listed →
      Gives s (record s { phase = phases.Closed parts.Histories words.Found listed }) (events.Log (lines.End words.Found))
  gives_asked solver listed phase_is all = end_line parts.Histories words.Found listed s.row (phases.Denying solver listed) phase_is (omega arith)
      (λ d q given of after. after_asked laws d q s (asks_for s d q askable of) given solver listed phase_is after all)

  pub gives_history : (solver new : SolverView) (listed : ℕ) → s.phase ≡ phases.Searching parts.Histories solver listed →
      (row : List ℕ) → IsLeastRowOf solver.sizes (clauses_of solver.kernel) row → new ≡ record solver { standing = Found row } → listed + 1 ≤ 100000000 →
      Gives s (record s { row = row; phase = phases.Denying new (listed + 1) }) (events.History s.horizon (listed + 1))
  gives_history solver new listed phase_is row least new_is few =
      step (record s { row = row; phase = phases.Denying new (listed + 1) }) (events.History s.horizon (listed + 1))
      (same_of row s.horizon s.met (phases.Denying new (listed + 1)))
      (λ d q given of after. after_history laws d q s (asks_for s d q askable of) given solver new listed phase_is after row least new_is)
      (λ conditions horizon is. absurd cc) (λ horizon number is. let same : listed + 1 ≡ number = cc in subst (λ (n : ℕ). n ≤ most_histories) same few) tt
      (less_at s row s.met (phases.Searching parts.Histories solver listed) (phases.Denying new (listed + 1)) phase_is
      (less_history solver new listed (ap (λ (v : SolverView). v.kernel) new_is) few)) (λ is. absurd cc)

  pub gives_block : (solver new : SolverView) (listed denied : ℕ) → s.phase ≡ phases.Denying solver listed → (s.ask.count ≡ Some listed → ⊥) →
      new.sizes ≡ solver.sizes → ((row : List ℕ) → solver.standing ≡ Found row → new.kernel ≡ added solver.kernel (row_denial solver.sizes row) origins.Block) →
      (found : HasFound solver) → IsWithin s.ask solver denied →
      Gives s (record s { phase = phases.Searching parts.Histories new listed }) (events.Log (lines.Block found.0))
  gives_block solver new listed denied phase_is other sizes blocked (row, standing, is_row) within =
      step (record s { phase = phases.Searching parts.Histories new listed }) (events.Log (lines.Block row))
      (same_of s.row s.horizon s.met (phases.Searching parts.Histories new listed))
      (λ d q given of after.
      let told = (telling laws d q s (asks_for s d q askable of) given solver listed phase_is after).standing in
      let same : s.row ≡ row = cc in
      subst (λ (r : List ℕ). After d q (record s { phase = phases.Searching parts.Histories new listed }) (given ++ with_row (events.Log (lines.Block r)) s.row ∷ [])) same
      (after_block laws d q s (asks_for s d q askable of) given solver new listed phase_is after other sizes (blocked s.row told)))
      (λ conditions horizon is. absurd cc) (λ horizon number is. absurd cc) (row_short solver.kernel.variables solver.sizes row within.variables within.positions is_row)
      (less_at s s.row s.met (phases.Denying solver listed) (phases.Searching parts.Histories new listed) phase_is
      (less_block solver new listed (row_denial solver.sizes row) (blocked row standing))) (λ is. absurd cc)

  -- ---- headings

  none_opens : (part : Part) → None ≡ Some part → ⊥
  none_opens part opens = absurd cc

  heading_after : (d : Description) (q : Query) → IsAskFor q s.ask → (given : List Told) (solver : SolverView) (phase : Phase) → s.phase ≡ phase → (part : Part) →
      opens_at phase ≡ Some part → After d q s given → s.horizon ≤ last_horizon q s.ask.after → Holds (axioms_at d q s.ask s.horizon part) [] solver →
      RowsAreHistories d q s.ask s.horizon part →
      After d q (record s { phase = phases.Searching part solver 0 }) (given ++ with_row (events.Log (lines.Section (is_conditions part) s.horizon)) s.row ∷ [])
  heading_after d q fits given solver (phases.Opening other) phase_is part opens after low holds rows =
      let same : other ≡ part = cc in
      after_heading laws d q s fits given part solver (phase_is ∙ ap (λ (p : Part). phases.Opening p) same) after low holds rows
  heading_after d q fits given solver (phases.Closed parts.Conditions words.Found listed) phase_is part opens after low holds rows =
      let same : part ≡ parts.Claim = cc in
      subst (λ (p : Part). After d q (record s { phase = phases.Searching p solver 0 }) (given ++ with_row (events.Log (lines.Section (is_conditions p) s.horizon)) s.row ∷ []))
      (sym same) (after_claim_heading laws d q s fits given solver listed phase_is after
      (subst (λ (p : Part). Holds (axioms_at d q s.ask s.horizon p) [] solver) same holds)
      (subst (λ (p : Part). RowsAreHistories d q s.ask s.horizon p) same rows))
  heading_after d q fits given solver (phases.Closed parts.Conditions words.Empty listed) phase_is part opens after low holds rows = absurd (none_opens part opens)
  heading_after d q fits given solver (phases.Closed parts.Conditions words.Spent listed) phase_is part opens after low holds rows = absurd (none_opens part opens)
  heading_after d q fits given solver (phases.Closed parts.Histories word listed) phase_is part opens after low holds rows = absurd (none_opens part opens)
  heading_after d q fits given solver (phases.Closed parts.Claim word listed) phase_is part opens after low holds rows = absurd (none_opens part opens)
  heading_after d q fits given solver (phases.Searching other old listed) phase_is part opens after low holds rows = absurd (none_opens part opens)
  heading_after d q fits given solver (phases.Denying old listed) phase_is part opens after low holds rows = absurd (none_opens part opens)
  heading_after d q fits given solver (phases.Refuted other listed) phase_is part opens after low holds rows = absurd (none_opens part opens)
  heading_after d q fits given solver phases.Failing phase_is part opens after low holds rows = absurd (none_opens part opens)
  heading_after d q fits given solver phases.Ended phase_is part opens after low holds rows = absurd (none_opens part opens)

  pub gives_heading : (part : Part) (solver : SolverView) → derived_count solver.kernel.entries ≡ 0 → opens_at s.phase ≡ Some part → s.horizon ≤ last_at s.query s.ask.after →
      ((d : Description) (q : Query) → IsSessionOf s d q → Holds (axioms_at d q s.ask s.horizon part) [] solver × RowsAreHistories d q s.ask s.horizon part
      × (opening_refusal d q s.ask s.horizon (is_conditions part) ≡ None) × AreGoodAxioms (axioms_at d q s.ask s.horizon part)) →
      Gives s (record s { phase = phases.Searching part solver 0 }) (events.Log (lines.Section (is_conditions part) s.horizon))
  gives_heading part solver fresh opens low made = record {
    same = same_of s.row s.horizon s.met (phases.Searching part solver 0);
    tells = λ d q given of after.
        heading_after d q (asks_for s d q askable of) given solver s.phase refl part opens after
        (subst (λ (n : ℕ). s.horizon ≤ n) (last_is d q s.query s.ask.after of.query) low) (made d q of).0 (made d q of).1;
    within = λ d q of conditions horizon is.
        let same : is_conditions part ≡ conditions = cc in
        let here : s.horizon ≡ horizon = cc in
        subst (λ (n : ℕ). opening_refusal d q s.ask n conditions ≡ None) here
        (subst (λ (b : Bool). opening_refusal d q s.ask s.horizon b ≡ None) same (made d q of).2);
    good = λ d q of conditions horizon is.
        let same : is_conditions part ≡ conditions = cc in
        let here : s.horizon ≡ horizon = cc in
        subst (λ (n : ℕ). AreGoodAxioms (axioms_of d q s.ask.after conditions n)) here
        (subst (λ (b : Bool). AreGoodAxioms (axioms_of d q s.ask.after b s.horizon)) same (made d q of).3);
    opened = λ conditions horizon is.
        let same : is_conditions part ≡ conditions = cc in
        let here : s.horizon ≡ horizon = cc in
        (part, solver, refl, fresh, sym same, sym here);
    few = λ other number is. absurd cc;
    short = let last = last_low s.signature s.query s.ask.after askable.most askable.key in omega arith;
    less = less_at s s.row s.met s.phase (phases.Searching part solver 0) refl (less_heading s.phase part solver opens);
    more = λ _ is. absurd cc;
  }

  -- ---- behind an end line

  pub gives_counterexample : (listed : ℕ) → s.phase ≡ phases.Closed parts.Claim words.Found listed →
      Gives s (record s { phase = phases.Failing }) (events.Counterexample s.horizon)
  gives_counterexample listed phase_is =
      step (record s { phase = phases.Failing }) (events.Counterexample s.horizon) (same_of s.row s.horizon s.met phases.Failing)
      (λ d q given of after. after_counterexample laws d q s (asks_for s d q askable of) given listed phase_is after)
      (λ conditions horizon is. absurd cc) (λ horizon number is. absurd cc) tt
      (less_at s s.row s.met (phases.Closed parts.Claim words.Found listed) phases.Failing phase_is (omega arith)) (λ is. absurd cc)

  -- a horizon is done with
  passing : (met : Bool) (part : Part) (event : Event) (phase : Phase) → s.phase ≡ phase → 0 < left_at phase → s.horizon ≤ last_at s.query s.ask.after →
      IsNoHeading event → IsFewEvent event → IsShortEvent event →
      Tells s (record s { horizon = s.horizon + 1; met = met; phase = phases.Opening part }) event →
      Gives s (record s { horizon = s.horizon + 1; met = met; phase = phases.Opening part }) event
  passing met part event phase phase_is some low other few short tells =
      step (record s { horizon = s.horizon + 1; met = met; phase = phases.Opening part }) event
      (same_of s.row (s.horizon + 1) met (phases.Opening part)) tells other few short
      (less_next s met part low (subst (λ (p : Phase). 0 < left_at p) (sym phase_is) some)) (λ is. absurd cc)

  pub gives_no_history : s.phase ≡ phases.Closed parts.Histories words.Empty 0 → s.ask.after ≡ None → s.horizon ≤ last_at s.query s.ask.after →
      Gives s (record s { horizon = s.horizon + 1; phase = phases.Opening parts.Histories }) (events.NoHistory s.horizon)
  gives_no_history phase_is none low = passing s.met parts.Histories (events.NoHistory s.horizon) (phases.Closed parts.Histories words.Empty 0) phase_is (omega arith) low
      (λ conditions horizon is. absurd cc) (λ horizon number is. absurd cc) tt
      (λ d q given of after. after_no_history laws d q s (asks_for s d q askable of) given phase_is after none)

  pub gives_no_conditions : (listed : ℕ) → s.phase ≡ phases.Closed parts.Conditions words.Empty listed → s.horizon ≤ last_at s.query s.ask.after →
      Gives s (record s { horizon = s.horizon + 1; phase = phases.Opening parts.Conditions }) (events.NoConditions s.horizon)
  gives_no_conditions listed phase_is low = passing s.met parts.Conditions (events.NoConditions s.horizon) (phases.Closed parts.Conditions words.Empty listed) phase_is (omega arith) low
      (λ conditions horizon is. absurd cc) (λ horizon number is. absurd cc) tt
      (λ d q given of after. after_no_conditions laws d q s (asks_for s d q askable of) given listed phase_is after)

  pub gives_holds : (listed : ℕ) → s.phase ≡ phases.Closed parts.Claim words.Empty listed → s.horizon ≤ last_at s.query s.ask.after →
      Gives s (record s { horizon = s.horizon + 1; met = true; phase = phases.Opening parts.Conditions }) (events.Holds s.horizon)
  gives_holds listed phase_is low = passing true parts.Conditions (events.Holds s.horizon) (phases.Closed parts.Claim words.Empty listed) phase_is (omega arith) low
      (λ conditions horizon is. absurd cc) (λ horizon number is. absurd cc) tt
      (λ d q given of after. after_holds laws d q s (asks_for s d q askable of) given listed phase_is after)

  -- ---- endings

  pub gives_complete : (listed : ℕ) → s.phase ≡ phases.Closed parts.Histories words.Empty listed → (0 < listed) ⊎ IsSome s.ask.after →
      Gives s (record s { phase = phases.Ended }) (events.Ended (endings.Complete s.horizon listed))
  gives_complete listed phase_is some = ending_given (endings.Complete s.horizon listed) (phases.Closed parts.Histories words.Empty listed) phase_is (omega arith)
      (λ d q given of after. after_complete laws d q s (asks_for s d q askable of) given listed phase_is after some)

  pub gives_all_asked : (listed : ℕ) → s.phase ≡ phases.Closed parts.Histories words.Found listed →
      Gives s (record s { phase = phases.Ended }) (events.Ended (endings.Asked s.horizon listed))
  gives_all_asked listed phase_is = ending_given (endings.Asked s.horizon listed) (phases.Closed parts.Histories words.Found listed) phase_is (omega arith)
      (λ d q given of after. after_all_asked laws d q s (asks_for s d q askable of) given listed phase_is after)

  pub gives_budget : (part : Part) (listed : ℕ) → s.phase ≡ phases.Closed part words.Spent listed →
      Gives s (record s { phase = phases.Ended }) (events.Ended (endings.Spent s.horizon listed))
  gives_budget part listed phase_is = ending_given (endings.Spent s.horizon listed) (phases.Closed part words.Spent listed) phase_is (omega arith)
      (λ d q given of after. after_budget laws d q s (asks_for s d q askable of) given part listed phase_is after)

  pub gives_failing : s.phase ≡ phases.Failing → Gives s (record s { phase = phases.Ended }) (events.Ended endings.ClaimFails)
  gives_failing phase_is = ending_given endings.ClaimFails phases.Failing phase_is (omega arith) (λ d q given of after. after_failing laws d q s (asks_for s d q askable of) given phase_is after)

  -- the ending behind the last horizon
  pub gives_last : (part : Part) → s.phase ≡ phases.Opening part → last_at s.query s.ask.after < s.horizon →
      Gives s (record s { phase = phases.Ended }) (events.Ended (ending_behind s.met part))
  gives_last parts.Histories phase_is past = ending_given endings.NoHistory (phases.Opening parts.Histories) phase_is (omega arith) (λ d q given of after. after_last laws d q s (asks_for s d q askable of) given phase_is after
      (subst (λ (n : ℕ). n < s.horizon) (last_is d q s.query s.ask.after of.query) past))
  gives_last parts.Conditions phase_is past = ending_given (if s.met then endings.ClaimHolds else endings.ClaimEmpty) (phases.Opening parts.Conditions) phase_is (omega arith)
      (λ d q given of after. after_last_claim laws d q s (asks_for s d q askable of) given phase_is after
      (subst (λ (n : ℕ). n < s.horizon) (last_is d q s.query s.ask.after of.query) past))
  gives_last parts.Claim phase_is past = ending_given (if s.met then endings.ClaimHolds else endings.ClaimEmpty) (phases.Opening parts.Claim) phase_is (omega arith)
      (λ d q given of after.
      let awaits = subst (λ (p : Phase). Awaits d q s after.0 p) phase_is (after.3).awaits in absurd (awaits.1))
