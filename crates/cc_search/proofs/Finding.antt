-- The search of one section: what each of its steps gives.
use Rattle.std.proofs.Common.{◌≡◌, ◌≢◌, ◌∙◌, ℕ, ◌+◌, ◌<◌, ◌≤◌, List, [], ◌∷◌, ◌++◌, length, Option, Some, None, Result, Ok, Err, refl, sym, subst, ap, arith, append-nil}
use Rattle.std.specs.Prelude.{◌↔◌, Contains, IfErr, IfOk, IfSome, OnErr, OnOk}
use Rattle.std.proofs.lemmas.List.{length_push}
use Rattle.std.proofs.lemmas.List.Elements.{Contains-append_right}
use Rattle.cc_cdcl.specs.Solvers.{SolverView, Found, Ready, AddsDerived, IsStep}
use Rattle.cc_cdcl.specs.declared.solver.Step.{Step as Answer}
use Rattle.cc_cdcl.specs.declared.solver.Step.TheVariants as answers
use Rattle.cc_clauses.specs.RowsOf.{IsLeastRowOf, IsRowOf}
use Rattle.cc_defs.specs.declared.log.EndWord.{EndWord}
use Rattle.cc_defs.specs.declared.log.EndWord.TheVariants as words
use Rattle.cc_defs.specs.declared.log.LogLine.TheVariants as lines
use Rattle.cc_defs.specs.declared.refusal.Fault.{Fault}
use Rattle.cc_defs.specs.declared.refusal.Fault.TheVariants as faults
use Rattle.cc_defs.specs.declared.refusal.LimitAt.TheVariants as limits
use Rattle.cc_defs.specs.Assignments.{IsEarned}
use Rattle.cc_defs.specs.Clauses.{Literal, IsNumbered}
use Rattle.cc_defs.specs.Histories.{AreFirstOf}
use Rattle.cc_defs.specs.Limits.{most_histories}
use Rattle.cc_defs.specs.Refusals.{past}
use Rattle.cc_defs.specs.Runs.{Step, Derive, Tell, IsFairLine, Section, TellsRows, counted, counted_in, rows_of}
use Rattle.cc_defs.specs.Sections.{Axioms, HasNoEmpty, row_denial}
use Rattle.cc_kernel.specs.declared.kernel.Origin.TheVariants as origins
use Rattle.cc_kernel.specs.Kernels.{added, axioms_of, clauses_of, derived_count}
use Rattle.cc_lists.specs.Sections.{open_section, rows_in, section_of}
use Rattle.cc_lists.specs.Subjects.{AreGoodAxioms}
use Rattle.cc_lists.proofs.Members.{in_first}
use Rattle.cc_query.specs.declared.phase.Part.TheVariants as parts
use Rattle.cc_query.specs.Laws.{SearchLaws as Laws}
use Rattle.cc_query.specs.Lefts.{left_at}
use Rattle.cc_query.specs.Sessions.{HasFound, Holds, IsBlocked, IsWithin}
use Rattle.cc_query.proofs.Going.{earned_none_empty}
use Rattle.cc_query.proofs.Holding.{clauses_held, counted_as_derived, counted_within, holds_block, holds_line}
use Rattle.cc_query.proofs.Joining.{added_empty, least_there}
use Rattle.cc_query.proofs.Lessening.{less_block, less_history, less_line}
use Rattle.cc_query.proofs.Opened.{holds_first, within_opened}
use Rattle.cc_query.proofs.Shortness.{line_short, row_short}
use Rattle.cc_query.proofs.Steps.{added_behind, counted_more, rows_kept, rows_more}
use Rattle.cc_query.proofs.Told.{IsListingOn, line_told, listing_asked, listing_denied, listing_empty, listing_next, listing_on, listing_on_told, listing_open, listing_spent, listing_telling, nothing_told, still_fewer}
use Rattle.cc_query.proofs.Within.{last_numbered}
use Rattle.cc_search.specs.declared.stage.Find.{Find}
use Rattle.cc_search.specs.declared.stage.Find.TheVariants as finds
use Rattle.cc_search.specs.declared.stage.Stage.{Stage}
use Rattle.cc_search.specs.declared.stage.Stage.TheVariants as stages
use Rattle.cc_search.specs.Searches.{SearchView, Awaits, Gives, IsBehind, IsReady, IsRefuted, IsRightFault, IsSearch, IsSearched, IsTold, Stands, TellsNext, TellsTooMany, found_behind, left_of, phase_of}

-- a listing that begins, and one with a derived line more
module _ (laws : Laws) (Is : List ℕ → Type 0) (axioms : Axioms) (count : Option ℕ) (budget : ℕ) where
  listing_begun : IfSome count (λ most. 0 < most) → IsListingOn Is axioms count budget [] axioms.clauses
  listing_begun some = record { told = nothing_told laws Is axioms budget; may = some }

  module _ (steps : List Step) (clauses : List (List Literal)) (is : IsListingOn Is axioms count budget steps clauses) where
    listing_line : (clause : List Literal) (chain : List ℕ) → HasNoEmpty clauses → IsFairLine clauses clause chain →
        counted_in steps + counted (Derive clause chain) ≤ budget →
        IsListingOn Is axioms count budget (steps ++ Derive clause chain ∷ []) (clauses ++ clause ∷ [])
    listing_line clause chain none line most = record {
      told = line_told laws Is axioms budget steps clauses is.told clause chain none line most;
      may = subst (λ (rows : List (List ℕ)). IfSome count (λ m. length rows < m)) (sym (rows_kept steps clause chain)) is.may;
    }

-- the rows of the clauses are their own
own : (axioms : Axioms) (row : List ℕ) → IsRowOf axioms.sizes axioms.clauses row ↔ IsRowOf axioms.sizes axioms.clauses row
own axioms row = ((λ is. is), (λ is. is))

few_open : (steps : List Step) → length (rows_in steps) ≤ most_histories → length (rows_of (open_section steps)) ≤ most_histories
few_open steps few = subst (λ (l : List (List ℕ)). length l ≤ most_histories) (sym (append-nil (rows_in steps))) few

few_of : (steps : List Step) (section : Section) → section ≡ open_section steps → length (rows_of section) ≤ most_histories → length (rows_in steps) ≤ most_histories
few_of steps section is few =
    subst (λ (l : List (List ℕ)). length l ≤ most_histories) (append-nil (rows_in steps))
    (subst (λ (x : Section). length (rows_of x) ≤ most_histories) is few)

less_stage : (s : SearchView) (row : List ℕ) (old new : Stage) → s.stage ≡ old → left_at (phase_of new) < left_at (phase_of old) →
    left_of (record s { row = row; stage = new }) < left_of s
less_stage s row old new is low = let same : left_at (phase_of s.stage) ≡ left_at (phase_of old) = ap (λ (g : Stage). left_at (phase_of g)) is in omega arith

module _ (laws : Laws) (s : SearchView) (budget : s.ask.budget ≤ 2000000) where
  -- what a step tells, for whatever is asked
  tells_next : (new : SearchView) (find : Find) →
      ((axioms : Axioms) (section : Section) → Stands axioms s.ask.count s.ask.budget s section →
      IsBehind section find × Stands axioms s.ask.count s.ask.budget new (found_behind section new.row find)) → TellsNext s new find
  tells_next new find step axioms count most section stands =
      subst (λ (c : Option ℕ). IsBehind section find × Stands axioms c most new (found_behind section new.row find)) stands.count_is
      (subst (λ (b : ℕ). IsBehind section find × Stands axioms s.ask.count b new (found_behind section new.row find)) stands.budget_is
      (step axioms section (subst (λ (b : ℕ). Stands axioms s.ask.count b s section) (sym stands.budget_is)
      (subst (λ (c : Option ℕ). Stands axioms c most s section) (sym stands.count_is) stands))))

  -- ---- a section that is searched

  record IsOn (axioms : Axioms) (section : Section) (solver : SolverView) (listed : ℕ) : Type 0 where
    pub steps : List Step
    pub section_is : section ≡ open_section steps
    pub on : IsListingOn (IsRowOf axioms.sizes axioms.clauses) axioms s.ask.count s.ask.budget steps (clauses_of solver.kernel)
    pub holds : Holds axioms steps solver
    pub listed_is : listed ≡ length (rows_in steps)
    pub few : length (rows_in steps) ≤ most_histories

  searching : (axioms : Axioms) (section : Section) (solver : SolverView) (listed : ℕ) → s.stage ≡ stages.Searching solver listed →
      Stands axioms s.ask.count s.ask.budget s section → IsOn axioms section solver listed
  searching axioms section solver listed stage_is stands =
      let a : IsSearched axioms section solver listed = subst (λ (g : Stage). Awaits axioms section s.row g) stage_is stands.awaits in
      let tells = subst (λ (x : Section). TellsRows (IsRowOf axioms.sizes axioms.clauses) axioms s.ask.count s.ask.budget x) a.section_is stands.tells in
      let on = listing_on laws (IsRowOf axioms.sizes axioms.clauses) axioms s.ask.count s.ask.budget a.steps tells in
      let same : on.0 ≡ clauses_of solver.kernel = added_behind axioms.sizes axioms.clauses a.steps on.0 on.1.told.fair
      ∙ sym (clauses_held axioms a.steps solver a.holds) in
      record {
        steps = a.steps;
        section_is = a.section_is;
        on = subst (λ (clauses : List (List Literal)). IsListingOn (IsRowOf axioms.sizes axioms.clauses) axioms s.ask.count s.ask.budget a.steps clauses) same on.1;
        holds = a.holds;
        listed_is = a.listed_is;
        few = few_of a.steps section a.section_is stands.few;
      }

  -- one derived line more
  line_of : (axioms : Axioms) (section : Section) (solver new : SolverView) (listed : ℕ) (clause : List Literal) → (here : IsOn axioms section solver listed) →
      AddsDerived solver.kernel new.kernel clause → (clause ≢ [] → IsEarned (clauses_of solver.kernel) clause) → HasNoEmpty (clauses_of solver.kernel) →
      counted_in (here.steps ++ Derive clause new.kernel.chain ∷ []) ≤ s.ask.budget →
      IsListingOn (IsRowOf axioms.sizes axioms.clauses) axioms s.ask.count s.ask.budget (here.steps ++ Derive clause new.kernel.chain ∷ [])
      (clauses_of solver.kernel ++ clause ∷ [])
  line_of axioms section solver new listed clause here adds earned none most =
      let more : counted_in (here.steps ++ Derive clause new.kernel.chain ∷ []) ≡ counted_in here.steps + counted (Derive clause new.kernel.chain) =
      counted_more here.steps (Derive clause new.kernel.chain) in
      let few : solver.kernel.variables ≤ 4000000 = subst (λ (n : ℕ). n ≤ 4000000) (sym here.holds.variables) here.holds.few in
      let short : length new.kernel.chain ≤ 8000001 = let chain = adds.short in omega arith in
      listing_line laws (IsRowOf axioms.sizes axioms.clauses) axioms s.ask.count s.ask.budget here.steps (clauses_of solver.kernel) here.on clause new.kernel.chain none
      (record { reached = adds.reached; earned = earned; short = short }) (subst (λ (n : ℕ). n ≤ s.ask.budget) more most)

  few_line : (steps : List Step) (clause : List Literal) (chain : List ℕ) → length (rows_in steps) ≤ most_histories →
      length (rows_of (open_section (steps ++ Derive clause chain ∷ []))) ≤ most_histories
  few_line steps clause chain few = few_open (steps ++ Derive clause chain ∷ [])
      (subst (λ (l : List (List ℕ)). length l ≤ most_histories) (sym (rows_kept steps clause chain)) few)

  line_tells : (solver new : SolverView) (listed : ℕ) → s.stage ≡ stages.Searching solver listed → (clause : List Literal) →
      AddsDerived solver.kernel new.kernel clause → IsEarned (clauses_of solver.kernel) clause → derived_count new.kernel.entries ≤ s.ask.budget → new.sizes ≡ solver.sizes →
      TellsNext s (record s { stage = stages.Searching new listed }) (finds.Line (lines.Derived clause new.kernel.chain))
  line_tells solver new listed stage_is clause adds earned most sizes =
      tells_next (record s { stage = stages.Searching new listed }) (finds.Line (lines.Derived clause new.kernel.chain)) (λ axioms section stands.
      let here = searching axioms section solver listed stage_is stands in
      let holds = holds_line axioms here.steps solver new clause here.holds sizes adds in
      let within : counted_in (here.steps ++ Derive clause new.kernel.chain ∷ []) ≤ s.ask.budget =
      let few = counted_within axioms (here.steps ++ Derive clause new.kernel.chain ∷ []) new holds in omega arith in
      let on = line_of axioms section solver new listed clause here adds (λ _. earned) (earned_none_empty (clauses_of solver.kernel) clause earned) within in
      subst (λ (x : Section). IsBehind x (finds.Line (lines.Derived clause new.kernel.chain))
      × Stands axioms s.ask.count s.ask.budget (record s { stage = stages.Searching new listed }) (open_section (x.steps ++ Derive clause new.kernel.chain ∷ [])))
      (sym here.section_is) (
        (refl, refl),
        record {
          count_is = refl;
          budget_is = refl;
          axioms_are = stands.axioms_are;
          tells = listing_open laws (IsRowOf axioms.sizes axioms.clauses) axioms s.ask.count s.ask.budget (here.steps ++ Derive clause new.kernel.chain ∷ [])
              (clauses_of solver.kernel ++ clause ∷ []) on;
          few = few_line here.steps clause new.kernel.chain here.few;
          awaits = record {
            steps = here.steps ++ Derive clause new.kernel.chain ∷ [];
            section_is = refl;
            holds = holds;
            listed_is = here.listed_is ∙ ap (λ (l : List (List ℕ)). length l) (sym (rows_kept here.steps clause new.kernel.chain));
          };
        },
      ))

  empty_line_tells : (solver new : SolverView) (listed : ℕ) → s.stage ≡ stages.Searching solver listed →
      AddsDerived solver.kernel new.kernel [] → HasNoEmpty (clauses_of solver.kernel) →
      TellsNext s (record s { stage = stages.Refuted }) (finds.Line (lines.Derived [] new.kernel.chain))
  empty_line_tells solver new listed stage_is adds none =
      tells_next (record s { stage = stages.Refuted }) (finds.Line (lines.Derived [] new.kernel.chain)) (λ axioms section stands.
      let here = searching axioms section solver listed stage_is stands in
      let within : counted_in (here.steps ++ Derive [] new.kernel.chain ∷ []) ≤ s.ask.budget =
      let more = counted_more here.steps (Derive [] new.kernel.chain) in let before = here.on.told.within in omega arith in
      let on = line_of axioms section solver new listed [] here adds (λ some. absurd (some refl)) none within in
      let there : Contains (clauses_of solver.kernel ++ [] ∷ []) [] = Contains-append_right (clauses_of solver.kernel) ([] ∷ []) [] (in_first [] []) in
      subst (λ (x : Section). IsBehind x (finds.Line (lines.Derived [] new.kernel.chain))
      × Stands axioms s.ask.count s.ask.budget (record s { stage = stages.Refuted }) (open_section (x.steps ++ Derive [] new.kernel.chain ∷ [])))
      (sym here.section_is) (
        (refl, refl),
        record {
          count_is = refl;
          budget_is = refl;
          axioms_are = stands.axioms_are;
          tells = listing_open laws (IsRowOf axioms.sizes axioms.clauses) axioms s.ask.count s.ask.budget (here.steps ++ Derive [] new.kernel.chain ∷ [])
              (clauses_of solver.kernel ++ [] ∷ []) on;
          few = few_line here.steps [] new.kernel.chain here.few;
          awaits = record {
            steps = here.steps ++ Derive [] new.kernel.chain ∷ [];
            section_is = refl;
            empty = subst (λ (clauses : List (List Literal)). Contains clauses [])
                (added_behind axioms.sizes axioms.clauses (here.steps ++ Derive [] new.kernel.chain ∷ []) (clauses_of solver.kernel ++ [] ∷ []) on.told.fair) there;
          };
        },
      ))

  -- ---- a section that ends

  -- with no last row
  ends : (axioms : Axioms) (section : Section) (steps : List Step) (word : EndWord) → Stands axioms s.ask.count s.ask.budget s section → section ≡ open_section steps →
      TellsRows (IsRowOf axioms.sizes axioms.clauses) axioms s.ask.count s.ask.budget (section_of steps None (Some word)) →
      IsBehind section (finds.End word)
      × Stands axioms s.ask.count s.ask.budget (record s { stage = stages.Ended }) (found_behind section s.row (finds.End word))
  ends axioms section steps word stands section_is tells =
      subst (λ (x : Section). IsBehind x (finds.End word)
      × Stands axioms s.ask.count s.ask.budget (record s { stage = stages.Ended }) (found_behind x s.row (finds.End word)))
      (sym section_is) (
        refl,
        record {
          count_is = refl;
          budget_is = refl;
          axioms_are = stands.axioms_are;
          tells = tells;
          few = subst (λ (x : Section). length (rows_of x) ≤ most_histories) section_is stands.few;
          awaits = refl;
        },
      )

  spent_tells : (solver : SolverView) (listed : ℕ) → s.stage ≡ stages.Searching solver listed → derived_count solver.kernel.entries ≡ s.ask.budget →
      HasNoEmpty (clauses_of solver.kernel) → TellsNext s (record s { stage = stages.Ended }) (finds.End words.Spent)
  spent_tells solver listed stage_is all none =
      tells_next (record s { stage = stages.Ended }) (finds.End words.Spent) (λ axioms section stands.
      let here = searching axioms section solver listed stage_is stands in
      ends axioms section here.steps words.Spent stands here.section_is
      (listing_spent laws (IsRowOf axioms.sizes axioms.clauses) axioms s.ask.count s.ask.budget here.steps (clauses_of solver.kernel) here.on none
      (counted_as_derived axioms here.steps solver here.holds none ∙ all)))

  empty_tells : (solver : SolverView) (listed : ℕ) → s.stage ≡ stages.Searching solver listed → Contains (clauses_of solver.kernel) [] →
      TellsNext s (record s { stage = stages.Ended }) (finds.End words.Empty)
  empty_tells solver listed stage_is there =
      tells_next (record s { stage = stages.Ended }) (finds.End words.Empty) (λ axioms section stands.
      let here = searching axioms section solver listed stage_is stands in
      ends axioms section here.steps words.Empty stands here.section_is
      (listing_empty laws (IsRowOf axioms.sizes axioms.clauses) axioms s.ask.count s.ask.budget here.steps (clauses_of solver.kernel) here.on (own axioms) there))

  refuted_tells : s.stage ≡ stages.Refuted → TellsNext s (record s { stage = stages.Ended }) (finds.End words.Empty)
  refuted_tells stage_is =
      tells_next (record s { stage = stages.Ended }) (finds.End words.Empty) (λ axioms section stands.
      let a : IsRefuted axioms section = subst (λ (g : Stage). Awaits axioms section s.row g) stage_is stands.awaits in
      let tells = subst (λ (x : Section). TellsRows (IsRowOf axioms.sizes axioms.clauses) axioms s.ask.count s.ask.budget x) a.section_is stands.tells in
      let on = listing_on laws (IsRowOf axioms.sizes axioms.clauses) axioms s.ask.count s.ask.budget a.steps tells in
      ends axioms section a.steps words.Empty stands a.section_is
      (listing_empty laws (IsRowOf axioms.sizes axioms.clauses) axioms s.ask.count s.ask.budget a.steps on.0 on.1 (own axioms)
      (subst (λ (clauses : List (List Literal)). Contains clauses []) (sym (added_behind axioms.sizes axioms.clauses a.steps on.0 on.1.told.fair)) a.empty)))

  -- ---- rows

  least_at : (axioms : Axioms) (section : Section) (solver : SolverView) (listed : ℕ) (row : List ℕ) → IsOn axioms section solver listed →
      IsLeastRowOf solver.sizes (clauses_of solver.kernel) row → IsLeastRowOf axioms.sizes (clauses_of solver.kernel) row
  least_at axioms section solver listed row here least =
      subst (λ (sizes : List ℕ). IsLeastRowOf sizes (clauses_of solver.kernel) row) here.holds.sizes least

  row_tells : (solver new : SolverView) (listed : ℕ) → s.stage ≡ stages.Searching solver listed → (row : List ℕ) → IsLeastRowOf solver.sizes (clauses_of solver.kernel) row →
      new ≡ record solver { standing = Found row } → listed + 1 ≤ most_histories →
      TellsNext s (record s { row = row; stage = stages.Denying new (listed + 1) }) finds.Row
  row_tells solver new listed stage_is row least new_is low =
      tells_next (record s { row = row; stage = stages.Denying new (listed + 1) }) finds.Row (λ axioms section stands.
      let here = searching axioms section solver listed stage_is stands in
      subst (λ (x : Section). IsBehind x finds.Row
      × Stands axioms s.ask.count s.ask.budget (record s { row = row; stage = stages.Denying new (listed + 1) }) (section_of x.steps (Some row) None))
      (sym here.section_is) (
        (refl, refl),
        record {
          count_is = refl;
          budget_is = refl;
          axioms_are = stands.axioms_are;
          tells = listing_telling laws (IsRowOf axioms.sizes axioms.clauses) axioms s.ask.count s.ask.budget here.steps (clauses_of solver.kernel) here.on (own axioms) row
              (least_at axioms section solver listed row here least);
          few = let long = length_push (rows_in here.steps) row in let same = here.listed_is in
              subst (λ (n : ℕ). n ≤ most_histories) (ap (λ (n : ℕ). n + 1) same ∙ sym long) low;
          awaits = record {
            steps = here.steps;
            section_is = refl;
            holds = subst (λ (v : SolverView). Holds axioms here.steps v) (sym new_is)
                (record { sizes = here.holds.sizes; variables = here.holds.variables; few = here.holds.few; entries = here.holds.entries });
            least = subst (λ (v : SolverView). IsLeastRowOf v.sizes (clauses_of v.kernel) row) (sym new_is) least;
            standing = ap (λ (v : SolverView). v.standing) new_is;
            listed_is = ap (λ (n : ℕ). n + 1) here.listed_is;
          };
        },
      ))

  too_many : (solver : SolverView) (listed : ℕ) → s.stage ≡ stages.Searching solver listed → (row : List ℕ) → IsLeastRowOf solver.sizes (clauses_of solver.kernel) row →
      listed ≡ most_histories → IsRightFault s (faults.Refused (past limits.Histories))
  too_many solver listed stage_is row least many = (
    refl,
    λ axioms count most section stands.
        let asked = subst (λ (b : ℕ). Stands axioms s.ask.count b s section) (sym stands.budget_is)
        (subst (λ (c : Option ℕ). Stands axioms c most s section) (sym stands.count_is) stands) in
        let here = searching axioms section solver listed stage_is asked in
        subst (λ (x : Section). TellsTooMany axioms x) (sym here.section_is) (record {
          open_yet = refl;
          many = ap (λ (l : List (List ℕ)). length l) (append-nil (rows_in here.steps)) ∙ sym here.listed_is ∙ many;
          further = row;
          first = subst (λ (l : List (List ℕ)). AreFirstOf (IsRowOf axioms.sizes axioms.clauses) (l ++ row ∷ [])) (sym (append-nil (rows_in here.steps)))
              (listing_next laws (IsRowOf axioms.sizes axioms.clauses) axioms s.ask.count s.ask.budget here.steps (clauses_of solver.kernel) here.on (own axioms) row
              (least_at axioms section solver listed row here least));
        }),
  )

  -- ---- a row that was told

  record IsTelling (axioms : Axioms) (section : Section) (solver : SolverView) (listed : ℕ) : Type 0 where
    pub steps : List Step
    pub section_is : section ≡ section_of steps (Some s.row) None
    pub on : IsListingOn (IsRowOf axioms.sizes axioms.clauses) axioms s.ask.count s.ask.budget steps (clauses_of solver.kernel)
    pub holds : Holds axioms steps solver
    pub least : IsLeastRowOf axioms.sizes (clauses_of solver.kernel) s.row
    pub standing : solver.standing ≡ Found s.row
    pub listed_is : listed ≡ length (rows_in steps) + 1
    pub few : length (rows_in steps ++ s.row ∷ []) ≤ most_histories

  telling : (axioms : Axioms) (section : Section) (solver : SolverView) (listed : ℕ) → s.stage ≡ stages.Denying solver listed →
      Stands axioms s.ask.count s.ask.budget s section → IsTelling axioms section solver listed
  telling axioms section solver listed stage_is stands =
      let a : IsTold axioms section s.row solver listed = subst (λ (g : Stage). Awaits axioms section s.row g) stage_is stands.awaits in
      let tells = subst (λ (x : Section). TellsRows (IsRowOf axioms.sizes axioms.clauses) axioms s.ask.count s.ask.budget x) a.section_is stands.tells in
      let on = listing_on_told laws (IsRowOf axioms.sizes axioms.clauses) axioms s.ask.count s.ask.budget a.steps s.row tells in
      let same : on.0 ≡ clauses_of solver.kernel = added_behind axioms.sizes axioms.clauses a.steps on.0 on.1.told.fair
      ∙ sym (clauses_held axioms a.steps solver a.holds) in
      record {
        steps = a.steps;
        section_is = a.section_is;
        on = subst (λ (clauses : List (List Literal)). IsListingOn (IsRowOf axioms.sizes axioms.clauses) axioms s.ask.count s.ask.budget a.steps clauses) same on.1;
        holds = a.holds;
        least = subst (λ (sizes : List ℕ). IsLeastRowOf sizes (clauses_of solver.kernel) s.row) a.holds.sizes a.least;
        standing = a.standing;
        listed_is = a.listed_is;
        few = subst (λ (x : Section). length (rows_of x) ≤ most_histories) a.section_is stands.few;
      }

  asked_tells : (solver : SolverView) (listed : ℕ) → s.stage ≡ stages.Denying solver listed → s.ask.count ≡ Some listed →
      TellsNext s (record s { stage = stages.Ended }) (finds.End words.Found)
  asked_tells solver listed stage_is all =
      tells_next (record s { stage = stages.Ended }) (finds.End words.Found) (λ axioms section stands.
      let here = telling axioms section solver listed stage_is stands in
      subst (λ (x : Section). IsBehind x (finds.End words.Found)
      × Stands axioms s.ask.count s.ask.budget (record s { stage = stages.Ended }) (found_behind x s.row (finds.End words.Found)))
      (sym here.section_is) (
        refl,
        record {
          count_is = refl;
          budget_is = refl;
          axioms_are = stands.axioms_are;
          tells = listing_asked laws (IsRowOf axioms.sizes axioms.clauses) axioms s.ask.count s.ask.budget here.steps (clauses_of solver.kernel) here.on (own axioms) s.row
              here.least (all ∙ ap (λ (n : ℕ). Some n) here.listed_is);
          few = here.few;
          awaits = refl;
        },
      ))

  block_tells : (solver new : SolverView) (listed : ℕ) → s.stage ≡ stages.Denying solver listed → (s.ask.count ≡ Some listed → ⊥) → new.sizes ≡ solver.sizes →
      ((row : List ℕ) → solver.standing ≡ Found row → new.kernel ≡ added solver.kernel (row_denial solver.sizes row) origins.Block) → (row : List ℕ) → solver.standing ≡ Found row →
      TellsNext s (record s { stage = stages.Searching new listed }) (finds.Line (lines.Block row))
  block_tells solver new listed stage_is other sizes blocked row found =
      tells_next (record s { stage = stages.Searching new listed }) (finds.Line (lines.Block row)) (λ axioms section stands.
      let here = telling axioms section solver listed stage_is stands in
      let told = here.standing in
      let same : s.row ≡ row = cc in
      let fewer = still_fewer s.ask.count (length (rows_in here.steps)) here.on.may (λ is. other (is ∙ ap (λ (n : ℕ). Some n) (sym here.listed_is))) in
      let on = listing_denied laws (IsRowOf axioms.sizes axioms.clauses) axioms s.ask.count s.ask.budget here.steps (clauses_of solver.kernel) here.on (own axioms) s.row
      here.least fewer in
      subst (λ (r : List ℕ). IsBehind section (finds.Line (lines.Block r))
      × Stands axioms s.ask.count s.ask.budget (record s { stage = stages.Searching new listed }) (open_section (section.steps ++ Tell r ∷ []))) same
      (subst (λ (x : Section). IsBehind x (finds.Line (lines.Block s.row))
      × Stands axioms s.ask.count s.ask.budget (record s { stage = stages.Searching new listed }) (open_section (x.steps ++ Tell s.row ∷ [])))
      (sym here.section_is) (
        (refl, refl),
        record {
          count_is = refl;
          budget_is = refl;
          axioms_are = stands.axioms_are;
          tells = listing_open laws (IsRowOf axioms.sizes axioms.clauses) axioms s.ask.count s.ask.budget (here.steps ++ Tell s.row ∷ [])
              (clauses_of solver.kernel ++ row_denial axioms.sizes s.row ∷ []) on;
          few = few_open (here.steps ++ Tell s.row ∷ []) (subst (λ (l : List (List ℕ)). length l ≤ most_histories) (sym (rows_more here.steps s.row)) here.few);
          awaits = record {
            steps = here.steps ++ Tell s.row ∷ [];
            section_is = refl;
            holds = holds_block axioms here.steps solver new s.row here.holds sizes (blocked s.row told);
            listed_is = here.listed_is ∙ sym (ap (λ (l : List (List ℕ)). length l) (rows_more here.steps s.row) ∙ length_push (rows_in here.steps) s.row);
          };
        },
      )))

  -- ---- what each step gives

  pub gives_line : (solver new : SolverView) (listed : ℕ) → s.stage ≡ stages.Searching solver listed → (clause : List Literal) →
      AddsDerived solver.kernel new.kernel clause → IsEarned (clauses_of solver.kernel) clause → derived_count new.kernel.entries ≤ s.ask.budget → new.sizes ≡ solver.sizes →
      IsWithin s.ask solver listed → Gives s (record s { stage = stages.Searching new listed }) (finds.Line (lines.Derived clause new.kernel.chain))
  gives_line solver new listed stage_is clause adds earned most sizes within = record {
    tells = line_tells solver new listed stage_is clause adds earned most sizes;
    short = line_short s.ask solver new listed clause budget within adds;
    less = less_stage s s.row (stages.Searching solver listed) (stages.Searching new listed) stage_is
        (less_line parts.Histories solver new listed clause adds (omega arith));
    goes = λ is. absurd cc;
  }

  pub gives_empty_line : (solver new : SolverView) (listed : ℕ) → s.stage ≡ stages.Searching solver listed → AddsDerived solver.kernel new.kernel [] →
      HasNoEmpty (clauses_of solver.kernel) → IsWithin s.ask solver listed →
      Gives s (record s { stage = stages.Refuted }) (finds.Line (lines.Derived [] new.kernel.chain))
  gives_empty_line solver new listed stage_is adds none within = record {
    tells = empty_line_tells solver new listed stage_is adds none;
    short = line_short s.ask solver new listed [] budget within adds;
    less = less_stage s s.row (stages.Searching solver listed) stages.Refuted stage_is (omega arith);
    goes = λ is. absurd cc;
  }

  ended : (word : EndWord) (stage : Stage) → s.stage ≡ stage → 0 < left_at (phase_of stage) →
      TellsNext s (record s { stage = stages.Ended }) (finds.End word) → Gives s (record s { stage = stages.Ended }) (finds.End word)
  ended word stage stage_is some tells = record {
    tells = tells;
    short = tt;
    less = less_stage s s.row stage stages.Ended stage_is some;
    goes = refl;
  }

  pub gives_spent : (solver : SolverView) (listed : ℕ) → s.stage ≡ stages.Searching solver listed → derived_count solver.kernel.entries ≡ s.ask.budget →
      HasNoEmpty (clauses_of solver.kernel) → Gives s (record s { stage = stages.Ended }) (finds.End words.Spent)
  gives_spent solver listed stage_is all none =
      ended words.Spent (stages.Searching solver listed) stage_is (omega arith) (spent_tells solver listed stage_is all none)

  pub gives_empty : (solver : SolverView) (listed : ℕ) → s.stage ≡ stages.Searching solver listed → Contains (clauses_of solver.kernel) [] →
      Gives s (record s { stage = stages.Ended }) (finds.End words.Empty)
  gives_empty solver listed stage_is there =
      ended words.Empty (stages.Searching solver listed) stage_is (omega arith) (empty_tells solver listed stage_is there)

  pub gives_refuted : s.stage ≡ stages.Refuted → Gives s (record s { stage = stages.Ended }) (finds.End words.Empty)
  gives_refuted stage_is = ended words.Empty stages.Refuted stage_is (omega arith) (refuted_tells stage_is)

  pub gives_asked : (solver : SolverView) (listed : ℕ) → s.stage ≡ stages.Denying solver listed → s.ask.count ≡ Some listed →
      Gives s (record s { stage = stages.Ended }) (finds.End words.Found)
  gives_asked solver listed stage_is all =
      ended words.Found (stages.Denying solver listed) stage_is (omega arith) (asked_tells solver listed stage_is all)

  pub gives_row : (solver new : SolverView) (listed : ℕ) → s.stage ≡ stages.Searching solver listed → (row : List ℕ) →
      IsLeastRowOf solver.sizes (clauses_of solver.kernel) row → new ≡ record solver { standing = Found row } → listed + 1 ≤ most_histories →
      Gives s (record s { row = row; stage = stages.Denying new (listed + 1) }) finds.Row
  gives_row solver new listed stage_is row least new_is low = record {
    tells = row_tells solver new listed stage_is row least new_is low;
    short = tt;
    less = less_stage s row (stages.Searching solver listed) (stages.Denying new (listed + 1)) stage_is
        (less_history solver new listed (ap (λ (v : SolverView). v.kernel) new_is) low);
    goes = λ is. absurd cc;
  }

  pub gives_block : (solver new : SolverView) (listed denied : ℕ) → s.stage ≡ stages.Denying solver listed → (s.ask.count ≡ Some listed → ⊥) → new.sizes ≡ solver.sizes →
      ((row : List ℕ) → solver.standing ≡ Found row → new.kernel ≡ added solver.kernel (row_denial solver.sizes row) origins.Block) →
      (found : HasFound solver) → IsWithin s.ask solver denied →
      Gives s (record s { stage = stages.Searching new listed }) (finds.Line (lines.Block found.0))
  gives_block solver new listed denied stage_is other sizes blocked (row, standing, is_row) within = record {
    tells = block_tells solver new listed stage_is other sizes blocked row standing;
    short = row_short solver.kernel.variables solver.sizes row within.variables within.positions is_row;
    less = less_stage s s.row (stages.Denying solver listed) (stages.Searching new listed) stage_is
        (less_block solver new listed (row_denial solver.sizes row) (blocked row standing));
    goes = λ is. absurd cc;
  }

-- ---- what the calls join to

pub budget_low : (v now : SearchView) → v ≡ now → IsSearch v → now.ask.budget ≤ 2000000
budget_low v now same is = (subst (λ (s : SearchView). IsSearch s) same is).budget

gives_at : (s new expected : SearchView) (find given : Find) → new ≡ expected → find ≡ given → Gives s expected given → Gives s new find
gives_at s new expected find given new_is find_is gives =
    subst (λ (v : SearchView). Gives s v find) (sym new_is) (subst (λ (e : Find). Gives s expected e) (sym find_is) gives)

pub memory_fault : {T : Type 0} (r : Result T Fault) (s : SearchView) → IfErr r (λ fault. fault ≡ faults.OutOfMemory) → IfErr r (IsRightFault s)
memory_fault (Ok value) s is = tt
memory_fault (Err fault) s is = subst (λ (f : Fault). IsRightFault s f) (sym is) tt

pub line_gives : (laws : Laws) (r : Result Find Fault) (now new : SearchView) (old solver : SolverView) (listed : ℕ) →
    now.ask.budget ≤ 2000000 → IsStep now.ask.budget old solver answers.Line →
    ((clause : List Literal) → IsNumbered (clauses_of solver.kernel) (length solver.kernel.entries) clause → IfOk r (λ find. find ≡ finds.Line (lines.Derived clause solver.kernel.chain))) →
    OnOk r (new ≡ record now { stage = stages.Searching solver listed }) → IsWithin now.ask old listed →
    IfOk r (Gives (record now { stage = stages.Searching old listed }) new)
line_gives laws (Err fault) now new old solver listed budget step find stands within = tt
line_gives laws (Ok given) now new old solver listed budget (clause, some, adds, earned, most, sizes, ready) find stands within =
    gives_at (record now { stage = stages.Searching old listed }) new (record now { stage = stages.Searching solver listed }) given
    (finds.Line (lines.Derived clause solver.kernel.chain)) stands (find clause (last_numbered old.kernel solver.kernel clause adds))
    (gives_line laws (record now { stage = stages.Searching old listed }) budget old solver listed refl clause adds earned most sizes within)

pub empty_gives : (laws : Laws) (r : Result Find Fault) (now new : SearchView) (old solver : SolverView) (listed : ℕ) →
    now.ask.budget ≤ 2000000 → HasNoEmpty (clauses_of old.kernel) → IsStep now.ask.budget old solver answers.Refuted →
    ((clause : List Literal) → IsNumbered (clauses_of solver.kernel) (length solver.kernel.entries) clause → IfOk r (λ find. find ≡ finds.Line (lines.Derived clause solver.kernel.chain))) →
    OnOk r (new ≡ record now { stage = stages.Refuted }) → IsWithin now.ask old listed →
    IfOk r (Gives (record now { stage = stages.Searching old listed }) new)
empty_gives laws (Err fault) now new old solver listed budget none step find stands within = tt
empty_gives laws (Ok given) now new old solver listed budget none (sizes, standing, there, added) find stands within =
    let adds = added_empty old solver none there added in
    gives_at (record now { stage = stages.Searching old listed }) new (record now { stage = stages.Refuted }) given
    (finds.Line (lines.Derived [] solver.kernel.chain)) stands (find [] (last_numbered old.kernel solver.kernel [] adds))
    (gives_empty_line laws (record now { stage = stages.Searching old listed }) budget old solver listed refl adds none within)

pub row_gives : (laws : Laws) (r : Result Find Fault) (now new : SearchView) (old solver : SolverView) (listed : ℕ) (items : List ℕ) →
    now.ask.budget ≤ 2000000 → IsStep now.ask.budget old solver answers.Found → solver.standing ≡ Found items → IfOk r (λ find. find ≡ finds.Row) →
    OnOk r (new ≡ record now { row = items; stage = stages.Denying solver (listed + 1) }) → OnOk r (listed + 1 ≤ most_histories) →
    IfOk r (Gives (record now { stage = stages.Searching old listed }) new)
row_gives laws (Err fault) now new old solver listed items budget step standing find stands few = tt
row_gives laws (Ok given) now new old solver listed items budget step standing find stands few =
    let there = least_there now.ask.budget old solver items step standing in
    gives_at (record now { stage = stages.Searching old listed }) new (record now { row = items; stage = stages.Denying solver (listed + 1) }) given finds.Row stands find
    (gives_row laws (record now { stage = stages.Searching old listed }) budget old solver listed refl items there.0 there.1 few)

pub row_fault : (laws : Laws) (r : Result Find Fault) (now : SearchView) (old solver : SolverView) (listed : ℕ) (items : List ℕ) →
    now.ask.budget ≤ 2000000 → IsStep now.ask.budget old solver answers.Found → solver.standing ≡ Found items →
    IfErr r (λ fault. fault ≡ faults.Refused (past limits.Histories)) → OnErr r (listed ≡ most_histories) →
    IfErr r (IsRightFault (record now { stage = stages.Searching old listed }))
row_fault laws (Ok value) now old solver listed items budget step standing fault many = tt
row_fault laws (Err given) now old solver listed items budget step standing fault many =
    let there = least_there now.ask.budget old solver items step standing in
    subst (λ (f : Fault). IsRightFault (record now { stage = stages.Searching old listed }) f) (sym fault)
    (too_many laws (record now { stage = stages.Searching old listed }) budget old listed refl items there.0 many)

pub block_gives : (laws : Laws) (r : Result Find Fault) (now new : SearchView) (solver : SolverView) (listed : ℕ) → now.ask.budget ≤ 2000000 →
    (now.ask.count ≡ Some listed → ⊥) → ((row : List ℕ) → solver.standing ≡ Found row → IfOk r (λ find. find ≡ finds.Line (lines.Block row))) →
    OnOk r ((blocked : SolverView) × IsBlocked solver blocked × (new ≡ record now { stage = stages.Searching blocked listed })) → HasFound solver →
    ((denied : ℕ) × (listed ≡ denied + 1) × (denied + 1 ≤ most_histories) × IsWithin now.ask solver denied) →
    IfOk r (Gives (record now { stage = stages.Denying solver listed }) new)
block_gives laws (Err fault) now new solver listed budget other find stands found within = tt
block_gives laws (Ok given) now new solver listed budget other find (blocked, is, new_is) found within =
    gives_at (record now { stage = stages.Denying solver listed }) new (record now { stage = stages.Searching blocked listed }) given
    (finds.Line (lines.Block found.0)) new_is (find found.0 found.1)
    (gives_block laws (record now { stage = stages.Denying solver listed }) budget solver blocked listed within.0 refl other is.sizes is.kernel found within.3)

-- the end, where nothing more is to come already
over_as : (now : SearchView) → now.stage ≡ stages.Ended → now ≡ record now { stage = stages.Ended }
over_as now over = ap (λ (g : Stage). record now { stage = g }) over

pub asked_ends : (laws : Laws) (now : SearchView) (solver : SolverView) (listed : ℕ) → now.ask.budget ≤ 2000000 → now.stage ≡ stages.Ended → now.ask.count ≡ Some listed →
    Gives (record now { stage = stages.Denying solver listed }) now (finds.End words.Found)
asked_ends laws now solver listed budget over all =
    gives_at (record now { stage = stages.Denying solver listed }) now (record now { stage = stages.Ended }) (finds.End words.Found) (finds.End words.Found) (over_as now over) refl
    (gives_asked laws (record now { stage = stages.Denying solver listed }) budget solver listed refl all)

pub empty_ends : (laws : Laws) (now : SearchView) (solver : SolverView) (listed : ℕ) → now.ask.budget ≤ 2000000 → now.stage ≡ stages.Ended → Contains (clauses_of solver.kernel) [] →
    Gives (record now { stage = stages.Searching solver listed }) now (finds.End words.Empty)
empty_ends laws now solver listed budget over there =
    gives_at (record now { stage = stages.Searching solver listed }) now (record now { stage = stages.Ended }) (finds.End words.Empty) (finds.End words.Empty) (over_as now over) refl
    (gives_empty laws (record now { stage = stages.Searching solver listed }) budget solver listed refl there)

pub spent_ends : (laws : Laws) (now : SearchView) (old solver : SolverView) (listed : ℕ) → now.ask.budget ≤ 2000000 → now.stage ≡ stages.Ended →
    IsStep now.ask.budget old solver answers.Spent → Gives (record now { stage = stages.Searching old listed }) now (finds.End words.Spent)
spent_ends laws now old solver listed budget over (kept, all, none, stuck) =
    gives_at (record now { stage = stages.Searching old listed }) now (record now { stage = stages.Ended }) (finds.End words.Spent) (finds.End words.Spent) (over_as now over) refl
    (gives_spent laws (record now { stage = stages.Searching old listed }) budget old listed refl all none)

pub refuted_ends : (laws : Laws) (v now mid : SearchView) (taken : Stage) → v ≡ now → IsSearch v → mid ≡ record now { stage = stages.Ended } → taken ≡ now.stage →
    taken ≡ stages.Refuted → Gives now mid (finds.End words.Empty)
refuted_ends laws v now mid taken same is mid_is taken_is stage_is =
    gives_at now mid (record now { stage = stages.Ended }) (finds.End words.Empty) (finds.End words.Empty) mid_is refl
    (gives_refuted laws now (budget_low v now same is) (sym taken_is ∙ stage_is))

-- what was to come next was taken
pub as_taken : (now mid : SearchView) (taken given : Stage) → mid ≡ record now { stage = stages.Ended } → taken ≡ now.stage → taken ≡ given → record mid { stage = given } ≡ now
as_taken now mid taken given mid_is taken_is given_is =
    ap (λ (s : SearchView). record s { stage = given }) mid_is ∙ ap (λ (g : Stage). record now { stage = g }) (sym given_is ∙ taken_is)

pub ready_taken : (now mid : SearchView) (taken given : Stage) → mid ≡ record now { stage = stages.Ended } → taken ≡ given → IsReady now.ask taken → IsReady mid.ask given
ready_taken now mid taken given mid_is given_is ready =
    subst (λ (s : SearchView). IsReady s.ask given) (sym mid_is) (subst (λ (g : Stage). IsReady now.ask g) given_is ready)

-- what the solver answered, by the budget that is asked
pub answer_at : (budget : ℕ) (v now : SearchView) (old new : SolverView) (given answer : Answer) → budget ≡ v.ask.budget → v ≡ now → given ≡ answer →
    IsStep budget old new given → IsStep now.ask.budget old new answer
answer_at budget v now old new given answer budget_is same answer_is step =
    subst (λ (n : ℕ). IsStep n old new answer) (budget_is ∙ ap (λ (s : SearchView). s.ask.budget) same)
    (subst (λ (a : Answer). IsStep budget old new a) answer_is step)

-- ---- a search that begins

pub searching_more : (solver : SolverView) (listed : ℕ) → stages.Searching solver listed ≢ stages.Ended
searching_more solver listed over = absurd cc

some_asked : (count : Option ℕ) → IfSome count (λ most. 1 ≤ most) → IfSome count (λ most. 0 < most)
some_asked None is = tt
some_asked (Some most) is = omega arith

pub begun : (laws : Laws) (form : Axioms) (count : Option ℕ) (budget many : ℕ) (row : List ℕ) (solver : SolverView) → IfSome count (λ most. 1 ≤ most) →
    many ≡ length form.clauses → solver.sizes ≡ form.sizes → solver.kernel.variables ≡ form.variables → form.variables ≤ 4000000 →
    solver.kernel.entries ≡ axioms_of form.clauses →
    Stands form count budget
    (record { ask = record { count = count; budget = budget; after = None }; axioms = many; row = row; stage = stages.Searching solver 0 }) (open_section [])
begun laws form count budget many row solver some many_is sizes variables few entries = record {
  count_is = refl;
  budget_is = refl;
  axioms_are = many_is;
  tells = listing_open laws (IsRowOf form.sizes form.clauses) form count budget [] form.clauses
      (listing_begun laws (IsRowOf form.sizes form.clauses) form count budget (some_asked count some));
  few = omega arith;
  awaits = record { steps = []; section_is = refl; holds = holds_first form solver sizes variables few entries; listed_is = refl };
}

pub next_tells : (r : Result Find Fault) (old new : SearchView) (axioms : Axioms) (count : Option ℕ) (budget : ℕ) (section : Section) → IfOk r (Gives old new) →
    Stands axioms count budget old section → IfOk r (λ find. IsBehind section find × Stands axioms count budget new (found_behind section new.row find))
next_tells (Err fault) old new axioms count budget section gives stands = tt
next_tells (Ok find) old new axioms count budget section gives stands = gives.tells axioms count budget section stands

pub search_at_first : (count : Option ℕ) (budget many : ℕ) (row : List ℕ) (solver : SolverView) (form : Axioms) → budget ≤ 2000000 → solver.standing ≡ Ready →
    AreGoodAxioms form → solver.sizes ≡ form.sizes → solver.kernel.variables ≡ form.variables → form.variables ≤ 4000000 →
    solver.kernel.entries ≡ axioms_of form.clauses → length form.clauses ≤ 8000000 →
    IsSearch (record { ask = record { count = count; budget = budget; after = None }; axioms = many; row = row; stage = stages.Searching solver 0 })
search_at_first count budget many row solver form most ready good sizes variables low entries few = record {
  budget = most;
  ready = (
    ready,
    within_opened (record { count = count; budget = budget; after = None }) solver form good sizes variables low entries few,
  );
}
