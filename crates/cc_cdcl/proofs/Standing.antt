-- A solver by its parts: where it stands, and what a step leaves true.
use Rattle.std.proofs.Common.{◌≡◌, ◌∙◌, ℕ, ◌+◌, ◌<◌, ◌≤◌, List, [], ◌∷◌, ◌++◌, zero, suc, length, take, drop, get_or, replicate, set, false, refl, sym, subst, ap, append_assoc, arith}
use Rattle.std.specs.Prelude.{Contains, Bool}
use Rattle.std.specs.List.{sum}
use Rattle.std.specs.Vec.{with_items}
use Rattle.std.proofs.Math.Seq.{take-append_seam}
use Rattle.std.proofs.lemmas.List.{drop_more, take_more_set, with_items_is}
use Rattle.std.proofs.lemmas.List.Elements.{Contains-push}
use Rattle.std.proofs.lemmas.List.Sums.{sum_by-cons, sum_by-drop_more}
use Rattle.cc_defs.specs.Assignments.{IsClosed, IsFailed}
use Rattle.cc_defs.specs.Clauses.{Literal, IsClause, IsOver}
use Rattle.cc_defs.specs.Rows.{IsRow}
use Rattle.cc_defs.specs.Sections.{denial_from, row_denial}
use Rattle.cc_clauses.specs.RowsOf.{HasRow, IsLeastRowOf, MeetsAll}
use Rattle.cc_kernel.specs.declared.kernel.Origin.TheVariants as origins
use Rattle.cc_kernel.specs.Kernels.{KernelView, clauses_of}
use Rattle.cc_trail.specs.Steps.{AreSteps, steps_to, values_of, values_to}
use Rattle.cc_trail.specs.Trails.{TrailView, Fits, IsFailedClause, IsNew, IsSettled}
use Rattle.cc_cdcl.specs.declared.choice.Cursor.{Cursor}
use Rattle.cc_cdcl.specs.declared.probe.Phase.{Phase}
use Rattle.cc_cdcl.specs.declared.solver.Parts.TheInside.{Inside}
use Rattle.cc_cdcl.specs.declared.solver.State.{State}
use Rattle.cc_cdcl.specs.declared.solver.State.TheVariants as states
use Rattle.cc_cdcl.specs.Analysis.{OpenLevels}
use Rattle.cc_cdcl.specs.Choices.{AreChosen}
use Rattle.cc_cdcl.specs.Cursors.{IsCursor}
use Rattle.cc_cdcl.specs.Derivations.{IsBackOver, Learns}
use Rattle.cc_cdcl.specs.Laws.{LeastRowIsFound}
use Rattle.cc_cdcl.specs.LeastRows.{row_from, row_of, true_index}
use Rattle.cc_cdcl.specs.Searches.{IsInPhase, IsSearching, IsSection, IsTrailOf}
use Rattle.cc_cdcl.specs.Sets.{IsFull, assignment_of}
use Rattle.cc_cdcl.specs.SolverParts.{IsOfTrail, IsRunning, IsSolver, Stands, standing_of, view_of}
use Rattle.cc_cdcl.specs.Solvers.{AddsDerived, Failed, Found, IsStuck, Ready, Refuted, SolverView, Standing}
use Rattle.cc_cdcl.proofs.Closed.{full_met}
use Rattle.cc_clauses.proofs.Denials.{denial_is_clause, denial_over}
use Rattle.cc_cdcl.proofs.Denials.{denial_failed}
use Rattle.cc_cdcl.proofs.Deriving.{clauses_added, contains_numbered}
use Rattle.cc_cdcl.proofs.Descending.{chosen_more, opens_more}
use Rattle.cc_cdcl.proofs.Exactly.{has_row}
use Rattle.cc_cdcl.proofs.Leasts.{chosen_front}
use Rattle.cc_cdcl.proofs.Listing.{all_over, section_added, sum_within}
use Rattle.cc_cdcl.proofs.Placing.{cursors_back, cursors_grow}
use Rattle.cc_cdcl.proofs.Resolving.{opens_front}
use Rattle.cc_cdcl.proofs.Stepping.{back_front}

-- ---- where it stands

by_ready : (solver : Inside) (state : State) (row : List ℕ) → standing_of state row ≡ Ready → Stands state solver → IsRunning solver
by_ready solver states.Ready row is stands = stands
by_ready solver states.Found row is stands = absurd (never is)
  where
    never : Found row ≡ Ready → ⊥
    never e = cc
by_ready solver states.Refuted row is stands = absurd (never is)
  where
    never : Refuted ≡ Ready → ⊥
    never e = cc
by_ready solver states.Failed row is stands = absurd (never is)
  where
    never : Failed ≡ Ready → ⊥
    never e = cc

by_found : (solver : Inside) (state : State) (row found : List ℕ) → standing_of state row ≡ Found found → Stands state solver → IsRunning solver × IsOfTrail solver × (found ≡ row)
by_found solver states.Ready row found is stands = absurd (never is)
  where
    never : Ready ≡ Found found → ⊥
    never e = cc
by_found solver states.Found row found is stands = (stands.0, stands.1, same is)
  where
    same : Found row ≡ Found found → found ≡ row
    same e = cc
by_found solver states.Refuted row found is stands = absurd (never is)
  where
    never : Refuted ≡ Found found → ⊥
    never e = cc
by_found solver states.Failed row found is stands = absurd (never is)
  where
    never : Failed ≡ Found found → ⊥
    never e = cc

pub refilled : {X : Type 0} (n : ℕ) (items rest : List X) → length items ≡ n → take n (items ++ rest) ≡ items
refilled n items rest is = subst (λ (m : ℕ). take m (items ++ rest) ≡ items) is (take-append_seam items rest)

-- ---- what a step leaves true

pub searching_back : (sizes : List ℕ) (before after : KernelView) (old new : TrailView) (cursors : List Cursor) → IsSearching sizes before old cursors →
    AreSteps old.variables old.steps old.level_count → IsBackOver old new after → IsSearching sizes after new cursors
searching_back sizes before after old new cursors is are back =
    let (gone, front) = back_front back.back 0 old.steps are.rising in
    record {
      fits = back.fits;
      all = back.all;
      settled = back.settled;
      opened = subst OpenLevels (sym back.steps) (opens_more back.back (steps_to back.back old.steps) back.more back.each
          (opens_front [] (steps_to back.back old.steps) gone (subst OpenLevels front is.opened)));
      chosen = subst (AreChosen sizes) (sym back.steps) (chosen_more sizes back.back (steps_to back.back old.steps) back.more back.each
          (chosen_front sizes [] (steps_to back.back old.steps) gone (subst (AreChosen sizes) front is.chosen)));
      cursors = rw (back.variables, back.steps, back.level_count) (cursors_grow sizes old.variables (steps_to back.back old.steps) back.back cursors
          (cursors_back sizes old.variables old.steps old.level_count cursors is.cursors back.back back.low) back.more);
    }

derived_origin : origins.Derived ≡ origins.Axiom → ⊥
derived_origin e = cc

block_origin : origins.Block ≡ origins.Axiom → ⊥
block_origin e = cc

block_derived : origins.Block ≡ origins.Derived → ⊥
block_derived e = cc

pub section_learned : (sizes : List ℕ) (old new : KernelView) → IsSection sizes old → Learns old new → IsSection sizes new
section_learned sizes old new section learns =
    section_added sizes old new (record { clause = learns.clause; origin = origins.Derived }) section learns.adds.variables learns.adds.entries learns.is_clause learns.over
    derived_origin (λ e f. learns.earned)

pub section_refuted : (sizes : List ℕ) (old new : KernelView) → IsSection sizes old → AddsDerived old new [] → IsSection sizes new
section_refuted sizes old new section adds =
    section_added sizes old new (record { clause = []; origin = origins.Derived }) section adds.variables adds.entries tt tt derived_origin (λ e f. absurd (f refl))

pub section_blocked : (sizes : List ℕ) (old new : KernelView) (clause : List Literal) → IsSection sizes old → new.variables ≡ old.variables →
    new.entries ≡ old.entries ++ (record { clause = clause; origin = origins.Block }) ∷ [] → IsClause clause → IsOver old.variables clause → IsSection sizes new
section_blocked sizes old new clause section variables entries is over =
    section_added sizes old new (record { clause = clause; origin = origins.Block }) section variables entries is over block_origin (λ e f. absurd (block_derived e))

-- ---- the row that is found

pub row_long : (first : ℕ) (sizes : List ℕ) (a : ℕ → Bool) → length (row_from first sizes a) ≡ length sizes
row_long first [] a = refl
row_long first (size ∷ sizes) a = let rest = row_long (first + size) sizes a in omega arith

module _ (sizes : List ℕ) (kernel : KernelView) (trail : TrailView) (cursors : List Cursor) (section : IsSection sizes kernel) (searching : IsSearching sizes kernel trail cursors)
    (full : IsFull kernel.variables (values_of trail.steps)) (closed : IsClosed (values_of trail.steps) (clauses_of kernel)) where
  pub least_there : LeastRowIsFound → IsLeastRowOf sizes (clauses_of kernel) (row_of sizes (assignment_of (values_of trail.steps)))
  least_there law = law sizes kernel.variables (clauses_of kernel) trail.steps (all_over kernel.variables kernel.entries section.clauses) section.positions
      searching.fits.clauses.reasons searching.chosen full closed

  met : MeetsAll (assignment_of (values_of trail.steps)) (clauses_of kernel)
  met = full_met kernel.variables (clauses_of kernel) (values_of trail.steps) (all_over kernel.variables kernel.entries section.clauses) full closed

  pub row_there : IsRow sizes (row_of sizes (assignment_of (values_of trail.steps))) ×
      HasRow sizes (assignment_of (values_of trail.steps)) (row_of sizes (assignment_of (values_of trail.steps)))
  row_there = has_row (assignment_of (values_of trail.steps)) 1 sizes (λ clause here. met clause (section.positions clause here))

-- ---- a solver

module _ (inside : Inside) (old : SolverView) (is : view_of inside ≡ old) (invariant : IsSolver inside) where
  pub sizes_is : inside.sizes.items ≡ old.sizes
  sizes_is = ap (λ (v : SolverView). v.sizes) is

  pub kernel_is : inside.kernel ≡ old.kernel
  kernel_is = ap (λ (v : SolverView). v.kernel) is

  pub sizes_within : (sizes : List ℕ) → sizes ≡ inside.sizes.items → sum sizes ≤ inside.kernel.variables
  sizes_within sizes sizes_are = rw sizes_are (sum_within inside.sizes.items inside.kernel invariant.section)

  pub running : old.standing ≡ Ready → IsRunning inside
  running ready = by_ready inside inside.state inside.row.items (ap (λ (v : SolverView). v.standing) is ∙ ready) invariant.stands

  pub of_found : (found : List ℕ) → old.standing ≡ Found found → IsRunning inside × IsOfTrail inside × (found ≡ inside.row.items)
  of_found found is_found = by_found inside inside.state inside.row.items found (ap (λ (v : SolverView). v.standing) is ∙ is_found) invariant.stands

  pub view_ready : old.standing ≡ Ready → ◌≡◌ {A = SolverView} (record { sizes = inside.sizes.items; kernel = inside.kernel; standing = Ready }) old
  view_ready ready = ap (λ (v : SolverView). let w : SolverView = record v { standing = Ready } in w) is ∙
      ap (λ (s : Standing). let w : SolverView = record old { standing = s } in w) (sym ready)

  -- what is true where the search began
  pub begun : old.standing ≡ Ready → (phase : Phase) (trail : TrailView) →
      ((sizes : List ℕ) (cursors : List Cursor) → IsInPhase inside.probe.phase sizes inside.kernel inside.trail cursors → IsInPhase phase sizes inside.kernel trail cursors) →
      (sizes : List ℕ) (cursors : List Cursor) → sizes ≡ inside.sizes.items → cursors ≡ inside.cursors.items → IsInPhase phase sizes inside.kernel trail cursors
  begun ready phase trail begins sizes cursors sizes_are cursors_are =
      subst (λ (ns : List ℕ). IsInPhase phase ns inside.kernel trail cursors) (sym sizes_are)
      (subst (λ (cs : List Cursor). IsInPhase phase inside.sizes.items inside.kernel trail cs) (sym cursors_are)
      (begins inside.sizes.items inside.cursors.items (running ready).in_phase))

  -- the cursors after the search went on
  module _ (ready : old.standing ≡ Ready) (sizes : List ℕ) (sizes_are : sizes ≡ inside.sizes.items) (phase : Phase) (trail : TrailView) (cursors : List Cursor)
      (stands : IsInPhase phase sizes inside.kernel trail cursors) where
    pub went_on : IsInPhase phase inside.sizes.items inside.kernel trail (with_items inside.cursors cursors).items
    went_on = subst (λ (cs : List Cursor). IsInPhase phase inside.sizes.items inside.kernel trail cs)
        (sym (with_items_is inside.cursors cursors
        (let before = (running ready).in_phase.room in
        let after = stands.room in
        let one = (running ready).in_phase.of_kernel.fits.variables in
        let two = stands.of_kernel.fits.variables in
        let long = inside.cursors.ok.0 in omega arith)))
        (subst (λ (ns : List ℕ). IsInPhase phase ns inside.kernel trail cursors) sizes_are stands)

  -- the cursors after a line was counted behind that
  module _ (ready : old.standing ≡ Ready) (before : List Cursor) (kernel : KernelView) (variables_are : kernel.variables ≡ inside.kernel.variables) (phase : Phase)
      (trail : TrailView) (cursors : List Cursor) (stands : IsInPhase phase inside.sizes.items kernel trail cursors) where
    pub counted_on : IsInPhase phase inside.sizes.items kernel trail (with_items (with_items inside.cursors before) cursors).items
    counted_on = subst (λ (cs : List Cursor). IsInPhase phase inside.sizes.items kernel trail cs)
        (sym (with_items_is (with_items inside.cursors before) cursors
        (let first = (running ready).in_phase.room in
        let after = stands.room in
        let one = (running ready).in_phase.of_kernel.fits.variables in
        let two = stands.of_kernel.fits.variables in
        let same = variables_are in
        let long = inside.cursors.ok.0 in omega arith)))
        stands

  -- the row that was written
  module _ (sizes : List ℕ) (sizes_are : sizes ≡ inside.sizes.items) (trail : TrailView) (row : List ℕ)
      (row_is : row ≡ row_of sizes (assignment_of (values_of trail.steps))) where
    pub row_written : (with_items inside.row row).items ≡ row_of inside.sizes.items (assignment_of (values_of trail.steps))
    row_written =
        let long : length row ≡ length (row_of sizes (assignment_of (values_of trail.steps))) = ap length row_is in
        let all = row_long 1 sizes (assignment_of (values_of trail.steps)) in
        let same : length sizes ≡ length inside.sizes.items = ap length sizes_are in
        let room = invariant.room in
        let count = inside.row.ok.0 in
        refilled inside.row.len row (drop (length row) inside.row.items) (omega arith) ∙ row_is ∙
        ap (λ (ns : List ℕ). row_of ns (assignment_of (values_of trail.steps))) sizes_are

    pub row_room : length (with_items inside.row row).items ≡ length inside.sizes.items
    row_room = ap length row_written ∙ row_long 1 inside.sizes.items (assignment_of (values_of trail.steps))

    pub view_found : ◌≡◌ {A = SolverView} (record { sizes = inside.sizes.items; kernel = inside.kernel; standing = Found (with_items inside.row row).items })
        (record old { standing = Found (row_of inside.sizes.items (assignment_of (values_of trail.steps))) })
    view_found = ap (λ (ns : List ℕ). let v : SolverView = record { sizes = inside.sizes.items; kernel = inside.kernel; standing = Found ns } in v) row_written ∙
        ap (λ (v : SolverView). let w : SolverView = record v { standing = Found (row_of inside.sizes.items (assignment_of (values_of trail.steps))) } in w) is

  -- the clause that denies the row that was found
  module _ (found : List ℕ) (is_found : old.standing ≡ Found found) (clause : List Literal) (clause_is : clause ≡ row_denial inside.sizes.items inside.row.items) where
    pub denial_is : IsClause clause
    denial_is = subst IsClause (sym clause_is) (denial_is_clause 1 inside.sizes.items inside.row.items (of_found found is_found).1.is_row)

    pub denial_is_over : IsOver inside.kernel.variables clause
    denial_is_over = subst (IsOver inside.kernel.variables) (sym clause_is)
        (let most = sizes_within inside.sizes.items refl in
        denial_over inside.kernel.variables 1 inside.sizes.items inside.row.items (omega arith) (omega arith) (of_found found is_found).1.is_row)

    pub denial_is_failed : IsFailed (values_of inside.trail.steps) clause
    denial_is_failed = subst (IsFailed (values_of inside.trail.steps)) (sym clause_is)
        (denial_failed 1 inside.sizes.items inside.row.items (values_of inside.trail.steps) (of_found found is_found).1.is_row (of_found found is_found).1.has)

-- ---- a new one

pub first_of : (cursors : List Cursor) (count more : ℕ) (start : Cursor) → count ≡ suc more → cursors ≡ replicate count start → (other : Cursor) → get_or cursors 0 other ≡ start
first_of cursors count more start some is other = ap (λ (cs : List Cursor). get_or cs 0 other) (is ∙ ap (λ (n : ℕ). replicate n start) some)

pub searching_new : (sizes : List ℕ) (kernel : KernelView) (trail : TrailView) (cursors : List Cursor) → IsNew trail kernel → Fits trail kernel → IsSettled trail kernel →
    length cursors ≡ kernel.variables + 1 → ((other : Cursor) → get_or cursors 0 other ≡ record { position = 0; first = 1; variable = 1 }) → IsSearching sizes kernel trail cursors
searching_new sizes kernel trail cursors new fits settled room first = record {
  fits = fits;
  all = new.attached;
  settled = settled;
  opened = subst OpenLevels (sym new.steps) tt;
  chosen = subst (AreChosen sizes) (sym new.steps) tt;
  cursors = record {
    room = room ∙ ap (λ (n : ℕ). n + 1) (sym fits.variables);
    each = λ level other low.
        let none : level ≡ 0 = let levels = new.level_count in omega arith in
        subst (λ (n : ℕ). IsCursor sizes trail.variables (values_to n trail.steps) (get_or cursors n other)) (sym none)
        (subst (λ (c : Cursor). IsCursor sizes trail.variables (values_to 0 trail.steps) c) (sym (first other))
        (record { positions = refl; some = omega arith; most = omega arith; before = λ variable some low. absurd (omega arith) }));
  };
}

-- ---- the row and its denial, place by place

pub row_at : (sizes row : List ℕ) (index : ℕ) → IsRow (drop index sizes) (drop index row) → index < length sizes → (index < length row) × (get_or row index 0 < get_or sizes index 0)
row_at [] row index is low = absurd (omega arith)
row_at (size ∷ sizes) [] zero is low = absurd is
row_at (size ∷ sizes) (value ∷ row) zero is low = (omega arith, is.0)
row_at (size ∷ sizes) [] (suc index) is low = absurd (row_short sizes index is (omega arith))
  where
    row_short : (sizes : List ℕ) (index : ℕ) → IsRow (drop index sizes) [] → index < length sizes → ⊥
    row_short [] index is low = omega arith
    row_short (size ∷ sizes) zero is low = is
    row_short (size ∷ sizes) (suc index) is low = row_short sizes index is (omega arith)
row_at (size ∷ sizes) (value ∷ row) (suc index) is low = let rest = row_at sizes row index is (omega arith) in (omega (arith, rest.0), rest.1)

pub sum_at : (sizes : List ℕ) (index : ℕ) → index < length sizes → get_or sizes index 0 ≤ sum (drop index sizes)
sum_at [] index low = absurd (omega arith)
sum_at (size ∷ sizes) zero low = let all : sum (size ∷ sizes) ≡ size + sum sizes = sum_by-cons (λ (n : ℕ). n) size sizes in omega arith
sum_at (size ∷ sizes) (suc index) low = sum_at sizes index (omega arith)

pub sum_left : (sizes : List ℕ) (index first most : ℕ) → index < length sizes → first + sum (drop index sizes) ≤ most →
    first + get_or sizes index 0 + sum (drop (index + 1) sizes) ≤ most
sum_left sizes index first most low within =
    let all : sum (drop index sizes) ≡ get_or sizes index 0 + sum (drop (index + 1) sizes) = sum_by-drop_more (λ (n : ℕ). n) sizes index 0 low in omega arith

pub row_left : (sizes row : List ℕ) (index : ℕ) → IsRow (drop index sizes) (drop index row) → index < length sizes → IsRow (drop (index + 1) sizes) (drop (index + 1) row)
row_left sizes row index is low =
    let here = row_at sizes row index is low in
    let both : IsRow (get_or sizes index 0 ∷ drop (index + 1) sizes) (get_or row index 0 ∷ drop (index + 1) row) =
    subst (λ (ns : List ℕ). IsRow ns (get_or row index 0 ∷ drop (index + 1) row)) (drop_more sizes index 0 low)
    (subst (λ (ns : List ℕ). IsRow (drop index sizes) ns) (drop_more row index 0 here.0) is) in
    both.1

pub denial_left : (sizes row : List ℕ) (index first : ℕ) (clause next : List Literal) → index < length sizes → index < length row →
    next ≡ clause ++ (record { variable = first + get_or row index 0; positive = false }) ∷ [] →
    next ++ denial_from (first + get_or sizes index 0) (drop (index + 1) sizes) (drop (index + 1) row) ≡ clause ++ denial_from first (drop index sizes) (drop index row)
denial_left sizes row index first clause next low row_low next_is =
    let rest = denial_from (first + get_or sizes index 0) (drop (index + 1) sizes) (drop (index + 1) row) in
    ap (λ (lits : List Literal). lits ++ rest) next_is
    ∙ append_assoc clause ((record { variable = first + get_or row index 0; positive = false }) ∷ []) rest
    ∙ sym (λ i. clause ++ denial_from first (drop_more sizes index 0 low i) (drop_more row index 0 row_low i))

pub row_more : (sizes row : List ℕ) (index first value : ℕ) (a : ℕ → Bool) → length row ≡ length sizes → index < length sizes →
    value ≡ true_index a first (get_or sizes index 0) →
    take (index + 1) (set row index value) ++ row_from (first + get_or sizes index 0) (drop (index + 1) sizes) a ≡ take index row ++ row_from first (drop index sizes) a
row_more sizes row index first value a room low value_is =
    let rest = row_from (first + get_or sizes index 0) (drop (index + 1) sizes) a in
    ap (λ (ns : List ℕ). ns ++ rest) (take_more_set row index value (omega arith))
    ∙ append_assoc (take index row) (value ∷ []) rest
    ∙ ap (λ (n : ℕ). take index row ++ n ∷ rest) value_is
    ∙ sym (ap (λ (ns : List ℕ). take index row ++ row_from first ns a) (drop_more sizes index 0 low))

-- ---- what a step says

pub empty_added : (old new : KernelView) → AddsDerived old new [] → Contains (clauses_of new) []
empty_added old new adds = subst (λ (cs : List (List Literal)). Contains cs [])
    (sym (clauses_added old new.entries (record { clause = []; origin = origins.Derived }) adds.entries)) (Contains-push (clauses_of old) [])

-- a false clause behind a decision
pub stuck : (kernel old : KernelView) (trail : TrailView) (id : ℕ) → kernel ≡ old → IsTrailOf kernel trail →
    AreSteps trail.variables trail.steps trail.level_count → 0 < trail.level_count → IsFailedClause (clauses_of kernel) trail.steps id →
    IsStuck old.variables (clauses_of old)
stuck kernel old trail id same is are decided (clause, numbered, failed) =
    subst (λ (k : KernelView). IsStuck k.variables (clauses_of k)) same (record {
      steps = trail.steps;
      levels = trail.level_count;
      are_steps = subst (λ (n : ℕ). AreSteps n trail.steps trail.level_count) is.fits.variables are;
      decided = decided;
      reasoned = is.fits.clauses.reasons;
      settled = is.settled;
      clause = clause;
      there = contains_numbered (clauses_of kernel) id clause numbered;
      failed = failed;
    })
