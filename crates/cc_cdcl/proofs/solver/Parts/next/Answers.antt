use Rattle.std.proofs.Common.{◌≡◌, ◌∙◌, ◌+◌, ℕ, inl, inr, List, [], refl, sym, subst, ap, arith, ◌<◌, length}
use Rattle.std.specs.Prelude.{Contains, is_some}
use Rattle.std.specs.Vec.{with_items}
use Rattle.cc_defs.specs.Assignments.{HasOpen, IsEarned}
use Rattle.cc_clauses.specs.RowsOf.{HasRow, IsLeastRowOf}
use Rattle.cc_defs.specs.Rows.{IsRow}
use Rattle.cc_kernel.specs.Kernels.{KernelView, clauses_of, derived_count}
use Rattle.cc_trail.specs.Steps.{values_of}
use Rattle.cc_cdcl.specs.declared.choice.Cursor.{Cursor}
use Rattle.cc_cdcl.specs.declared.probe.Phase.{Phase}
use Rattle.cc_cdcl.specs.LeastRows.{row_of}
use Rattle.cc_cdcl.specs.Sets.{assignment_of}
use Rattle.cc_cdcl.specs.Searches.{IsInPhase, IsSearching}
use Rattle.cc_cdcl.specs.Solvers.{AddsDerived, axiom_clauses, HasPositions}
use Rattle.cc_cdcl.proofs.Deriving.{on_err}
use Rattle.cc_cdcl.proofs.Listing.{count_derived, empty_not_there, empty_there, few_derived, section_kept, found_not_spent, line_not_spent, one_more, refuted_not_spent}
use Rattle.cc_cdcl.proofs.Probing.{phase_back}
use Rattle.cc_cdcl.proofs.Standing.{begun, counted_on, empty_added, kernel_is, least_there, row_room, row_there, row_written, running, section_learned, section_refuted, sizes_is, sizes_within, stuck, view_found, view_ready, went_on}
use Rattle.cc_cdcl.proofs.solver.Parts.next.Goals as goal

pub returns-then-is_some-clause-step : goal.returns-then-is_some-clause-step
returns-then-is_some-clause-step c = (
  sizes_is c.self.inside c.args.self.now c.self.view_is c.self.invariant,
  refl,
  empty_there c.self.inside.kernel.entries 1 (ap (λ o. is_some {T = ℕ} o) (sym c.refuted.ensures) ∙ sym c.is_some.ensures ∙ c.if-is_some.true),
  inl (kernel_is c.self.inside c.args.self.now c.self.view_is c.self.invariant),
)

pub search_on-failed-requires-clause-sizes : goal.search_on-failed-requires-clause-sizes
search_on-failed-requires-clause-sizes c = sizes_within c.self.inside c.args.self.now c.self.view_is c.self.invariant c.deref.result.now c.deref.ensures.value

pub search_on-failed-requires-clause-phase : goal.search_on-failed-requires-clause-phase
search_on-failed-requires-clause-phase c =
    begun c.self.inside c.args.self.now c.self.view_is c.self.invariant c.requires.ready c.begin.new.probe.phase c.begin.new.trail c.in_ok-begin.ensures
    c.deref.result.now c.deref_mut.result.now c.deref.ensures.value c.deref_mut.ensures.value

pub write_row-requires-clause-sizes : goal.write_row-requires-clause-sizes
write_row-requires-clause-sizes c =
    let within = sizes_within c.self.inside c.args.self.now c.self.view_is c.self.invariant c.deref-in-None.result.now c.deref-in-None.ensures.value in
    let same = c.search_on-failed.ensures.phase.of_kernel.fits.variables in omega arith

pub invariant_of-self-in-None : goal.invariant_of-self-in-None
invariant_of-self-in-None c =
    let searching : IsSearching c.self.inside.sizes.items c.self.inside.kernel c.search_on-failed.new.trail c.search_on-failed.new.cursors =
    subst (λ (ns : List ℕ). IsSearching ns c.self.inside.kernel c.search_on-failed.new.trail c.search_on-failed.new.cursors) c.deref.ensures.value c.in-None.ensures.searching in
    let there = row_there c.self.inside.sizes.items c.self.inside.kernel c.search_on-failed.new.trail _ c.self.invariant.section searching
    c.in-None.ensures.full c.in-None.ensures.closed in
    let written = row_written c.self.inside c.args.self.now c.self.view_is c.self.invariant c.deref-in-None.result.now c.deref-in-None.ensures.value
    c.search_on-failed.new.trail c.write_row.new.row c.write_row.ensures in
    record {
      section = c.self.invariant.section;
      room = row_room c.self.inside c.args.self.now c.self.view_is c.self.invariant c.deref-in-None.result.now c.deref-in-None.ensures.value
          c.search_on-failed.new.trail c.write_row.new.row c.write_row.ensures;
      stands = (
        record {
          derived = (running c.self.inside c.args.self.now c.self.view_is c.self.invariant c.requires.ready).derived;
          in_phase = went_on c.self.inside c.args.self.now c.self.view_is c.self.invariant c.requires.ready c.deref.result.now c.deref.ensures.value c.search_on-failed.new.probe.phase
              c.search_on-failed.new.trail c.search_on-failed.new.cursors c.search_on-failed.ensures.phase;
        },
        record {
          is_row = subst (λ (row : List ℕ). IsRow c.self.inside.sizes.items row) (sym written) there.0;
          has = subst (λ (row : List ℕ). HasRow c.self.inside.sizes.items (assignment_of (values_of c.search_on-failed.new.trail.steps)) row) (sym written) there.1;
        },
      );
    }

pub invariant_of-self-in_err-refute-in-Some : goal.invariant_of-self-in_err-refute-in-Some
invariant_of-self-in_err-refute-in-Some c = record {
  section = section_kept c.self.inside.sizes.items c.self.inside.kernel c.refute.new.kernel c.self.invariant.section c.in_err-refute-in-Some.ensures.kept;
  room = c.self.invariant.room;
  stands = tt;
}

pub invariant_of-self-then-level_count-eq0 : goal.invariant_of-self-then-level_count-eq0
invariant_of-self-then-level_count-eq0 c = record {
  section = section_refuted c.self.inside.sizes.items c.self.inside.kernel c.refute.new.kernel c.self.invariant.section c.in_ok-refute-in-Some.ensures.refuted;
  room = c.self.invariant.room;
  stands = tt;
}

pub returns-then-level_count-eq0-clause-step : goal.returns-then-level_count-eq0-clause-step
returns-then-level_count-eq0-clause-step c = (
  sizes_is c.self.inside c.args.self.now c.self.view_is c.self.invariant,
  refl,
  empty_added c.self.inside.kernel c.refute.new.kernel c.in_ok-refute-in-Some.ensures.refuted,
  inr (subst (λ (k : KernelView). AddsDerived k c.refute.new.kernel []) (kernel_is c.self.inside c.args.self.now c.self.view_is c.self.invariant)
      c.in_ok-refute-in-Some.ensures.refuted),
)

pub invariant_of-self-then-self-budget : goal.invariant_of-self-then-self-budget
invariant_of-self-then-self-budget c = record {
  section = c.self.invariant.section;
  room = c.self.invariant.room;
  stands = record {
    derived = (running c.self.inside c.args.self.now c.self.view_is c.self.invariant c.requires.ready).derived;
    in_phase = went_on c.self.inside c.args.self.now c.self.view_is c.self.invariant c.requires.ready c.deref.result.now c.deref.ensures.value c.search_on-failed.new.probe.phase
        c.search_on-failed.new.trail c.search_on-failed.new.cursors c.search_on-failed.ensures.phase;
  };
}

pub returns-then-self-budget-clause-step : goal.returns-then-self-budget-clause-step
returns-then-self-budget-clause-step c = (
  view_ready c.self.inside c.args.self.now c.self.view_is c.self.invariant c.requires.ready,
  ap (λ (k : KernelView). derived_count k.entries) (sym (kernel_is c.self.inside c.args.self.now c.self.view_is c.self.invariant)) ∙
      sym (running c.self.inside c.args.self.now c.self.view_is c.self.invariant c.requires.ready).derived ∙ c.if-self-budget.true,
  subst (λ (k : KernelView). Contains (clauses_of k) [] → ⊥) (kernel_is c.self.inside c.args.self.now c.self.view_is c.self.invariant)
      (empty_not_there c.self.inside.kernel.entries 1 (ap (λ o. is_some {T = ℕ} o) (sym c.refuted.ensures) ∙ sym c.is_some.ensures ∙ c.if-is_some.false)),
  (let levels = c.level_count.ensures.level_count in
      let some = c.if-level_count-eq0.false in
      stuck c.self.inside.kernel c.args.self.now.kernel c.search_on-failed.new.trail c.in-Some.id
      (kernel_is c.self.inside c.args.self.now c.self.view_is c.self.invariant) c.search_on-failed.ensures.phase.of_kernel c.level_count.ensures.steps (omega arith)
      c.in-Some.ensures.failed),
)

pub returns-then-self-budget-clause-enough : goal.returns-then-self-budget-clause-enough
returns-then-self-budget-clause-enough c = λ opens open_are most same.
    let low = few_derived c.earned_lines_are_few.ensures c.self.inside.sizes.items c.self.inside.kernel c.self.invariant.section
    (empty_not_there c.self.inside.kernel.entries 1 (ap (λ o. is_some {T = ℕ} o) (sym c.refuted.ensures) ∙ sym c.is_some.ensures ∙ c.if-is_some.false)) opens
    (subst (λ (k : KernelView). HasOpen k.variables (axiom_clauses k) opens) (sym (kernel_is c.self.inside c.args.self.now c.self.view_is c.self.invariant)) open_are) in
    let count = (running c.self.inside c.args.self.now c.self.view_is c.self.invariant c.requires.ready).derived in
    let spent = c.if-self-budget.true in omega arith

pub invariant_of-self-in_err-learn-in-Some : goal.invariant_of-self-in_err-learn-in-Some
invariant_of-self-in_err-learn-in-Some c = record {
  section = elim c.in_err-learn-in-Some.ensures.broken [
    | inl kept ↦ section_kept c.self.inside.sizes.items c.self.inside.kernel c.learn.new.kernel c.self.invariant.section kept
    | inr learns ↦ section_learned c.self.inside.sizes.items c.self.inside.kernel c.learn.new.kernel c.self.invariant.section learns
  ];
  room = c.self.invariant.room;
  stands = tt;
}

pub returns-in_err-learn-in-Some-clause-broken : goal.returns-in_err-learn-in-Some-clause-broken
returns-in_err-learn-in-Some-clause-broken c =
    let same = kernel_is c.self.inside c.args.self.now c.self.view_is c.self.invariant in
    let sizes = sizes_is c.self.inside c.args.self.now c.self.view_is c.self.invariant in
    on_err _ c.from_residual-in_err-learn-in-Some.result
    (elim c.in_err-learn-in-Some.ensures.broken [
      | inl kept ↦ (
        record { standing = refl; sizes = sizes },
        kept.variables ∙ ap (λ (k : KernelView). k.variables) same,
        inl (kept.entries ∙ ap (λ (k : KernelView). k.entries) same),
      )
      | inr learns ↦ (
        record { standing = refl; sizes = sizes },
        learns.adds.variables ∙ ap (λ (k : KernelView). k.variables) same,
        inr (learns.clause, subst (λ (k : KernelView). AddsDerived k c.learn.new.kernel learns.clause) same learns.adds),
      )
    ])

pub invariant_of-self-in-Some : goal.invariant_of-self-in-Some
invariant_of-self-in-Some c =
    let before = running c.self.inside c.args.self.now c.self.view_is c.self.invariant c.requires.ready in
    let learns = c.in_ok-learn-in-Some.ensures.learned in
    let count : derived_count c.learn.new.kernel.entries ≡ derived_count c.self.inside.kernel.entries + 1 =
    ap derived_count learns.adds.entries ∙ count_derived c.self.inside.kernel.entries learns.clause in
    let learned : IsInPhase c.search_on-failed.new.probe.phase c.self.inside.sizes.items c.learn.new.kernel c.learn.new.trail (with_items c.self.inside.cursors c.search_on-failed.new.cursors).items =
    phase_back c.search_on-failed.new.probe.phase c.self.inside.sizes.items c.self.inside.kernel c.learn.new.kernel c.search_on-failed.new.trail c.learn.new.trail
    (with_items c.self.inside.cursors c.search_on-failed.new.cursors).items
    (went_on c.self.inside c.args.self.now c.self.view_is c.self.invariant c.requires.ready c.deref.result.now c.deref.ensures.value c.search_on-failed.new.probe.phase
    c.search_on-failed.new.trail c.search_on-failed.new.cursors c.search_on-failed.ensures.phase) c.level_count.ensures.steps c.in_ok-learn-in-Some.ensures.back in
    let noted : IsInPhase c.learn.new.probe.phase c.self.inside.sizes.items c.learn.new.kernel c.learn.new.trail (with_items c.self.inside.cursors c.search_on-failed.new.cursors).items =
    subst (λ (phase : Phase). IsInPhase phase c.self.inside.sizes.items c.learn.new.kernel c.learn.new.trail (with_items c.self.inside.cursors c.search_on-failed.new.cursors).items)
    (sym c.learn.ensures.phase) learned in
    record {
      section = section_learned c.self.inside.sizes.items c.self.inside.kernel c.learn.new.kernel c.self.invariant.section learns;
      room = c.self.invariant.room;
      stands = record {
        derived = ap (λ (n : ℕ). n + 1) before.derived ∙ sym count;
        in_phase = counted_on c.self.inside c.args.self.now c.self.view_is c.self.invariant c.requires.ready c.search_on-failed.new.cursors c.learn.new.kernel learns.adds.variables
            c.count_line.new.probe.phase c.count_line.new.trail c.count_line.new.cursors
            (c.count_line.ensures c.self.inside.sizes.items c.learn.new.kernel
            (subst (λ (cs : List Cursor). IsInPhase c.learn.new.probe.phase c.self.inside.sizes.items c.learn.new.kernel c.learn.new.trail cs)
            (sym c.deref_mut-in-Some.ensures.value) noted));
      };
    }

pub returns-in-None-clause-step : goal.returns-in-None-clause-step
returns-in-None-clause-step c =
    let same = kernel_is c.self.inside c.args.self.now c.self.view_is c.self.invariant in
    let sizes = sizes_is c.self.inside c.args.self.now c.self.view_is c.self.invariant in
    let searching : IsSearching c.self.inside.sizes.items c.self.inside.kernel c.search_on-failed.new.trail c.search_on-failed.new.cursors =
    subst (λ (ns : List ℕ). IsSearching ns c.self.inside.kernel c.search_on-failed.new.trail c.search_on-failed.new.cursors) c.deref.ensures.value c.in-None.ensures.searching in
    let least = least_there c.self.inside.sizes.items c.self.inside.kernel c.search_on-failed.new.trail _ c.self.invariant.section searching
    c.in-None.ensures.full c.in-None.ensures.closed c.least_row_is_found.ensures in (
      row_of c.self.inside.sizes.items (assignment_of (values_of c.search_on-failed.new.trail.steps)),
      subst (λ (ns : List ℕ). IsLeastRowOf ns (clauses_of c.args.self.now.kernel) (row_of c.self.inside.sizes.items (assignment_of (values_of c.search_on-failed.new.trail.steps)))) sizes
          (subst (λ (k : KernelView). IsLeastRowOf c.self.inside.sizes.items (clauses_of k) (row_of c.self.inside.sizes.items (assignment_of (values_of c.search_on-failed.new.trail.steps)))) same least),
      view_found c.self.inside c.args.self.now c.self.view_is c.self.invariant c.deref-in-None.result.now c.deref-in-None.ensures.value
          c.search_on-failed.new.trail c.write_row.new.row c.write_row.ensures,
    )

pub returns-in_ok-learn-in-Some-clause-step : goal.returns-in_ok-learn-in-Some-clause-step
returns-in_ok-learn-in-Some-clause-step c =
    let same = kernel_is c.self.inside c.args.self.now c.self.view_is c.self.invariant in
    let before = running c.self.inside c.args.self.now c.self.view_is c.self.invariant c.requires.ready in
    let learns = c.in_ok-learn-in-Some.ensures.learned in
    let count : derived_count c.learn.new.kernel.entries ≡ derived_count c.self.inside.kernel.entries + 1 =
    ap derived_count learns.adds.entries ∙ count_derived c.self.inside.kernel.entries learns.clause in
    let equal : derived_count c.self.inside.kernel.entries ≡ derived_count c.args.self.now.kernel.entries = ap (λ (k : KernelView). derived_count k.entries) same in (
      learns.clause,
      learns.some,
      subst (λ (k : KernelView). AddsDerived k c.learn.new.kernel learns.clause) same learns.adds,
      subst (λ (k : KernelView). IsEarned (clauses_of k) learns.clause) same learns.earned,
      one_more _ _ _ _ _ count equal before.derived c.requires.budget c.if-self-budget.false,
      sizes_is c.self.inside c.args.self.now c.self.view_is c.self.invariant,
      refl,
    )

pub learn-requires-clause-few : goal.learn-requires-clause-few
learn-requires-clause-few c = subst (λ (k : KernelView). length k.entries < 4000000000) (sym (kernel_is c.self.inside c.args.self.now c.self.view_is c.self.invariant)) c.requires.few

pub refute-requires-clause-few : goal.refute-requires-clause-few
refute-requires-clause-few c = subst (λ (k : KernelView). length k.entries < 4000000000) (sym (kernel_is c.self.inside c.args.self.now c.self.view_is c.self.invariant)) c.requires.few

pub learn-requires-clause-settled : goal.learn-requires-clause-settled
learn-requires-clause-settled c = c.search_on-failed.ensures.phase.of_kernel.settled

pub refute-requires-clause-settled : goal.refute-requires-clause-settled
refute-requires-clause-settled c = c.search_on-failed.ensures.phase.of_kernel.settled

pub learn-requires-clause-fits : goal.learn-requires-clause-fits
learn-requires-clause-fits c = c.search_on-failed.ensures.phase.of_kernel.fits

pub refute-requires-clause-fits : goal.refute-requires-clause-fits
refute-requires-clause-fits c = c.search_on-failed.ensures.phase.of_kernel.fits

pub learn-requires-clause-opened : goal.learn-requires-clause-opened
learn-requires-clause-opened c = c.search_on-failed.ensures.phase.of_kernel.opened

pub learn-requires-clause-all : goal.learn-requires-clause-all
learn-requires-clause-all c = c.search_on-failed.ensures.phase.of_kernel.all

pub learn-requires-clause-failed : goal.learn-requires-clause-failed
learn-requires-clause-failed c = c.in-Some.ensures.failed

pub refute-requires-clause-failed : goal.refute-requires-clause-failed
refute-requires-clause-failed c = c.in-Some.ensures.failed

pub learn-requires-clause-level : goal.learn-requires-clause-level
learn-requires-clause-level c = let levels = c.level_count.ensures.level_count in let some = c.if-level_count-eq0.false in omega arith

pub refute-requires-clause-level : goal.refute-requires-clause-level
refute-requires-clause-level c = sym c.level_count.ensures.level_count ∙ c.if-level_count-eq0.true

pub returns-in_ok-learn-in-Some-clause-enough : goal.returns-in_ok-learn-in-Some-clause-enough
returns-in_ok-learn-in-Some-clause-enough c = λ opens open_are most. line_not_spent

pub returns-then-level_count-eq0-clause-enough : goal.returns-then-level_count-eq0-clause-enough
returns-then-level_count-eq0-clause-enough c = λ opens open_are most. refuted_not_spent

pub returns-in-None-clause-enough : goal.returns-in-None-clause-enough
returns-in-None-clause-enough c = λ opens open_are most. found_not_spent

pub write_row-requires-clause-room : goal.write_row-requires-clause-room
write_row-requires-clause-room c = ap length c.deref_mut-in-None.ensures.value ∙ c.self.invariant.room ∙ sym (ap length c.deref-in-None.ensures.value)

pub begin-requires : goal.begin-requires
begin-requires c = (running c.self.inside c.args.self.now c.self.view_is c.self.invariant c.requires.ready).in_phase.of_kernel

pub count_line-requires : goal.count_line-requires
count_line-requires c =
    ap length c.deref_mut-in-Some.ensures.value
    ∙ (went_on c.self.inside c.args.self.now c.self.view_is c.self.invariant c.requires.ready c.deref.result.now c.deref.ensures.value c.search_on-failed.new.probe.phase c.search_on-failed.new.trail c.search_on-failed.new.cursors c.search_on-failed.ensures.phase).room
    ∙ ap (λ (n : ℕ). n + 1) (sym c.in_ok-learn-in-Some.ensures.back.variables)

pub search_on-failed-requires-clause-positions : goal.search_on-failed-requires-clause-positions
search_on-failed-requires-clause-positions c = subst (λ (ns : List ℕ). HasPositions ns c.self.inside.kernel) (sym c.deref.ensures.value) c.self.invariant.section.positions

pub overflow_add-self : goal.overflow_add-self
overflow_add-self c =
    let count = (running c.self.inside c.args.self.now c.self.view_is c.self.invariant c.requires.ready).derived in
    let same = ap (λ (k : KernelView). derived_count k.entries) (kernel_is c.self.inside c.args.self.now c.self.view_is c.self.invariant) in
    let most = c.requires.budget in
    let apart = c.if-self-budget.false in
    let few = c.ranges.budget.fits in
    omega arith

pub refute-requires-clause-opened : goal.refute-requires-clause-opened
refute-requires-clause-opened c = c.search_on-failed.ensures.phase.of_kernel.opened

pub returns-then-is_some-clause-enough : goal.returns-then-is_some-clause-enough
returns-then-is_some-clause-enough c = λ opens open_are most. refuted_not_spent

pub returns-in_err-refute-in-Some-clause-broken : goal.returns-in_err-refute-in-Some-clause-broken
returns-in_err-refute-in-Some-clause-broken c =
    let same = kernel_is c.self.inside c.args.self.now c.self.view_is c.self.invariant in
    let kept = c.in_err-refute-in-Some.ensures.kept in
    on_err _ c.from_residual-in_err-refute-in-Some.result (
      record { standing = refl; sizes = sizes_is c.self.inside c.args.self.now c.self.view_is c.self.invariant },
      kept.variables ∙ ap (λ (k : KernelView). k.variables) same,
      inl (kept.entries ∙ ap (λ (k : KernelView). k.entries) same),
    )
