use Rattle.std.proofs.Common.{◌∙◌, ℕ, inl, inr, List, refl, sym, ap, ap₂, arith, ◌+◌, ◌<◌, length, subst}
use Rattle.cc_defs.specs.Clauses.{Literal}
use Rattle.cc_defs.specs.Sections.{row_denial}
use Rattle.cc_kernel.specs.Kernels.{KernelView, derived_count}
use Rattle.cc_cdcl.specs.Solvers.{AddsBlock}
use Rattle.cc_cdcl.proofs.Deriving.{on_err}
use Rattle.cc_cdcl.proofs.Listing.{count_block, section_kept}
use Rattle.cc_cdcl.proofs.Probing.{phase_back}
use Rattle.cc_cdcl.proofs.Standing.{denial_is, denial_is_over, denial_is_failed, of_found, section_blocked, sizes_is, sizes_within, kernel_is}
use Rattle.cc_cdcl.proofs.solver.Parts.block_row.Goals as goal

pub write_denial-requires-clause-sizes : goal.write_denial-requires-clause-sizes
write_denial-requires-clause-sizes c =
    let within = sizes_within c.self.inside c.args.self.now c.self.view_is c.self.invariant c.deref.result.now c.deref.ensures.value in
    let most = c.variables-variables.ensures.most in let same = c.variables-variables.ensures.variables in omega arith

pub block-requires-clause-clause : goal.block-requires-clause-clause
block-requires-clause-clause c =
    denial_is c.self.inside c.args.self.now c.self.view_is c.self.invariant c.requires.found.0 c.requires.found.1 c.deref-3.result.now
    (c.deref-3.ensures.value ∙ c.in_ok-write_denial.ensures ∙ ap₂ (λ (ss rs : List ℕ). row_denial ss rs) c.deref.ensures.value c.deref-2.ensures.value)

pub block-requires-clause-over : goal.block-requires-clause-over
block-requires-clause-over c =
    denial_is_over c.self.inside c.args.self.now c.self.view_is c.self.invariant c.requires.found.0 c.requires.found.1 c.deref-3.result.now
    (c.deref-3.ensures.value ∙ c.in_ok-write_denial.ensures ∙ ap₂ (λ (ss rs : List ℕ). row_denial ss rs) c.deref.ensures.value c.deref-2.ensures.value)

pub block-requires-clause-failed : goal.block-requires-clause-failed
block-requires-clause-failed c =
    denial_is_failed c.self.inside c.args.self.now c.self.view_is c.self.invariant c.requires.found.0 c.requires.found.1 c.deref-3.result.now
    (c.deref-3.ensures.value ∙ c.in_ok-write_denial.ensures ∙ ap₂ (λ (ss rs : List ℕ). row_denial ss rs) c.deref.ensures.value c.deref-2.ensures.value)

pub invariant_of-self-in_err-number : goal.invariant_of-self-in_err-number
invariant_of-self-in_err-number c = record {
  section = elim c.in_err-number.ensures.broken [
    | inl kept ↦ section_kept c.self.inside.sizes.items c.self.inside.kernel c.block.new.kernel c.self.invariant.section kept
    | inr adds ↦ section_blocked c.self.inside.sizes.items c.self.inside.kernel c.block.new.kernel c.deref-3.result.now c.self.invariant.section
        adds.variables adds.entries
        (denial_is c.self.inside c.args.self.now c.self.view_is c.self.invariant c.requires.found.0 c.requires.found.1 c.deref-3.result.now
        (c.deref-3.ensures.value ∙ c.in_ok-write_denial.ensures ∙ ap₂ (λ (ss rs : List ℕ). row_denial ss rs) c.deref.ensures.value c.deref-2.ensures.value))
        (denial_is_over c.self.inside c.args.self.now c.self.view_is c.self.invariant c.requires.found.0 c.requires.found.1 c.deref-3.result.now
        (c.deref-3.ensures.value ∙ c.in_ok-write_denial.ensures ∙ ap₂ (λ (ss rs : List ℕ). row_denial ss rs) c.deref.ensures.value c.deref-2.ensures.value))
  ];
  room = c.self.invariant.room;
  stands = tt;
}

pub invariant_of-self-2 : goal.invariant_of-self-2
invariant_of-self-2 c =
    let variables = ap (λ (k : KernelView). k.variables) c.in_ok-number.ensures.blocked in
    let entries = ap (λ (k : KernelView). k.entries) c.in_ok-number.ensures.blocked in
    let before = (of_found c.self.inside c.args.self.now c.self.view_is c.self.invariant c.requires.found.0 c.requires.found.1).0 in
    record {
      section = section_blocked c.self.inside.sizes.items c.self.inside.kernel c.block.new.kernel c.deref-3.result.now c.self.invariant.section variables entries
          (denial_is c.self.inside c.args.self.now c.self.view_is c.self.invariant c.requires.found.0 c.requires.found.1 c.deref-3.result.now
          (c.deref-3.ensures.value ∙ c.in_ok-write_denial.ensures ∙ ap₂ (λ (ss rs : List ℕ). row_denial ss rs) c.deref.ensures.value c.deref-2.ensures.value))
          (denial_is_over c.self.inside c.args.self.now c.self.view_is c.self.invariant c.requires.found.0 c.requires.found.1 c.deref-3.result.now
          (c.deref-3.ensures.value ∙ c.in_ok-write_denial.ensures ∙ ap₂ (λ (ss rs : List ℕ). row_denial ss rs) c.deref.ensures.value c.deref-2.ensures.value));
      room = c.self.invariant.room;
      stands = record {
        derived = before.derived ∙ sym (ap derived_count entries ∙ count_block c.self.inside.kernel.entries c.deref-3.result.now);
        in_phase = phase_back c.self.inside.probe.phase c.self.inside.sizes.items c.self.inside.kernel c.block.new.kernel c.self.inside.trail c.block.new.trail
            c.self.inside.cursors.items before.in_phase c.block.ensures.steps c.in_ok-number.ensures.back;
      };
    }

pub block-requires-clause-fits : goal.block-requires-clause-fits
block-requires-clause-fits c = (of_found c.self.inside c.args.self.now c.self.view_is c.self.invariant c.requires.found.0 c.requires.found.1).0.in_phase.of_kernel.fits

pub block-requires-clause-settled : goal.block-requires-clause-settled
block-requires-clause-settled c = (of_found c.self.inside c.args.self.now c.self.view_is c.self.invariant c.requires.found.0 c.requires.found.1).0.in_phase.of_kernel.settled

pub block-requires-clause-all : goal.block-requires-clause-all
block-requires-clause-all c = (of_found c.self.inside c.args.self.now c.self.view_is c.self.invariant c.requires.found.0 c.requires.found.1).0.in_phase.of_kernel.all

pub block-requires-clause-few : goal.block-requires-clause-few
block-requires-clause-few c = subst (λ (k : KernelView). length k.entries < 4000000000) (sym (kernel_is c.self.inside c.args.self.now c.self.view_is c.self.invariant)) c.requires.few

pub returns-clause-number : goal.returns-clause-number
returns-clause-number c = c.in_ok-number.ensures.number ∙ ap (λ (k : KernelView). length k.entries + 1) (kernel_is c.self.inside c.args.self.now c.self.view_is c.self.invariant)

pub returns-in_err-number-clause-broken : goal.returns-in_err-number-clause-broken
returns-in_err-number-clause-broken c =
    let same = kernel_is c.self.inside c.args.self.now c.self.view_is c.self.invariant in
    let sizes = sizes_is c.self.inside c.args.self.now c.self.view_is c.self.invariant in
    let row = (of_found c.self.inside c.args.self.now c.self.view_is c.self.invariant c.requires.found.0 c.requires.found.1).2 in
    let clause = c.deref-3.ensures.value ∙ c.in_ok-write_denial.ensures ∙ ap₂ (λ (ss rs : List ℕ). row_denial ss rs) (c.deref.ensures.value ∙ sizes) (c.deref-2.ensures.value ∙ sym row) in
    on_err _ c.from_residual-in_err-number.result (elim c.in_err-number.ensures.broken [
      | inl kept ↦ (
        record { standing = refl; sizes = sizes },
        kept.variables ∙ ap (λ (k : KernelView). k.variables) same,
        inl (kept.entries ∙ ap (λ (k : KernelView). k.entries) same),
      )
      | inr adds ↦ (
        record { standing = refl; sizes = sizes },
        adds.variables ∙ ap (λ (k : KernelView). k.variables) same,
        inr (
          c.requires.found.0,
          c.requires.found.1,
          subst (λ (k : KernelView). AddsBlock k c.block.new.kernel (row_denial c.args.self.now.sizes c.requires.found.0)) same
              (subst (λ (lits : List Literal). AddsBlock c.self.inside.kernel c.block.new.kernel lits) clause adds),
        ),
      )
    ])
