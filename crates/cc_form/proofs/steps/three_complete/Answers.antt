use Rattle.std.proofs.Common.{◌∙◌, ◌≡◌, ◌+◌, ◌*◌, ℕ, [], sym, ap, length, arith}
use Rattle.cc_theory.specs.Making.{rules_for, stride_of}
use Rattle.cc_form.specs.Places.{position_sizes}
use Rattle.cc_form.specs.Steps.{truth_at}
use Rattle.cc_form.proofs.Finishing.{bodies_long}
use Rattle.cc_form.proofs.Gathering.{completion_part, first_part, first_within, last_part, later_part, later_within}
use Rattle.cc_form.proofs.Leaving.{err_if, err_on}
use Rattle.cc_form.proofs.steps.three_complete.Goals as goal

pub completed-requires-clause-literals : goal.completed-requires-clause-literals
completed-requires-clause-literals c =
    let s = c.args.sig.now in
    ap length c.requires.literals ∙ bodies_long (position_sizes s 2) (stride_of s) (truth_at s 2) (rules_for s c.args.laws.now 2) ∙ ap length (sym c.in_ok-theory.ensures.pinned)

pub completed-requires-2-clause-literals : goal.completed-requires-2-clause-literals
completed-requires-2-clause-literals c =
    let s = c.args.sig.now in
    ap length c.requires.literals ∙ bodies_long (position_sizes s 2) (stride_of s) (truth_at s 2) (rules_for s c.args.laws.now 2) ∙ ap length (sym c.in_ok-theory.ensures.pinned)

pub completed-requires-3-clause-literals : goal.completed-requires-3-clause-literals
completed-requires-3-clause-literals c =
    let s = c.args.sig.now in
    ap length c.requires.literals ∙ bodies_long (position_sizes s 2) (stride_of s) (truth_at s 2) (rules_for s c.args.laws.now 2) ∙ ap length (sym c.in_ok-theory.ensures.pinned)

pub returns-clause-first : goal.returns-clause-first
returns-clause-first c =
    let s = c.args.sig.now in
    let S = c.fluents.result + c.actions.result in
    let stride : S ≡ stride_of s = (let f = c.fluents.ensures in let a = c.actions.ensures in omega arith) in
    c.in_ok-first.ensures.completion [] c.requires.none
    ∙ completion_part s c.args.laws.now 0 c.args.writer.now.places c.in_ok-theory.theory.rules c.args.literals.now 0 S c.requires.places c.in_ok-theory.ensures.pinned c.requires.literals
    (let e : 0 ≡ 0 * stride_of s = omega arith in e) (first_part s S stride)

pub returns-clause-later : goal.returns-clause-later
returns-clause-later c =
    let s = c.args.sig.now in
    let S = c.fluents.result + c.actions.result in
    let stride : S ≡ stride_of s = (let f = c.fluents.ensures in let a = c.actions.ensures in omega arith) in
    c.in_ok-later.ensures.completion [] c.in_ok-first.ensures.empty
    ∙ completion_part s c.args.laws.now 1 c.completed.new.writer.places c.in_ok-theory.theory.rules c.args.literals.now S (2 * S) (c.in_ok-first.ensures.places ∙ c.requires.places) c.in_ok-theory.ensures.pinned
    c.requires.literals (let e : S ≡ 1 * stride_of s = omega arith in e) (later_part s S (2 * S) stride (ap (λ (n : ℕ). 2 * n) stride))

pub returns-clause-last : goal.returns-clause-last
returns-clause-last c =
    let s = c.args.sig.now in
    let S = c.fluents.result + c.actions.result in
    let stride : S ≡ stride_of s = (let f = c.fluents.ensures in let a = c.actions.ensures in omega arith) in
    c.in_ok-last.ensures.completion [] c.in_ok-later.ensures.empty
    ∙ completion_part s c.args.laws.now 2 c.completed-2.new.writer.places c.in_ok-theory.theory.rules c.args.literals.now (2 * S) (length c.sizes-end.result.now)
    (c.in_ok-later.ensures.places ∙ c.in_ok-first.ensures.places ∙ c.requires.places) c.in_ok-theory.ensures.pinned
    c.requires.literals (ap (λ (n : ℕ). 2 * n) stride) (last_part s (2 * S) (length c.sizes-end.result.now) (ap (λ (n : ℕ). 2 * n) stride) (ap length (c.sizes-end.ensures ∙ c.requires.places)))

pub returns-in_err-theory : goal.returns-in_err-theory
returns-in_err-theory c = let is = c.from_residual.ensures.0 in record { first = err_if _ _ is; later = err_if _ _ is; last = err_if _ _ is; ends = err_on _ _ is }

pub returns-in_err-first : goal.returns-in_err-first
returns-in_err-first c = let is = c.from_residual-in_err-first.ensures.0 in record { first = err_if _ _ is; later = err_if _ _ is; last = err_if _ _ is; ends = err_on _ _ is }

pub returns-in_err-later : goal.returns-in_err-later
returns-in_err-later c = let is = c.from_residual-in_err-later.ensures.0 in record { first = err_if _ _ is; later = err_if _ _ is; last = err_if _ _ is; ends = err_on _ _ is }

pub returns-in_err-last : goal.returns-in_err-last
returns-in_err-last c = let is = c.from_residual-in_err-last.ensures.0 in record { first = err_if _ _ is; later = err_if _ _ is; last = err_if _ _ is; ends = err_on _ _ is }

pub completed-requires-clause-within : goal.completed-requires-clause-within
completed-requires-clause-within c =
    let S = c.fluents.result + c.actions.result in
    let stride : S ≡ stride_of c.args.sig.now = (let f = c.fluents.ensures in let a = c.actions.ensures in omega arith) in
    first_within c.args.sig.now S c.args.writer.now.places stride c.requires.places

pub completed-requires-2-clause-within : goal.completed-requires-2-clause-within
completed-requires-2-clause-within c =
    let S = c.fluents.result + c.actions.result in
    let stride : S ≡ stride_of c.args.sig.now = (let f = c.fluents.ensures in let a = c.actions.ensures in omega arith) in
    later_within c.args.sig.now S c.completed.new.writer.places stride (c.in_ok-first.ensures.places ∙ c.requires.places)

pub completed-requires-3-clause-ordered : goal.completed-requires-3-clause-ordered
completed-requires-3-clause-ordered c =
    let S = c.fluents.result + c.actions.result in
    let stride : S ≡ stride_of c.args.sig.now = (let f = c.fluents.ensures in let a = c.actions.ensures in omega arith) in
    later_within c.args.sig.now S c.sizes-end.result.now stride (c.sizes-end.ensures ∙ c.requires.places)
