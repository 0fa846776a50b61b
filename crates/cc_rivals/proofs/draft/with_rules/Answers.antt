use Rattle.std.proofs.Common.{Bor, ◌≤◌, List, ℕ, arith, option_map, subst}
use Rattle.cc_defs.specs.ClauseForms.{true_variable}
use Rattle.cc_form.specs.Drafts.{IsDraft}
use Rattle.cc_form.specs.Machine.{IsPast}
use Rattle.cc_form.specs.Places.{position_sizes}
use Rattle.cc_rivals.specs.Making.{rules_for}
use Rattle.cc_rivals.specs.Putting.{nothing_put, put_rules}
use Rattle.cc_rivals.proofs.Denials.{err_past}
use Rattle.cc_rivals.proofs.Folding.{rules_rise}
use Rattle.cc_rivals.proofs.draft.with_rules.Goals as goal

pub returns-in_err-draft-clause-refused : goal.returns-in_err-draft-clause-refused
returns-in_err-draft-clause-refused c =
    let row = option_map (λ (r : Bor (List ℕ)). r.now) c.args.row in
    let P = position_sizes c.args.sig.now c.args.horizon in
    let R = rules_for c.args.sig.now c.args.laws.now c.args.horizon in
    err_past c.from_residual-in_err-draft.result c.in_err-draft.field-0.0 (true_variable P) (put_rules row P (nothing_put P) R).last c.from_residual-in_err-draft.ensures.1 (rules_rise row P (nothing_put P) R)
    (subst (λ (p : List ℕ). IsPast (true_variable p) c.in_err-draft.field-0.0) c.in_ok-sizes.ensures c.in_err-draft.ensures.refused)

pub returns-in_err-put_rules_of-clause-refused : goal.returns-in_err-put_rules_of-clause-refused
returns-in_err-put_rules_of-clause-refused c =
    let row = option_map (λ (r : Bor (List ℕ)). r.now) c.args.row in
    let P = position_sizes c.args.sig.now c.args.horizon in
    let R = rules_for c.args.sig.now c.args.laws.now c.args.horizon in
    let last = (put_rules row P (nothing_put P) R).last in
    err_past c.from_residual-in_err-put_rules_of.result c.in_err-put_rules_of.field-0.0 last last c.from_residual-in_err-put_rules_of.ensures.1 (let e : last ≤ last = omega arith in e)
    (c.in_err-put_rules_of.ensures.refused P (nothing_put P) (subst (λ (p : List ℕ). IsDraft p c.in_ok-draft.draft (nothing_put p)) c.in_ok-sizes.ensures c.in_ok-draft.ensures.draft))

pub returns-clause-draft : goal.returns-clause-draft
returns-clause-draft c =
    let P = position_sizes c.args.sig.now c.args.horizon in
    c.in_ok-put_rules_of.ensures.draft P (nothing_put P) (subst (λ (p : List ℕ). IsDraft p c.in_ok-draft.draft (nothing_put p)) c.in_ok-sizes.ensures c.in_ok-draft.ensures.draft)
