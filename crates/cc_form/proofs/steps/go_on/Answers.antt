use Rattle.std.proofs.Common.{◌∙◌, ◌+◌, arith}
use Rattle.cc_theory.specs.Making.{rules_at_step, stride_of}
use Rattle.cc_form.specs.Places.{position_sizes}
use Rattle.cc_form.proofs.Gathering.{fits_as, step_next}
use Rattle.cc_form.proofs.Stepping.{step_fit}
use Rattle.cc_form.proofs.Leaving.{err_if, err_on}
use Rattle.cc_form.proofs.steps.go_on.Goals as goal

pub ruled-requires-clause-fits : goal.ruled-requires-clause-fits
ruled-requires-clause-fits c =
    let s = c.args.sig.now in
    let give = c.laws_give_rules.ensures s c.args.laws.now c.requires.laws 2 in
    fits_as c.args.writer.now.places (position_sizes s 2) (c.from.result + c.from-2.result) (stride_of s) c.deref.result.now (rules_at_step (stride_of s) c.args.laws.now 2 c.args.step) c.requires.places
    (let f = c.from.ensures ∙ c.fluents.ensures in let a = c.from-2.ensures ∙ c.actions.ensures in omega arith) (c.deref.ensures.value ∙ c.in_ok-rules.ensures)
    (step_fit s c.args.laws.now give c.args.step c.requires.step)

pub returns-clause-next : goal.returns-clause-next
returns-clause-next c = λ less.
    let s = c.args.sig.now in
    let give = c.laws_give_rules.ensures s c.args.laws.now c.requires.laws 2 in
    step_next s c.args.laws.now give c.ruled.result c.ruled.new.writer.last c.args.step (c.from.result + c.from-2.result) c.args.writer.now.last c.args.writer.now.places c.deref.result.now c.requires.places
    (let f = c.from.ensures ∙ c.fluents.ensures in let a = c.from-2.ensures ∙ c.actions.ensures in omega arith) c.requires.last (c.deref.ensures.value ∙ c.in_ok-rules.ensures) less c.ruled.ensures.last

pub returns-in_err-rules : goal.returns-in_err-rules
returns-in_err-rules c = let is = c.from_residual.ensures.0 in record { bodies = err_if _ _ is; denials = err_if _ _ is; literals = err_on _ _ is; last = err_on _ _ is; next = λ less. err_on _ _ is; most = err_on _ _ is; places = err_on _ _ is; empty = err_on _ _ is }
