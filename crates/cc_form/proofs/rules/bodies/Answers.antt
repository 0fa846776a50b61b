use Rattle.std.proofs.Common.{◌+◌, ℕ, List, None, drop, get_or, sym, subst}
use Rattle.std.proofs.lemmas.List.{drop_all}
use Rattle.cc_theory.specs.declared.rule.TimedHead.TheVariants as timed_heads
use Rattle.cc_theory.specs.declared.rule.TimedRule.{TimedRule}
use Rattle.cc_defs.specs.Clauses.{Literal}
use Rattle.cc_form.specs.Making.{IsBodyOver}
use Rattle.cc_form.proofs.Bodies.{BodiesSoFar, bodies_begin, bodies_done, bodies_fail, bodies_step, front_at}
use Rattle.cc_form.proofs.Running.{err_past}
use Rattle.cc_defs.specs.declared.refusal.Fault.TheVariants as faults
use Rattle.cc_form.proofs.rules.bodies.Goals as goal

none : TimedRule
none = record { head = timed_heads.Atom 0 0; now = None; before = None }

pub returns-in_err-literal-clause-refused : goal.returns-in_err-literal-clause-refused
unfolding none
returns-in_err-literal-clause-refused c =
    let so = subst (λ (rest : List TimedRule). BodiesSoFar c.args.writer.now c.loop-rule.writer c.args.stride c.loop-rule.bodies.items rest c.args.rules.now)
    (front_at c.args.rules.now c.loop-rule.rule-index none c.loop-rule-test.true) c.loop-rule.invariant in
    err_past c.from_residual-in_err-literal.result _ c.in_err-literal.field-0.0 c.from_residual-in_err-literal.ensures.1
    (bodies_fail c.args.writer.now c.loop-rule.writer c.args.stride c.loop-rule.bodies.items (get_or c.args.rules.now c.loop-rule.rule-index none) (drop (c.loop-rule.rule-index + 1) c.args.rules.now) c.args.rules.now
    c.in_err-literal.field-0.0 so c.in_err-literal.ensures)

pub loop-rule-preserved : goal.loop-rule-preserved
unfolding none
loop-rule-preserved c =
    let so = subst (λ (rest : List TimedRule). BodiesSoFar c.args.writer.now c.loop-rule.writer c.args.stride c.loop-rule.bodies.items rest c.args.rules.now)
    (front_at c.args.rules.now c.loop-rule.rule-index none c.loop-rule-test.true) c.loop-rule.invariant in
    bodies_step c.args.writer.now c.loop-rule.writer c.made_rule.new.writer c.args.stride c.loop-rule.bodies.items c.push.new.self.items c.in_ok-literal.literal
    (get_or c.args.rules.now c.loop-rule.rule-index none) (drop (c.loop-rule.rule-index + 1) c.args.rules.now) c.args.rules.now so c.in_ok-literal.ensures.0 c.in_ok-literal.ensures.1 c.in_ok-push.ensures.items

pub loop-rule-init : goal.loop-rule-init
loop-rule-init c =
    subst (λ (l : List Literal). BodiesSoFar c.args.writer.now c.args.writer.now c.args.stride l c.args.rules.now c.args.rules.now) (sym c.in_ok-bodies.ensures.items) (bodies_begin c.args.writer.now c.args.stride c.args.rules.now c.requires.last c.requires.fits)

pub made_rule-requires-clause-last : goal.made_rule-requires-clause-last
made_rule-requires-clause-last c = c.loop-rule.invariant.within

pub made_rule-requires-clause-fits : goal.made_rule-requires-clause-fits
unfolding none
made_rule-requires-clause-fits c =
    let so = subst (λ (rest : List TimedRule). BodiesSoFar c.args.writer.now c.loop-rule.writer c.args.stride c.loop-rule.bodies.items rest c.args.rules.now)
    (front_at c.args.rules.now c.loop-rule.rule-index none c.loop-rule-test.true) c.loop-rule.invariant in
    subst (λ (p : List ℕ). IsBodyOver p c.args.stride (get_or c.args.rules.now c.loop-rule.rule-index none)) (sym so.places) so.fits.0

pub returns-clause-literals : goal.returns-clause-literals
returns-clause-literals c = (bodies_done c.args.writer.now c.loop-rule.writer c.args.stride c.loop-rule.bodies.items _ c.args.rules.now (drop_all c.loop-rule.rule-index c.args.rules.now c.loop-rule-test.false) c.loop-rule.invariant).0

pub returns-clause-built : goal.returns-clause-built
returns-clause-built c = (bodies_done c.args.writer.now c.loop-rule.writer c.args.stride c.loop-rule.bodies.items _ c.args.rules.now (drop_all c.loop-rule.rule-index c.args.rules.now c.loop-rule-test.false) c.loop-rule.invariant).1

pub returns-in_err-push-clause-refused : goal.returns-in_err-push-clause-refused
returns-in_err-push-clause-refused c = err_past c.from_residual-in_err-push.result _ faults.OutOfMemory c.from_residual-in_err-push.ensures.1 tt
