use Rattle.std.proofs.Common.{◌≡◌, ◌∙◌, OnOk, ap, not, subst}
use Rattle.cc_defs.specs.Resolved.{plain_law}
use Rattle.cc_defs.specs.Satisfaction.{giving}
use Rattle.cc_ground.specs.Bindings.{BindingsView}
use Rattle.cc_ground.specs.Views.{universe_of}
use Rattle.cc_ground.proofs.Counted.{under_none}
use Rattle.cc_ground.proofs.Ranging.{instance_there, no_instance, under_counted}
use Rattle.cc_ground.proofs.Putting.{err_if, err_on}
use Rattle.cc_ground.proofs.choosing.with_instance.Goals as goal

pub returns-in_err-count-clause-count : goal.returns-in_err-count-clause-count
returns-in_err-count-clause-count c = err_if _ c.from_residual-in_err-count.result c.from_residual-in_err-count.ensures.0

pub returns-in_err-count-clause-env : goal.returns-in_err-count-clause-env
returns-in_err-count-clause-env c = err_on _ c.from_residual-in_err-count.result c.from_residual-in_err-count.ensures.0

pub returns-then-not-branch-clause-count : goal.returns-then-not-branch-clause-count
returns-then-not-branch-clause-count c =
    let u = universe_of c.args.table.now c.args.sig.now in
    let law = plain_law c.args.law.now in
    under_none u law c.args.env.now.values c.args.count c.requires.few (no_instance u law c.args.env.now c.in_ok-passes.field-0 c.requires.unbound c.in_ok-passes.ensures.passed c.if-not-branch.true)

pub returns-then-is_none-clause-count : goal.returns-then-is_none-clause-count
returns-then-is_none-clause-count c =
    let u = universe_of c.args.table.now c.args.sig.now in
    let law = plain_law c.args.law.now in
    under_none u law c.args.env.now.values c.args.count c.requires.few
    (instance_there u law c.args.env.now c.passes.new.env c.in_ok-passes.field-0 _ c.requires.unbound c.in_ok-passes.ensures.passed c.if-not-branch.false c.in_ok-passes.ensures.env c.in_ok-head_under.ensures
    (c.heads_there_are_ground.ensures u (giving c.args.env.now.values) law.head)
    ∙ c.is_none.ensures ∙ ap not c.if-is_none.true)

pub returns-clause-count : goal.returns-clause-count
returns-clause-count c =
    let u = universe_of c.args.table.now c.args.sig.now in
    let law = plain_law c.args.law.now in
    under_counted u law c.args.env.now c.passes.new.env c.with_formula.new.env c.args.count c.in_ok-count.count c.with_part.result c.requires.unbound
    (instance_there u law c.args.env.now c.passes.new.env c.in_ok-passes.field-0 _ c.requires.unbound c.in_ok-passes.ensures.passed c.if-not-branch.false c.in_ok-passes.ensures.env c.in_ok-head_under.ensures
    (c.heads_there_are_ground.ensures u (giving c.args.env.now.values) law.head)
    ∙ c.is_none.ensures ∙ ap not c.if-is_none.false)
    c.in_ok-passes.ensures.env c.in_ok-count.ensures.count c.in_ok-count.ensures.env c.with_part.ensures.count

pub returns-clause-env : goal.returns-clause-env
returns-clause-env c =
    subst (λ (w : BindingsView). OnOk c.with_part.result (c.with_part.new.env ≡ w)) (c.in_ok-count.ensures.env ∙ c.in_ok-passes.ensures.env) c.with_part.ensures.env
