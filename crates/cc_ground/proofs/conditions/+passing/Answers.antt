use Rattle.std.proofs.Common.{◌≡◌, ◌∙◌, Bool, IfOk, OnOk, ap, subst}
use Rattle.cc_defs.specs.Resolved.{Formula, plain_formula}
use Rattle.cc_defs.specs.Satisfaction.{bind}
use Rattle.cc_ground.specs.Bindings.{BindingsView, environment_of}
use Rattle.cc_ground.specs.Outermost.{bracket_truth}
use Rattle.cc_ground.specs.Views.{bare_universe, passes_in}
use Rattle.cc_ground.proofs.Testing.{bracket_is_true, bracket_more, bracket_stop, bracket_end, passed_here, relation_is, then_second}
use Rattle.cc_ground.proofs.conditions.+passing.Goals as goal

pub bracket_passes-loop-object-preserved : goal.bracket_passes-loop-object-preserved
bracket_passes-loop-object-preserved t c = record {
  env = c.unbind.ensures _ _ c.loop-object.env (c.in_ok-passed.ensures.env ∙ c.in_ok-bind.ensures.bound) ∙ c.loop-object.invariant.env;
  rest =
      let u = bare_universe c.args.table.now in
      let test = plain_formula c.args.formula.now in
      bracket_more (λ object. passes_in u test (bind c.args.variable object (environment_of c.args.env.now))) c.objects_of-object-items.result.now c.loop-object.object-index c.args.all c.in_ok-passed.passed c.loop-object-test.true
      (passed_here u test (environment_of c.args.env.now) (environment_of c.loop-object.env) (environment_of c.bind.new.self) c.args.variable _ c.in_ok-passed.passed c.in_ok-passed.ensures.passed
      c.in_ok-bind.ensures.binds (ap environment_of c.loop-object.invariant.env))
      c.if-passed-all.false c.loop-object.invariant.rest;
}

pub bracket_passes-returns-then-passed-all-clause-passed : goal.bracket_passes-returns-then-passed-all-clause-passed
bracket_passes-returns-then-passed-all-clause-passed t c =
    let u = bare_universe c.args.table.now in
    let test = plain_formula c.args.formula.now in
    bracket_stop (λ object. passes_in u test (bind c.args.variable object (environment_of c.args.env.now))) c.objects_of-object-items.result.now c.loop-object.object-index c.args.all c.in_ok-passed.passed c.loop-object-test.true
    (passed_here u test (environment_of c.args.env.now) (environment_of c.loop-object.env) (environment_of c.bind.new.self) c.args.variable _ c.in_ok-passed.passed c.in_ok-passed.ensures.passed
    c.in_ok-bind.ensures.binds (ap environment_of c.loop-object.invariant.env))
    c.if-passed-all.true c.loop-object.invariant.rest
    ∙ ap (bracket_truth c.args.all (λ object. passes_in u test (bind c.args.variable object (environment_of c.args.env.now)))) c.objects_of-object-items.ensures

pub bracket_passes-returns-clause-passed : goal.bracket_passes-returns-clause-passed
bracket_passes-returns-clause-passed t c =
    let u = bare_universe c.args.table.now in
    let test = plain_formula c.args.formula.now in
    bracket_end (λ object. passes_in u test (bind c.args.variable object (environment_of c.args.env.now))) c.objects_of-object-items.result.now c.loop-object.object-index c.args.all c.loop-object-test.false c.loop-object.invariant.rest
    ∙ ap (bracket_truth c.args.all (λ object. passes_in u test (bind c.args.variable object (environment_of c.args.env.now)))) c.objects_of-object-items.ensures

pub passes-returns-in-ForAll-clause-passed : goal.passes-returns-in-ForAll-clause-passed
passes-returns-in-ForAll-clause-passed t c =
    subst (λ (truth : Bool). IfOk c.bracket_passes.result (λ passed. passed ≡ truth))
    (bracket_is_true (bare_universe c.args.table.now) (environment_of c.args.env.now) c.args.formula.now c.deref-in-ForAll.result.now c.in-ForAll.variable c.in-ForAll.sort c.in-ForAll.inner c.is_for_all.result c.in-ForAll.is
    c.deref-in-ForAll.ensures c.is_for_all.ensures)
    c.bracket_passes.ensures.passed

pub passes-returns-in_ok-first-in-Both-clause-passed : goal.passes-returns-in_ok-first-in-Both-clause-passed
passes-returns-in_ok-first-in-Both-clause-passed t c =
    then_second (bare_universe c.args.table.now) c.args.env.now c.passes-in-Both.new.env c.args.formula.now c.deref-in-Both.result.now c.deref-in-Both-2.result.now c.in-Both.left c.in-Both.right c.joint_in.result
    c.in_ok-first-in-Both.first c.second_passes.result c.in-Both.is c.joint_in.ensures c.deref-in-Both.ensures c.deref-in-Both-2.ensures c.in_ok-first-in-Both.ensures.env c.in_ok-first-in-Both.ensures.passed
    c.second_passes.ensures.passed

pub passes-returns-in_ok-first-in-Both-clause-env : goal.passes-returns-in_ok-first-in-Both-clause-env
passes-returns-in_ok-first-in-Both-clause-env t c = subst (λ (w : BindingsView). OnOk c.second_passes.result (c.second_passes.new.env ≡ w)) c.in_ok-first-in-Both.ensures.env c.second_passes.ensures.env

pub passes-returns-in-Equal-clause-passed : goal.passes-returns-in-Equal-clause-passed
passes-returns-in-Equal-clause-passed t c =
    subst (λ (f : Formula). IfOk c.are_so.result (λ passed. passed ≡ passes_in (bare_universe c.args.table.now) f (environment_of c.args.env.now)))
    (relation_is c.args.formula.now c.sign_in.result c.in-Equal.left c.in-Equal.right c.in-Equal.is c.sign_in.ensures) c.are_so.ensures
