use Rattle.std.proofs.Common.{◌≡◌, ◌∙◌, ◌+◌, ℕ, List, IfOk, OnOk, min, get_or, ap, arith, subst, sym}
use Rattle.cc_defs.specs.Resolved.{plain_formula}
use Rattle.cc_defs.specs.Satisfaction.{bind}
use Rattle.cc_defs.specs.Universe.{objects_of}
use Rattle.cc_ground.specs.Bindings.{BindingsView, environment_of}
use Rattle.cc_ground.specs.Choices.{bracket_choices}
use Rattle.cc_ground.specs.Views.{universe_of}
use Rattle.cc_ground.proofs.Counted.{bracket_done, bracket_more, choices_of_bracket, choices_of_two, counts_none, no_instances, two_counted}
use Rattle.cc_ground.proofs.choosing.+choosing.Goals as goal

pub with_formula-returns-in-ForAll-clause-count : goal.with_formula-returns-in-ForAll-clause-count
with_formula-returns-in-ForAll-clause-count t c =
    subst (λ (k : ℕ). IfOk c.with_instances.result (λ new. new ≡ min (c.args.count + k) 16000001))
    (sym (choices_of_bracket (universe_of c.args.table.now c.args.sig.now) (environment_of c.args.env.now) c.args.formula.now c.deref-in-ForAll.result.now c.in-ForAll.variable c.in-ForAll.sort c.in-ForAll.inner c.in-ForAll.is
    c.deref-in-ForAll.ensures))
    c.with_instances.ensures.count

pub with_instances-returns-then-not-has_lists-clause-count : goal.with_instances-returns-then-not-has_lists-clause-count
with_instances-returns-then-not-has_lists-clause-count t c =
    let u = universe_of c.args.table.now c.args.sig.now in
    counts_none c.args.count _ c.requires
    (no_instances u (environment_of c.args.env.now) c.args.variable (plain_formula c.args.formula.now) (objects_of u c.args.sort) (sym c.has_lists.ensures ∙ c.if-not-has_lists.true))

pub with_instances-loop-object-preserved : goal.with_instances-loop-object-preserved
with_instances-loop-object-preserved t c =
    let objects = c.objects_of-object-items.result.now in
    let i = c.loop-object.object-index in
    record {
      few = omega (arith, c.in_ok-total.ensures.count);
      env = c.unbind.ensures _ _ c.loop-object.env (c.in_ok-total.ensures.env ∙ c.in_ok-bind.ensures.bound) ∙ c.loop-object.invariant.env;
      rest = bracket_more (universe_of c.args.table.now c.args.sig.now) (environment_of c.args.env.now) (environment_of c.bind.new.self) c.args.variable (plain_formula c.args.formula.now) objects i c.args.count c.loop-object.total c.in_ok-total.total
          c.loop-object-test.true (c.in_ok-bind.ensures.binds ∙ ap (λ (w : BindingsView). bind c.args.variable (get_or objects i 0) (environment_of w)) c.loop-object.invariant.env) c.in_ok-total.ensures.count c.loop-object.invariant.rest;
    }

pub with_instances-returns-clause-count : goal.with_instances-returns-clause-count
with_instances-returns-clause-count t c =
    let u = universe_of c.args.table.now c.args.sig.now in
    let env = environment_of c.args.env.now in
    let formula = plain_formula c.args.formula.now in
    bracket_done u env c.args.variable formula c.objects_of-object-items.result.now c.loop-object.object-index c.args.count c.loop-object.total c.loop-object.invariant.few c.loop-object-test.false c.loop-object.invariant.rest
    ∙ ap (λ (l : List ℕ). min (c.args.count + bracket_choices u env c.args.variable formula l) 16000001) c.objects_of-object-items.ensures

pub with_formula-returns-in_ok-count-in-Both-clause-count : goal.with_formula-returns-in_ok-count-in-Both-clause-count
with_formula-returns-in_ok-count-in-Both-clause-count t c =
    let u = universe_of c.args.table.now c.args.sig.now in
    let f = c.deref-in-Both.result.now in
    let g = c.deref-in-Both-2.result.now in
    two_counted u c.args.env.now c.with_formula-in-Both.new.env (plain_formula f) (plain_formula g) (plain_formula c.args.formula.now) c.args.count c.in_ok-count-in-Both.count c.with_formula-in-Both-2.result
    (choices_of_two u (environment_of c.args.env.now) c.args.formula.now f g c.in-Both.left c.in-Both.right c.in-Both.is c.deref-in-Both.ensures c.deref-in-Both-2.ensures)
    c.in_ok-count-in-Both.ensures.env c.in_ok-count-in-Both.ensures.count c.with_formula-in-Both-2.ensures.count

pub with_formula-returns-in_ok-count-in-Both-clause-env : goal.with_formula-returns-in_ok-count-in-Both-clause-env
with_formula-returns-in_ok-count-in-Both-clause-env t c = subst (λ (w : BindingsView). OnOk c.with_formula-in-Both-2.result (c.with_formula-in-Both-2.new.env ≡ w)) c.in_ok-count-in-Both.ensures.env c.with_formula-in-Both-2.ensures.env
