use Rattle.std.proofs.Common.{◌∙◌, ap}
use Rattle.std.proofs.lemmas.Bool.{eq-eqb, ne_eqb}
use Rattle.cc_defs.specs.Satisfaction.{giving}
use Rattle.cc_ground.specs.Bindings.{BindingsView, environment_of}
use Rattle.cc_ground.proofs.Binding.{found_last, none_left, passed_last}
use Rattle.cc_ground.proofs.bindings.Bindings.value.Goals as goal

pub returns-then-variable-last : goal.returns-then-variable-last
returns-then-variable-last c =
    found_last c.loop-last.left.now c.in-Some.others.now c.in-Some.last.now (giving c.args.self.now.values) c.args.variable (environment_of c.args.self.now c.args.variable) c.in-Some.ensures.cases.0
    (eq-eqb c.args.variable c.in-Some.last.now.0 c.if-variable-last.true) c.loop-last.invariant

pub loop-last-preserved : goal.loop-last-preserved
loop-last-preserved c =
    passed_last c.loop-last.left.now c.in-Some.others.now c.in-Some.last.now (giving c.args.self.now.values) c.args.variable (environment_of c.args.self.now c.args.variable) c.in-Some.ensures.cases.0
    (ne_eqb c.args.variable c.in-Some.last.now.0 c.if-variable-last.false) c.loop-last.invariant

pub returns : goal.returns
returns c =
    none_left c.loop-last.left.now c.args.self.now.values c.deref.result.now c.args.variable (environment_of c.args.self.now c.args.variable) c.given.result c.in_default.ensures.cases
    c.loop-last.invariant (c.deref.ensures.value ∙ ap (λ (b : BindingsView). b.values) c.self.view_is) c.given.ensures
