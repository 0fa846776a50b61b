use Rattle.std.proofs.Common.{◌≡◌, ◌+◌, ◌∙◌, ℕ, List, [], ◌∷◌, ◌++◌, ap, arith, min, sym}
use Rattle.cc_defs.specs.Resolved.{plain_law}
use Rattle.cc_ground.specs.Bindings.{BindingsView, with_value}
use Rattle.cc_ground.specs.Choices.{choices_behind}
use Rattle.cc_ground.specs.Views.{universe_of}
use Rattle.cc_ground.proofs.Actions.{front_behind}
use Rattle.cc_ground.proofs.Counted.{choice_more, choices_done, with_range}
use Rattle.cc_ground.proofs.choosing.+with_choices.Goals as goal

pub loop-index-preserved : goal.loop-index-preserved
loop-index-preserved t c =
    let u = universe_of c.args.table.now c.args.sig.now in
    let law = plain_law c.args.law.now in
    let front = c.args.env.now.values in
    let others = c.in-Some.others.now in
    let values = c.values_in_range-values.result in
    let value = c.at.result in
    let given : c.give.new.self.values ≡ front ++ value ∷ [] = ap (λ (b : BindingsView). b.values) (c.in_ok-give.ensures ∙ ap (with_value value) c.loop-index.invariant.env) in
    record {
      few = omega (arith, c.in_ok-total.ensures.count);
      env = c.take_back.ensures value c.loop-index.env (c.in_ok-total.ensures.env ∙ c.in_ok-give.ensures) ∙ c.loop-index.invariant.env;
      rest = choice_more u law front others values c.loop-index.index c.args.count c.loop-index.total c.in_ok-total.total value (front_behind values c.loop-index.index value (sym c.at.ensures))
          (c.in_ok-total.ensures.count ∙ ap (λ (w : List ℕ). min (c.loop-index.total + choices_behind u law w others) 16000001) given)
          c.loop-index.invariant.rest;
    }

pub returns-clause-count : goal.returns-clause-count
returns-clause-count t c =
    let u = universe_of c.args.table.now c.args.sig.now in
    let law = plain_law c.args.law.now in
    let whole = with_range u law c.args.env.now.values c.args.ranges.now c.in-Some.range.now c.in-Some.others.now c.values_in_range-values.result c.in-Some.ensures.cases.0 c.values_in_range-values.ensures in
    choices_done u law c.args.env.now.values c.in-Some.others.now c.values_in_range-values.result c.loop-index.index c.args.count c.loop-index.total c.loop-index.invariant.few (omega arith) c.loop-index.invariant.rest
    ∙ ap (λ (k : ℕ). min (c.args.count + k) 16000001) whole
