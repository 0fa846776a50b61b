use Rattle.cc_ground.specs.Views.{universe_of}
use Rattle.std.proofs.Common.{◌∙◌, arith}
use Rattle.cc_ground.proofs.Counted.{conditions_done, conditions_more}
use Rattle.cc_ground.proofs.choosing.choices_of_conditions.Goals as goal

pub returns-clause-count : goal.returns-clause-count
returns-clause-count c =
    conditions_done (universe_of c.args.table.now c.args.sig.now) c.args.conditions.now c.loop-condition.condition-index c.loop-condition.count c.loop-condition.invariant.few (omega arith) c.loop-condition.invariant.rest

pub loop-condition-preserved : goal.loop-condition-preserved
loop-condition-preserved c = record {
  few = omega (arith, c.in_ok-count.ensures.count);
  env = c.in_ok-count.ensures.env ∙ c.loop-condition.invariant.env;
  rest = conditions_more (universe_of c.args.table.now c.args.sig.now) c.args.conditions.now c.loop-condition.condition-index c.loop-condition.count c.in_ok-count.count _ c.condition-item.result c.loop-condition.env
      c.loop-condition-test.true c.condition-item.is c.loop-condition.invariant.env c.in_ok-count.ensures.count c.loop-condition.invariant.rest;
}
