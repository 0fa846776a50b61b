use Rattle.std.proofs.Common.{◌+◌, drop, get_or}
use Rattle.cc_rivals.specs.Making.{IsLawOver, placed_at, rules_at_step, rules_in}
use Rattle.cc_rivals.specs.Meets.{rule_met}
use Rattle.cc_rivals.proofs.Testing.{fails, passes}
use Rattle.cc_rivals.proofs.Turns.{all_split, law_turn, no_law}
use Rattle.cc_rivals.proofs.candidate.meets_step.Goals as goal

pub meets_law-requires-clause-law : goal.meets_law-requires-clause-law
meets_law-requires-clause-law c =
    let over = c.loop-law.invariant.1 in (over.0, over.1, (all_split (IsLawOver over.0 c.args.stride c.args.horizon c.args.step) c.args.laws.now c.loop-law.law-index no_law c.loop-law-test.true over.2).0)

pub returns-then-not-meets_law : goal.returns-then-not-meets_law
returns-then-not-meets_law c =
    let laws = c.args.laws.now in
    let i = c.loop-law.law-index in
    fails (rule_met c.args.row.now) (rules_at_step c.args.stride (drop i laws) c.args.horizon c.args.step) (rules_at_step c.args.stride laws c.args.horizon c.args.step) c.loop-law.invariant.0
    (rules_in (placed_at c.args.stride c.args.horizon c.args.step (get_or laws i no_law))) (rules_at_step c.args.stride (drop (i + 1) laws) c.args.horizon c.args.step)
    (law_turn c.args.stride laws c.args.horizon c.args.step i c.loop-law-test.true) c.meets_law.result c.meets_law.ensures c.if-not-meets_law.true

pub loop-law-preserved : goal.loop-law-preserved
loop-law-preserved c =
    let laws = c.args.laws.now in
    let i = c.loop-law.law-index in
    let over = c.loop-law.invariant.1 in (
      passes (rule_met c.args.row.now) (rules_at_step c.args.stride (drop i laws) c.args.horizon c.args.step) (rules_at_step c.args.stride laws c.args.horizon c.args.step) c.loop-law.invariant.0
          (rules_in (placed_at c.args.stride c.args.horizon c.args.step (get_or laws i no_law))) (rules_at_step c.args.stride (drop (i + 1) laws) c.args.horizon c.args.step)
          (law_turn c.args.stride laws c.args.horizon c.args.step i c.loop-law-test.true) c.meets_law.result c.meets_law.ensures c.if-not-meets_law.false,
      (over.0, over.1, (all_split (IsLawOver over.0 c.args.stride c.args.horizon c.args.step) laws i no_law c.loop-law-test.true over.2).1),
    )
