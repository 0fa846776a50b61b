use Rattle.std.proofs.Common.{length}
use Rattle.cc_why.specs.Meeting.{IsRuleIn}
use Rattle.cc_why.proofs.Lists.{all_behind}
use Rattle.cc_why.proofs.Loops.{no_rule, one_met}
use Rattle.cc_why.proofs.history.meets_rules.Goals as goal

pub loop-rule-preserved : goal.loop-rule-preserved
loop-rule-preserved c = (
  all_behind (IsRuleIn (length c.args.row.now) c.args.stride) c.args.rules.now c.loop-rule.rule-index no_rule c.loop-rule-test.true c.loop-rule.invariant.0,
  λ meant are.
      one_met c.args.row.now c.args.stride c.args.rules.now c.loop-rule.rule-index c.meets_rule.result c.loop-rule-test.true c.if-not-meets_rule.false c.meets_rule.ensures meant
      (c.loop-rule.invariant.1 meant are),
)
