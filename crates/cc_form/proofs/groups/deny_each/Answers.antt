use Rattle.std.proofs.Common.{None}
use Rattle.cc_theory.specs.declared.rule.TimedHead.TheVariants as timed_heads
use Rattle.cc_theory.specs.declared.rule.TimedRule.{TimedRule}
use Rattle.cc_form.proofs.Choices.{done_more}
use Rattle.cc_form.proofs.Copying.{denial_front}
use Rattle.cc_form.proofs.groups.deny_each.Goals as goal

abbrev none : TimedRule
none = record { head = timed_heads.Atom 0 0; now = None; before = None }

pub loop-number-preserved : goal.loop-number-preserved
loop-number-preserved c =
    done_more c.args.store.now.kept c.loop-number.store.kept c.deny_one.new.store.kept _ _ _ _
    (denial_front c.args.rules.now c.args.bodies.now c.loop-number.number none c.index-bodies-number.result c.loop-number-test.true c.requires c.index-bodies-number.is) c.loop-number.invariant c.in_ok-deny_one.ensures
