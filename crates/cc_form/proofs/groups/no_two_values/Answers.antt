use Rattle.std.proofs.Common.{◌-◌, ◌∙◌, sym}
use Rattle.cc_defs.specs.ClauseLists.{pairs_denied, position_variables}
use Rattle.cc_form.proofs.Choices.{done_all, done_more, done_none, no_pairs, pairs_front, done_full}
use Rattle.std.proofs.lemmas.Bool.{ltb-true}
use Rattle.cc_form.proofs.groups.no_two_values.Goals as goal

pub loop-low-init : goal.loop-low-init
loop-low-init c = done_none c.args.store.now.kept (pairs_denied (position_variables c.args.first (c.args.end - c.args.first)))

pub loop-low-preserved : goal.loop-low-preserved
loop-low-preserved c = done_more c.args.store.now.kept c.loop-low.store.kept c.no_value_with.new.store.kept _ _ _ _ (pairs_front c.loop-low.low c.args.end c.loop-low-test.true) c.loop-low.invariant c.in_ok-no_value_with.ensures

pub returns : goal.returns
returns c = done_all c.args.store.now.kept c.loop-low.store.kept _ _ (no_pairs c.loop-low.low c.args.end c.loop-low-test.false) c.loop-low.invariant

pub returns-then-is_full : goal.returns-then-is_full
returns-then-is_full c = done_full c.args.store.now.kept c.loop-low.store.kept _ _ (ltb-true 8000000 c.loop-low.store.kept.count (sym c.is_full.ensures ∙ c.if-is_full.true)) c.loop-low.invariant
