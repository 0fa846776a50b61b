use Rattle.cc_form.specs.Making.{bodied}
use Rattle.cc_form.proofs.Choices.{done_more}
use Rattle.cc_form.proofs.Copying.{completion_within}
use Rattle.cc_form.proofs.groups.complete_between.Goals as goal

pub loop-position-preserved : goal.loop-position-preserved
loop-position-preserved c =
    done_more c.args.store.now.kept c.loop-position.store.kept c.complete_position.new.store.kept _ _ _ _
    (completion_within c.args.places.now (bodied c.args.theory.now.rules c.args.bodies.now) c.loop-position.position c.args.end c.args.places.now c.loop-position-test.true c.requires.within)
    c.loop-position.invariant c.in_ok-complete_position.ensures
