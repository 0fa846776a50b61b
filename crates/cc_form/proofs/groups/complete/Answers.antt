use Rattle.std.proofs.Common.{◌<◌, ℕ, List, length, subst, ◌≤◌}
use Rattle.cc_form.specs.Making.{bodied}
use Rattle.cc_form.proofs.Choices.{completion_front, done_more, done_all, done_none, no_completion}
use Rattle.cc_defs.specs.ClauseForms.{all_written}
use Rattle.cc_defs.specs.ClauseLists.{completion_from}
use Rattle.cc_form.proofs.groups.complete.Goals as goal

pub loop-position-preserved : goal.loop-position-preserved
loop-position-preserved c =
    done_more c.args.store.now.kept c.loop-position.store.kept c.complete_position.new.store.kept _ _ _ _
    (completion_front c.args.places.now (bodied c.args.theory.now.rules c.args.bodies.now) c.loop-position.position c.args.places.now (subst (λ (s : List ℕ). c.loop-position.position < length s) c.sizes-position-end.ensures c.loop-position-test.true)) c.loop-position.invariant c.in_ok-complete_position.ensures

pub loop-position-init : goal.loop-position-init
loop-position-init c = done_none c.args.store.now.kept (all_written (completion_from c.args.places.now (bodied c.args.theory.now.rules c.args.bodies.now) 0 c.args.places.now))

pub complete_position-requires-clause-within : goal.complete_position-requires-clause-within
complete_position-requires-clause-within c = subst (λ (s : List ℕ). c.loop-position.position < length s) c.sizes-position-end.ensures c.loop-position-test.true

pub returns : goal.returns
returns c =
    done_all c.args.store.now.kept c.loop-position.store.kept _ _
    (no_completion c.args.places.now (bodied c.args.theory.now.rules c.args.bodies.now) c.loop-position.position c.args.places.now (subst (λ (s : List ℕ). length s ≤ c.loop-position.position) c.sizes-position-end.ensures c.loop-position-test.false)) c.loop-position.invariant
