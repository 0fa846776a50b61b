use Rattle.std.proofs.Common.{◌≤◌, ◌∙◌, ℕ, [], sym, subst, ap, arith}
use Rattle.cc_defs.specs.Clauses.{Literal, IsLiteralOver}
use Rattle.cc_trail.specs.Pairs.{beside}
use Rattle.cc_trail.proofs.Choosing.{value_true, value_false}
use Rattle.cc_trail.proofs.Growing.{grown_then, followed_grown}
use Rattle.cc_trail.proofs.Following.{following_begins, following_on, item_in, sound_then, failed_here, followed_next}
use Rattle.cc_trail.proofs.Walking.{fallen_over}
use Rattle.cc_trail.proofs.visits.visit_pairs.Goals as goal

pub beside-other-items-requires : goal.beside-other-items-requires
beside-other-items-requires c =
    subst (λ (l : Literal). l.variable ≤ c.args.pairs.now.variables) (sym c.opposite-fallen.ensures)
    (fallen_over c.args.kernel.now [] c.args.place c.step.result c.args.entries.now c.step.ensures c.args.pairs.now.variables c.requires.sound
    (c.requires.variables ∙ c.requires.sound.variables)).1

pub loop-other-init : goal.loop-other-init
loop-other-init c = following_begins c.args.kernel.now c.beside-other-items.result.now c.args.place c.args.entries.now c.requires.sound

pub make_true-requires : goal.make_true-requires
make_true-requires c = record {
  over = subst (λ (n : ℕ). IsLiteralOver n c.other-item.result.lit) (c.requires.variables ∙ sym c.loop-other.invariant.grown.variables)
      (c.beside-other-items.ensures.over c.other-item.result
      (item_in c.beside-other-items.result.now c.loop-other.other-index c.other-item.result c.loop-other-test.true c.other-item.is));
}

pub returns-then-not-make_true-clause-grown : goal.returns-then-not-make_true-clause-grown
returns-then-not-make_true-clause-grown c =
    grown_then c.args.entries.now c.loop-other.entries c.make_true.new.entries c.loop-other.invariant.grown c.make_true.ensures.grown

pub returns-then-not-make_true-clause-sound : goal.returns-then-not-make_true-clause-sound
returns-then-not-make_true-clause-sound c =
    sound_then c.args.kernel.now c.args.pairs.now c.args.place c.step.result c.args.entries.now c.step.ensures c.beside-other-items.result.now
    (c.beside-other-items.ensures.beside ∙ ap (λ (l : Literal). beside c.args.pairs.now l) c.opposite-fallen.ensures) c.loop-other.other-index c.loop-other.entries
    c.loop-other.invariant c.requires.paired c.other-item.result c.loop-other-test.true c.other-item.is c.make_true.new.entries c.make_true.ensures.grown
    (c.make_true.ensures.sound c.args.kernel.now)

pub returns-then-not-make_true-clause-here : goal.returns-then-not-make_true-clause-here
returns-then-not-make_true-clause-here c =
    followed_grown c.args.pairs.now c.args.place c.args.entries.now c.make_true.new.entries
    (grown_then c.args.entries.now c.loop-other.entries c.make_true.new.entries c.loop-other.invariant.grown c.make_true.ensures.grown)
    (let low = c.requires.within in omega arith) c.requires.followed

pub returns-then-not-make_true-clause-failed : goal.returns-then-not-make_true-clause-failed
returns-then-not-make_true-clause-failed c =
    failed_here c.args.kernel.now c.args.pairs.now c.args.place c.step.result c.args.entries.now c.step.ensures c.beside-other-items.result.now
    (c.beside-other-items.ensures.beside ∙ ap (λ (l : Literal). beside c.args.pairs.now l) c.opposite-fallen.ensures) c.loop-other.other-index c.loop-other.entries
    c.loop-other.invariant c.requires.paired c.other-item.result c.loop-other-test.true c.other-item.is c.make_true.new.entries c.make_true.ensures.grown
    (c.make_true.ensures.sound c.args.kernel.now)
    (value_false c.make_true.new.entries.steps c.make_true.new.entries.level_count c.other-item.result.lit c.make_true.result c.if-not-make_true.true c.make_true.ensures.value)

pub loop-other-preserved : goal.loop-other-preserved
loop-other-preserved c =
    following_on c.args.kernel.now c.args.pairs.now c.args.place c.step.result c.args.entries.now c.step.ensures c.beside-other-items.result.now
    (c.beside-other-items.ensures.beside ∙ ap (λ (l : Literal). beside c.args.pairs.now l) c.opposite-fallen.ensures) c.loop-other.other-index c.loop-other.entries
    c.loop-other.invariant c.requires.paired c.other-item.result c.loop-other-test.true c.other-item.is c.make_true.new.entries c.make_true.ensures.grown
    (c.make_true.ensures.sound c.args.kernel.now)
    (value_true c.make_true.new.entries.steps c.make_true.new.entries.level_count c.other-item.result.lit c.make_true.result c.if-not-make_true.false c.make_true.ensures.value)

pub returns-clause-here : goal.returns-clause-here
returns-clause-here c =
    followed_grown c.args.pairs.now c.args.place c.args.entries.now c.loop-other.entries c.loop-other.invariant.grown
    (let low = c.requires.within in omega arith) c.requires.followed

pub returns-clause-next : goal.returns-clause-next
returns-clause-next c =
    followed_next c.args.kernel.now c.args.pairs.now c.args.place c.step.result c.args.entries.now c.step.ensures c.beside-other-items.result.now
    (c.beside-other-items.ensures.beside ∙ ap (λ (l : Literal). beside c.args.pairs.now l) c.opposite-fallen.ensures) c.loop-other.other-index c.loop-other.entries
    c.loop-other.invariant
    c.requires.followed (let past = c.loop-other-test.false in omega arith)
