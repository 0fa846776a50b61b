use Rattle.std.proofs.Common.{Bool, List, true, sym, subst, arith, refl, take, ◌+◌}
use Rattle.std.proofs.lemmas.List.{take_all}
use Rattle.cc_defs.specs.Clauses.{Literal}
use Rattle.cc_trail.specs.Visits.{IsBest, IsFalseBut}
use Rattle.cc_trail.proofs.Choosing.{best_of_two, best_false, best_open, not_false, not_true}
use Rattle.std.proofs.lemmas.List.Elements.{All-nil}
use Rattle.cc_trail.proofs.visits.best_beside.Goals as goal

pub returns-then-clause-le2-clause-best : goal.returns-then-clause-le2-clause-best
returns-then-clause-le2-clause-best c = (
  c.requires.fallen,
  best_of_two c.args.entries.now.steps c.args.clause.now c.args.start c.args.except c.args.level c.if-clause-le2.true c.requires.member c.requires.there c.requires.apart c.requires.fallen,
)

pub returns-clause-best : goal.returns-clause-best
returns-clause-best c =
    let past = c.loop-index-test.false in
    subst (λ (b : Bool). IsBest c.args.entries.now.steps c.args.clause.now c.args.except c.loop-index.found.lit c.loop-index.found.level b) (sym c.loop-index.invariant.3)
    (subst (λ (ls : List Literal). IsBest c.args.entries.now.steps ls c.args.except c.loop-index.found.lit c.loop-index.found.level true)
    (take_all c.loop-index.index c.args.clause.now (omega arith)) c.loop-index.invariant.2)

pub loop-index-init : goal.loop-index-init
loop-index-init c = (c.requires.member, c.requires.apart, (c.requires.fallen, All-nil (IsFalseBut c.args.entries.now.steps c.args.except c.args.level)), refl)

pub loop-index-preserved : goal.loop-index-preserved
loop-index-preserved c =
    let found = c.better-found.result in
    let is = not_false found.is_false c.if-not-found.false in (
      c.better-found.ensures.member,
      c.better-found.ensures.apart,
      best_false c.args.entries.now.steps (take (c.loop-index.index + 1) c.args.clause.now) c.args.except found.lit found.level found.is_false is c.better-found.ensures.best,
      is,
    )

pub returns-then-not-found-clause-best : goal.returns-then-not-found-clause-best
returns-then-not-found-clause-best c =
    let found = c.better-found.result in
    let is = not_true found.is_false c.if-not-found.true in
    subst (λ (b : Bool). IsBest c.args.entries.now.steps c.args.clause.now c.args.except found.lit found.level b) (sym is)
    (best_open c.args.entries.now.steps (take (c.loop-index.index + 1) c.args.clause.now) c.args.except found.lit found.level found.is_false is c.better-found.ensures.best)
