use Rattle.std.proofs.Common.{inl, inr, refl, sym, arith, subst}
use Rattle.cc_trail.proofs.Choosing.{codes_same, valued_false, valued_not_false, open_not_false, best_more, codes_apart}
use Rattle.cc_defs.specs.Clauses.{Literal, IsLiteralOver}
use Rattle.cc_trail.proofs.visits.better.Goals as goal

pub returns-then-eq-clause-best : goal.returns-then-eq-clause-best
returns-then-eq-clause-best c = (
  c.requires.best.0,
  best_more c.args.entries.now.steps c.args.clause.now c.args.index c.args.except c.index-clause-index.result c.args.found.level c.args.found.level c.requires.within
      c.index-clause-index.is (omega arith) c.requires.best.1
      (inl (codes_same c.index-clause-index.result c.args.except c.eq.result c.eq.ensures c.if-eq.true)),
)

pub returns-then-standing-clause-best : goal.returns-then-standing-clause-best
returns-then-standing-clause-best c =
    valued_not_false c.args.entries.now.steps c.standing.ensures.steps.apart c.index-clause-index.result c.in-Some.standing.level c.in-Some.standing.is_true c.if-standing.true
    c.in-Some.ensures.stands

pub returns-then-standing-found-clause-best : goal.returns-then-standing-found-clause-best
returns-then-standing-found-clause-best c =
    let is = valued_false c.args.entries.now.steps c.index-clause-index.result c.in-Some.standing.level c.in-Some.standing.is_true c.if-standing.false c.in-Some.ensures.stands in
    let above = c.if-standing-found.true in (
      is,
      best_more c.args.entries.now.steps c.args.clause.now c.args.index c.args.except c.index-clause-index.result c.args.found.level c.in-Some.standing.level c.requires.within
          c.index-clause-index.is (omega arith) c.requires.best.1 (inr (is.0, is.1, is.2, omega (arith, is.3))),
    )

pub returns-else-standing-found-clause-best : goal.returns-else-standing-found-clause-best
returns-else-standing-found-clause-best c =
    let is = valued_false c.args.entries.now.steps c.index-clause-index.result c.in-Some.standing.level c.in-Some.standing.is_true c.if-standing.false c.in-Some.ensures.stands in
    let low = c.if-standing-found.false in (
      c.requires.best.0,
      best_more c.args.entries.now.steps c.args.clause.now c.args.index c.args.except c.index-clause-index.result c.args.found.level c.args.found.level c.requires.within
          c.index-clause-index.is (omega arith) c.requires.best.1 (inr (is.0, is.1, is.2, omega (arith, is.3))),
    )

pub returns-in-None-clause-best : goal.returns-in-None-clause-best
returns-in-None-clause-best c =
    open_not_false c.args.entries.now.steps c.index-clause-index.result c.index-clause-index.result.variable refl (sym c.in-None.ensures.stands)

pub returns-then-standing-found-clause-member : goal.returns-then-standing-found-clause-member
returns-then-standing-found-clause-member c = (c.args.index, c.requires.within, sym c.index-clause-index.is)

pub returns-then-standing-clause-member : goal.returns-then-standing-clause-member
returns-then-standing-clause-member c = (c.args.index, c.requires.within, sym c.index-clause-index.is)

pub returns-in-None-clause-member : goal.returns-in-None-clause-member
returns-in-None-clause-member c = (c.args.index, c.requires.within, sym c.index-clause-index.is)

pub returns-else-standing-found-clause-apart : goal.returns-else-standing-found-clause-apart
returns-else-standing-found-clause-apart c = c.requires.apart

pub returns-then-eq-clause-apart : goal.returns-then-eq-clause-apart
returns-then-eq-clause-apart c = c.requires.apart

pub standing-requires : goal.standing-requires
standing-requires c = (subst (λ (l : Literal). IsLiteralOver c.args.entries.now.variables l) (sym c.index-clause-index.is) (c.requires.over c.args.index c.index-clause-index.result c.requires.within)).1

pub returns-then-standing-found-clause-apart : goal.returns-then-standing-found-clause-apart
returns-then-standing-found-clause-apart c = codes_apart c.index-clause-index.result c.args.except c.eq.result c.eq.ensures c.if-eq.false

pub returns-then-standing-clause-apart : goal.returns-then-standing-clause-apart
returns-then-standing-clause-apart c = codes_apart c.index-clause-index.result c.args.except c.eq.result c.eq.ensures c.if-eq.false

pub returns-in-None-clause-apart : goal.returns-in-None-clause-apart
returns-in-None-clause-apart c = codes_apart c.index-clause-index.result c.args.except c.eq.result c.eq.ensures c.if-eq.false
