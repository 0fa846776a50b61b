use Rattle.cc_trail.proofs.AttachingTrue.{open_apart}
use Rattle.std.proofs.Common.{ℕ, subst, sym}
use Rattle.std.specs.Prelude.{All}
use Rattle.cc_defs.specs.Clauses.{IsLiteralOver}
use Rattle.cc_trail.specs.Visits.{IsFalseAt}
use Rattle.cc_trail.specs.Trails.{TrailView}
use Rattle.cc_trail.proofs.Choosing.{best_false, others_false}
use Rattle.cc_trail.proofs.trail.Trail.left_by.Goals as goal

pub best_beside-requires-clause-apart : goal.best_beside-requires-clause-apart
best_beside-requires-clause-apart c =
    open_apart c.self.inside.entries.steps c.in-Some-Some.first c.in-Some-Some.second c.self.inside.entries.level_count c.in-Some-Some.ensures.open c.in-Some-Some.ensures'.fallen

pub best_beside-requires-clause-fallen : goal.best_beside-requires-clause-fallen
best_beside-requires-clause-fallen c = subst (λ (n : ℕ). IsFalseAt c.self.inside.entries.steps c.in-Some-Some.second n) (sym c.level_count-level.ensures.levels) c.in-Some-Some.ensures'.fallen

pub best_beside-requires-clause-over : goal.best_beside-requires-clause-over
best_beside-requires-clause-over c = subst (λ (v : TrailView). All (λ literal. IsLiteralOver v.variables literal) c.args.clause.now) (sym c.self.view_is) c.requires

pub returns-then-best_beside : goal.returns-then-best_beside
returns-then-best_beside c =
    let steps = c.self.inside.entries.steps in
    let found = c.best_beside.result in
    let best = best_false steps c.args.clause.now c.in-Some-Some.first found.lit found.level found.is_false c.if-best_beside.true c.best_beside.ensures.best in
    rw (← c.self.view_is) (record {
      first_in = c.in-Some-Some.ensures.member;
      second_in = c.in-Some-Some.ensures'.member;
      open_yet = c.in-Some-Some.ensures.open;
      fallen = c.in-Some-Some.ensures'.fallen;
      others = others_false steps c.args.clause.now c.in-Some-Some.first found.level best.1;
    })
