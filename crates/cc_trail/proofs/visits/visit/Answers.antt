use Rattle.std.proofs.Common.{◌∙◌, ℕ, ◌<◌, length, refl, sym, subst, ap}
use Rattle.std.specs.Prelude.{Contains}
use Rattle.std.proofs.lemmas.List.Elements.{All-contains}
use Rattle.cc_defs.specs.Clauses.{Literal, IsLiteralOver}
use Rattle.cc_trail.specs.Links.{LinksView, watched_at}
use Rattle.cc_trail.specs.Visits.{IsFalseAt}
use Rattle.cc_trail.proofs.Attaching.{all_over}
use Rattle.cc_trail.proofs.Growing.{grown_at, grown_none}
use Rattle.cc_trail.proofs.Choosing.{not_true, not_false, best_open, best_false, value_true, value_false}
use Rattle.cc_trail.proofs.Visiting.{low, partner_low, there, fallen_at, visiting_then, others_then, failed_here, gone_then, passed_then, open_then, fallen_then, fallen_apart, other_in, half_low, fallen_in}
use Rattle.cc_trail.proofs.visits.visit.Goals as goal

pub watched-other-requires : goal.watched-other-requires
watched-other-requires c =
    subst (λ (n : ℕ). n < length c.args.links.now.watched) (sym c.partner_of.ensures)
    (partner_low c.args.kernel.now c.args.longs.now c.args.place c.args.step.now c.args.entries.now c.args.links.now c.requires.visiting c.args.node c.requires.first c.args.node
    (low c.args.kernel.now c.args.longs.now c.args.place c.args.step.now c.args.entries.now c.args.links.now c.requires.visiting c.args.node c.requires.first))

pub best_beside-watch-requires-clause-there : goal.best_beside-watch-requires-clause-there
best_beside-watch-requires-clause-there c =
    subst (λ (l : Literal). Contains c.clause.result.now l)
    (sym (c.watched-other.ensures.watched ∙ ap (λ (n : ℕ). watched_at c.args.links.now.watched n) c.partner_of.ensures))
    (other_in c.args.kernel.now c.args.longs.now c.args.place c.args.step.now c.args.entries.now c.args.links.now c.requires.visiting c.args.node c.requires.first c.clause.result.now c.clause.ensures.clause)

pub best_beside-watch-requires-clause-apart : goal.best_beside-watch-requires-clause-apart
best_beside-watch-requires-clause-apart c e =
    fallen_apart c.args.kernel.now c.args.longs.now c.args.place c.args.step.now c.args.entries.now c.args.links.now c.requires.visiting c.args.node c.requires.first
    (sym c.opposite-fallen.ensures ∙ e ∙ c.watched-other.ensures.watched ∙ ap (λ (n : ℕ). watched_at c.args.links.now.watched n) c.partner_of.ensures)

pub clause-requires : goal.clause-requires
clause-requires c =
    there c.args.kernel.now c.args.longs.now c.args.place c.args.step.now c.args.entries.now c.args.links.now c.requires.visiting c.args.node c.requires.first

pub best_beside-watch-requires-clause-over : goal.best_beside-watch-requires-clause-over
best_beside-watch-requires-clause-over c =
    rw c.requires.visiting.sound.variables (all_over c.args.kernel.now.variables c.clause.result.now c.clause.ensures.over)

pub best_beside-watch-requires-clause-fallen : goal.best_beside-watch-requires-clause-fallen
best_beside-watch-requires-clause-fallen c =
    subst (λ (l : Literal). IsFalseAt c.args.entries.now.steps l c.args.step.now.level) (sym c.opposite-fallen.ensures)
    (fallen_at c.args.kernel.now c.args.longs.now c.args.place c.args.step.now c.args.entries.now c.args.links.now c.requires.visiting c.args.node c.requires.first)

pub put-requires-then-not-watch-clause-over : goal.put-requires-then-not-watch-clause-over
put-requires-then-not-watch-clause-over c =
    rw c.requires.visiting.watched.variables
    (All-contains (λ (l : Literal). IsLiteralOver c.args.kernel.now.variables l) c.clause.result.now c.best_beside-watch.result.lit
    (all_over c.args.kernel.now.variables c.clause.result.now c.clause.ensures.over) c.best_beside-watch.ensures.member)

pub put-requires-clause-within : goal.put-requires-clause-within
put-requires-clause-within c = low c.args.kernel.now c.args.longs.now c.args.place c.args.step.now c.args.entries.now c.args.links.now c.requires.visiting c.args.node c.requires.first

pub put-requires-then-not-watch-clause-within : goal.put-requires-then-not-watch-clause-within
put-requires-then-not-watch-clause-within c = low c.args.kernel.now c.args.longs.now c.args.place c.args.step.now c.args.entries.now c.args.links.now c.requires.visiting c.args.node c.requires.first

pub put-requires-then-make_true-clause-within : goal.put-requires-then-make_true-clause-within
put-requires-then-make_true-clause-within c = low c.args.kernel.now c.args.longs.now c.args.place c.args.step.now c.args.entries.now c.args.links.now c.requires.visiting c.args.node c.requires.first

pub best_beside-watch-requires-clause-member : goal.best_beside-watch-requires-clause-member
best_beside-watch-requires-clause-member c =
    subst (λ (l : Literal). Contains c.clause.result.now l) (sym c.opposite-fallen.ensures) (fallen_in c.args.kernel.now c.args.longs.now c.args.place c.args.step.now c.args.entries.now c.args.links.now c.requires.visiting c.args.node c.requires.first c.clause.result.now c.clause.ensures.clause)

pub put-requires-then-make_true-clause-over : goal.put-requires-then-make_true-clause-over
put-requires-then-make_true-clause-over c =
    rw c.requires.visiting.watched.variables
    (All-contains (λ (l : Literal). IsLiteralOver c.args.kernel.now.variables l) c.clause.result.now c.best_beside-watch.result.lit
    (all_over c.args.kernel.now.variables c.clause.result.now c.clause.ensures.over) c.best_beside-watch.ensures.member)

pub bounds-longs-node : goal.bounds-longs-node
bounds-longs-node c = half_low c.args.kernel.now c.args.longs.now c.args.place c.args.step.now c.args.entries.now c.args.links.now c.requires.visiting c.args.node c.requires.first

pub put-requires-then-make_true-clause-first : goal.put-requires-then-make_true-clause-first
put-requires-then-make_true-clause-first c = c.requires.first

pub put-requires-then-not-watch-clause-first : goal.put-requires-then-not-watch-clause-first
put-requires-then-not-watch-clause-first c = c.requires.first

pub returns-in-ForGood : goal.returns-in-ForGood
returns-in-ForGood c = record {
  visiting =
      gone_then c.args.kernel.now c.args.longs.now c.args.place c.args.step.now c.args.entries.now c.args.links.now c.requires.visiting c.args.node c.requires.first c.requires.once
      c.watched-other.result (c.watched-other.ensures.watched ∙ ap (λ (n : ℕ). watched_at c.args.links.now.watched n) c.partner_of.ensures) c.watched-other.result c.put.new.self
      c.put.ensures refl (c.in-ForGood.ensures.good refl);
  grown = grown_none c.args.entries.now;
  fewer = ap (λ (v : LinksView). v.ahead) c.put.ensures;
  failed = tt;
}

pub returns-then-not-is_due : goal.returns-then-not-is_due
returns-then-not-is_due c = record {
  visiting =
      passed_then c.args.kernel.now c.args.longs.now c.args.place c.args.step.now c.args.entries.now c.args.links.now c.requires.visiting c.args.node c.requires.first
      c.watched-other.result (c.watched-other.ensures.watched ∙ ap (λ (n : ℕ). watched_at c.args.links.now.watched n) c.partner_of.ensures)
      (c.in-Here.ensures.here refl) c.pass.new.self c.pass.ensures;
  grown = grown_none c.args.entries.now;
  fewer = ap (λ (v : LinksView). v.ahead) c.pass.ensures;
  failed = tt;
}

pub returns-then-not-watch : goal.returns-then-not-watch
returns-then-not-watch c = record {
  visiting =
      open_then c.args.kernel.now c.args.longs.now c.args.place c.args.step.now c.args.entries.now c.args.links.now c.requires.visiting c.args.node c.requires.first c.requires.once
      c.watched-other.result (c.watched-other.ensures.watched ∙ ap (λ (n : ℕ). watched_at c.args.links.now.watched n) c.partner_of.ensures) c.best_beside-watch.result.lit
      c.put-then-not-watch.new.self c.put-then-not-watch.ensures c.clause.result.now c.clause.ensures.clause c.best_beside-watch.ensures.member c.best_beside-watch.ensures.apart
      (best_open c.args.entries.now.steps c.clause.result.now c.watched-other.result c.best_beside-watch.result.lit c.best_beside-watch.result.level
      c.best_beside-watch.result.is_false (not_true c.best_beside-watch.result.is_false c.if-not-watch.true) c.best_beside-watch.ensures.best);
  grown = grown_none c.args.entries.now;
  fewer = ap (λ (v : LinksView). v.ahead) c.put-then-not-watch.ensures;
  failed = tt;
}

pub returns-then-make_true : goal.returns-then-make_true
returns-then-make_true c = record {
  visiting =
      (let best = best_false c.args.entries.now.steps c.clause.result.now c.watched-other.result c.best_beside-watch.result.lit c.best_beside-watch.result.level
      c.best_beside-watch.result.is_false (not_false c.best_beside-watch.result.is_false c.if-not-watch.false) c.best_beside-watch.ensures.best in
      fallen_then c.args.kernel.now c.args.longs.now c.args.place c.args.step.now c.make_true.new.entries c.args.links.now
      (visiting_then c.args.kernel.now c.args.longs.now c.args.place c.args.step.now c.args.entries.now c.args.links.now c.requires.visiting c.args.node c.requires.first
      c.watched-other.result (c.watched-other.ensures.watched ∙ ap (λ (n : ℕ). watched_at c.args.links.now.watched n) c.partner_of.ensures) c.clause.result.now c.clause.ensures.clause
      c.best_beside-watch.result.level (best.1) c.make_true.new.entries c.make_true.ensures.grown (c.make_true.ensures.sound c.args.kernel.now))
      c.args.node c.requires.first c.requires.once c.watched-other.result
      (c.watched-other.ensures.watched ∙ ap (λ (n : ℕ). watched_at c.args.links.now.watched n) c.partner_of.ensures) c.best_beside-watch.result.lit
      c.put-then-make_true.new.self c.put-then-make_true.ensures c.clause.result.now c.clause.ensures.clause c.best_beside-watch.ensures.member c.best_beside-watch.ensures.apart
      c.best_beside-watch.result.level
      (grown_at c.args.entries.now c.make_true.new.entries c.make_true.ensures.grown c.best_beside-watch.result.lit c.best_beside-watch.result.level (best.0))
      (others_then c.args.kernel.now c.args.longs.now c.args.place c.args.step.now c.args.entries.now c.args.links.now c.requires.visiting c.args.node c.requires.first
      c.watched-other.result (c.watched-other.ensures.watched ∙ ap (λ (n : ℕ). watched_at c.args.links.now.watched n) c.partner_of.ensures) c.clause.result.now c.clause.ensures.clause
      c.best_beside-watch.result.level (best.1) c.make_true.new.entries c.make_true.ensures.grown (c.make_true.ensures.sound c.args.kernel.now))
      (value_true c.make_true.new.entries.steps c.make_true.new.entries.level_count c.watched-other.result c.make_true.result c.if-make_true.true c.make_true.ensures.value));
  grown = c.make_true.ensures.grown;
  fewer = ap (λ (v : LinksView). v.ahead) c.put-then-make_true.ensures;
  failed = tt;
}

pub returns : goal.returns
returns c = record {
  visiting =
      (let best = best_false c.args.entries.now.steps c.clause.result.now c.watched-other.result c.best_beside-watch.result.lit c.best_beside-watch.result.level
      c.best_beside-watch.result.is_false (not_false c.best_beside-watch.result.is_false c.if-not-watch.false) c.best_beside-watch.ensures.best in
      visiting_then c.args.kernel.now c.args.longs.now c.args.place c.args.step.now c.args.entries.now c.args.links.now c.requires.visiting c.args.node c.requires.first
      c.watched-other.result (c.watched-other.ensures.watched ∙ ap (λ (n : ℕ). watched_at c.args.links.now.watched n) c.partner_of.ensures) c.clause.result.now c.clause.ensures.clause
      c.best_beside-watch.result.level (best.1) c.make_true.new.entries c.make_true.ensures.grown (c.make_true.ensures.sound c.args.kernel.now));
  grown = c.make_true.ensures.grown;
  fewer = tt;
  failed =
      (let best = best_false c.args.entries.now.steps c.clause.result.now c.watched-other.result c.best_beside-watch.result.lit c.best_beside-watch.result.level
      c.best_beside-watch.result.is_false (not_false c.best_beside-watch.result.is_false c.if-not-watch.false) c.best_beside-watch.ensures.best in
      failed_here c.args.kernel.now c.args.longs.now c.args.place c.args.step.now c.args.entries.now c.args.links.now c.requires.visiting c.args.node c.requires.first
      c.watched-other.result (c.watched-other.ensures.watched ∙ ap (λ (n : ℕ). watched_at c.args.links.now.watched n) c.partner_of.ensures) c.clause.result.now c.clause.ensures.clause
      c.best_beside-watch.result.level (best.1) c.make_true.new.entries c.make_true.ensures.grown (c.make_true.ensures.sound c.args.kernel.now)
      (value_false c.make_true.new.entries.steps c.make_true.new.entries.level_count c.watched-other.result c.make_true.result c.if-make_true.false c.make_true.ensures.value));
}
