use Rattle.std.proofs.Common.{sym, subst, ℕ}
use Rattle.cc_trail.proofs.Choosing.{value_false, value_true}
use Rattle.cc_trail.proofs.Walking.{short_failed, short_true}
use Rattle.cc_defs.specs.Clauses.{Literal, IsLiteralOver}
use Rattle.std.proofs.lemmas.List.Elements.{All-contains}
use Rattle.cc_trail.proofs.Attaching.{all_over}
use Rattle.cc_trail.proofs.propagation.make_short.Goals as goal

pub returns-else-make_true-clause-failed : goal.returns-else-make_true-clause-failed
returns-else-make_true-clause-failed c =
    short_failed c.args.kernel.now c.args.entries.now c.make_true.new.entries c.args.number c.clause.result.now c.in-Some.lit.now c.requires.sound
    (c.make_true.ensures.sound c.args.kernel.now) c.requires.short c.clause.ensures.clause (sym c.in-Some.ensures.value)
    (value_false c.make_true.new.entries.steps c.make_true.new.entries.level_count c.in-Some.lit.now c.make_true.result c.if-make_true.false c.make_true.ensures.value)

pub returns-then-make_true-clause-met : goal.returns-then-make_true-clause-met
returns-then-make_true-clause-met c =
    let there = short_true c.args.kernel.now c.args.entries.now.steps c.args.number c.clause.result.now c.in-Some.lit.now c.requires.short c.clause.ensures.clause (sym c.in-Some.ensures.value) in
    let true_is = value_true c.make_true.new.entries.steps c.make_true.new.entries.level_count c.in-Some.lit.now c.make_true.result c.if-make_true.true c.make_true.ensures.value in
    (c.clause.result.now, c.clause.ensures.clause, c.in-Some.lit.now, there.1, true_is.0, true_is.1, true_is.2)

pub returns-then-make_true-clause-sound : goal.returns-then-make_true-clause-sound
returns-then-make_true-clause-sound c = c.make_true.ensures.sound c.args.kernel.now (short_true c.args.kernel.now c.args.entries.now.steps c.args.number c.clause.result.now c.in-Some.lit.now c.requires.short c.clause.ensures.clause (sym c.in-Some.ensures.value)).0 c.requires.sound

pub returns-else-make_true-clause-sound : goal.returns-else-make_true-clause-sound
returns-else-make_true-clause-sound c = c.make_true.ensures.sound c.args.kernel.now (short_true c.args.kernel.now c.args.entries.now.steps c.args.number c.clause.result.now c.in-Some.lit.now c.requires.short c.clause.ensures.clause (sym c.in-Some.ensures.value)).0 c.requires.sound

pub make_true-requires : goal.make_true-requires
make_true-requires c = record {
  over = subst (λ (n : ℕ). IsLiteralOver n c.in-Some.lit.now) (sym c.requires.sound.variables)
      (All-contains (λ (l : Literal). IsLiteralOver c.args.kernel.now.variables l) c.clause.result.now c.in-Some.lit.now (all_over c.args.kernel.now.variables c.clause.result.now c.clause.ensures.over)
      (short_true c.args.kernel.now c.args.entries.now.steps c.args.number c.clause.result.now c.in-Some.lit.now c.requires.short c.clause.ensures.clause (sym c.in-Some.ensures.value)).1);
}
