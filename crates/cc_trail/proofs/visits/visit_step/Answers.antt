use Rattle.std.proofs.Common.{sym, subst}
use Rattle.cc_defs.specs.Clauses.{Literal, IsLiteralOver}
use Rattle.cc_trail.specs.Links.{AreAhead}
use Rattle.cc_trail.proofs.Growing.{grown_none, grown_then}
use Rattle.cc_trail.proofs.Walking.{fallen_over, visit_begins, put_watched, visit_ends}
use Rattle.cc_trail.proofs.visits.visit_step.Goals as goal

pub begin-requires : goal.begin-requires
begin-requires c =
    subst (λ (l : Literal). IsLiteralOver c.args.links.now.variables l) (sym c.opposite-fallen.ensures)
    (fallen_over c.args.kernel.now c.args.longs.now c.args.place c.step-step.result c.args.entries.now c.step-step.ensures c.args.links.now.variables c.requires.sound
    c.requires.watched.variables)

pub loop-node-init : goal.loop-node-init
loop-node-init c = (
  visit_begins c.args.kernel.now c.args.longs.now c.args.place c.step-step.result c.args.entries.now c.step-step.ensures c.args.links.now c.begin.new.self c.requires.sound
      c.requires.watched (subst (λ (l : Literal). AreAhead c.args.links.now c.begin.new.self l) c.opposite-fallen.ensures c.begin.ensures),
  grown_none c.args.entries.now,
)

pub returns-in-Some-visit-clause-here : goal.returns-in-Some-visit-clause-here
returns-in-Some-visit-clause-here c = put_watched c.args.kernel.now c.args.longs.now c.args.place c.visit.new.entries c.visit.new.links c.end.new.self c.end.ensures c.visit.ensures.visiting.watched

pub returns-in-Some-visit-clause-grown : goal.returns-in-Some-visit-clause-grown
returns-in-Some-visit-clause-grown c = grown_then c.args.entries.now c.loop-node.entries c.visit.new.entries c.loop-node.invariant.1 c.visit.ensures.grown

pub returns-in-Some-visit-clause-sound : goal.returns-in-Some-visit-clause-sound
returns-in-Some-visit-clause-sound c = c.visit.ensures.visiting.sound

pub returns-clause-next : goal.returns-clause-next
returns-clause-next c = visit_ends c.args.kernel.now c.args.longs.now c.args.place c.step-step.result c.loop-node.entries c.loop-node.links c.loop-node.invariant.0 c.in_default.ensures.none

pub loop-node-preserved : goal.loop-node-preserved
loop-node-preserved c = (c.visit.ensures.visiting, grown_then c.args.entries.now c.loop-node.entries c.visit.new.entries c.loop-node.invariant.1 c.visit.ensures.grown)
