use Rattle.std.proofs.Common.{sym, subst}
use Rattle.cc_trail.specs.Steps.{EntriesView}
use Rattle.cc_trail.specs.Watches.{IsTrueBy}
use Rattle.cc_trail.specs.Visits.{AreSound}
use Rattle.cc_trail.proofs.Growing.{sound_push, push_true}
use Rattle.cc_trail.proofs.Choosing.{valued_value}
use Rattle.cc_trail.proofs.visits.make_true.Goals as goal

pub returns-in-Some-clause-value : goal.returns-in-Some-clause-value
returns-in-Some-clause-value c =
    valued_value c.args.entries.now.variables c.args.entries.now.level_count c.in-Some.standing.level c.args.entries.now.steps c.args.lit c.in-Some.standing.is_true
    c.standing.ensures.steps c.in-Some.ensures.stands

pub returns-in-None-clause-sound : goal.returns-in-None-clause-sound
returns-in-None-clause-sound c kernel reason sound =
    subst (λ (v : EntriesView). AreSound kernel v) (sym c.push.ensures)
    (sound_push kernel c.args.entries.now c.args.lit c.args.number c.requires.over c.in-None.ensures.stands reason sound)

pub returns-in-None-clause-value : goal.returns-in-None-clause-value
returns-in-None-clause-value c =
    subst (λ (v : EntriesView). IsTrueBy v.steps c.args.lit v.level_count) (sym c.push.ensures) (push_true c.args.entries.now c.args.lit c.args.number)
