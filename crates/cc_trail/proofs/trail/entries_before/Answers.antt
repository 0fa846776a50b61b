use Rattle.std.proofs.Common.{◌∙◌, sym, arith}
use Rattle.cc_trail.proofs.Attaching.{take_fewer_in}
use Rattle.cc_trail.proofs.trail.entries_before.Goals as goal

pub returns-clause-one : goal.returns-clause-one
returns-clause-one c step here e =
    let one = c.min.ensures in
    let two = c.min-2.ensures in
    c.place.ensures.before step (take_fewer_in c.min-2.result c.place.result c.args.entries.now.steps step (omega arith) here) (e ∙ sym c.variable.ensures)

pub returns-clause-two : goal.returns-clause-two
returns-clause-two c step here e =
    let one = c.min.ensures in
    let two = c.min-2.ensures in
    c.place-2.ensures.before step (take_fewer_in c.min-2.result c.place-2.result c.args.entries.now.steps step (omega arith) here) (e ∙ sym c.variable-2.ensures)
