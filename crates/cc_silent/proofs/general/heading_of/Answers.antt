use Rattle.cc_silent.proofs.RivalHeadings.{no_row, reads_heading}
use Rattle.cc_silent.proofs.general.heading_of.Goals as goal

pub returns-in-Some-2 : goal.returns-in-Some-2
returns-in-Some-2 c =
    reads_heading c.args.text.now c.in-Some.numbers.now c.in-Some-horizon_at.indexes.now c.in-Some-horizon_at.horizon c.in-Some-2.row c.in-Some.ensures c.in-Some-horizon_at.ensures
    (rw c.in-Some-2.is at c.in_ok-row.ensures)

pub returns-in-None : goal.returns-in-None
returns-in-None c =
    no_row c.args.text.now c.in-Some.numbers.now c.in-Some-horizon_at.indexes.now c.in-Some-horizon_at.horizon c.in-Some.ensures c.in-Some-horizon_at.ensures (rw c.in-None.is at c.in_ok-row.ensures)
