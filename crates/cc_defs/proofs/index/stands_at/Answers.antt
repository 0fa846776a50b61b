use Rattle.std.proofs.Common.{sym, ◌∙◌, arith}
use Rattle.cc_defs.proofs.Places.{first_met, tells_equal}
use Rattle.cc_defs.proofs.index.stands_at.Goals as goal

pub returns-in-Some : goal.returns-in-Some
returns-in-Some c equal =
    let there = c.in-Some.ensures.lookup in
    first_met c.args.constants.now c.args.place c.args.symbol c.args.args.now c.in-Some.constant.now c.requires (omega arith) there.1
    (sym c.compare.ensures ∙ tells_equal c.compare.result (sym c.eq.ensures ∙ equal))
