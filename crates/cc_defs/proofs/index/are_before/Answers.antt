use Rattle.std.proofs.Common.{sym, ◌∙◌, arith}
use Rattle.cc_defs.proofs.Places.{all_before, tells_less}
use Rattle.cc_defs.proofs.index.are_before.Goals as goal

pub returns-in-Some : goal.returns-in-Some
returns-in-Some c less =
    let there = c.in-Some.ensures in
    all_before c.args.constants.now c.args.symbol c.args.args.now c.in-Some.last.now c.requires (omega arith) there.item.1
    (sym c.compare.ensures ∙ tells_less c.compare.result (sym c.eq.ensures ∙ less))
