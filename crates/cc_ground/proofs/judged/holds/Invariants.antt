use Rattle.std.proofs.Common.{◌≡◌, Some, drop}
use Rattle.cc_defs.specs.Judged.{chosen}
use Rattle.cc_defs.specs.Satisfaction.{Whole}
use Rattle.cc_ground.specs.Pieces.{total, universe_at}
use Rattle.cc_ground.proofs.judged.holds.Given as goal

abbrev pub invariant-loop-signed : goal.invariant-loop-signed
invariant-loop-signed l =
    let u = universe_at l.equation in
    let valuation = chosen l.equation.constants.now l.indexes in
    total u valuation (drop l.signed-index l.equation.pieces.now) (Some (Whole l.total.plus l.total.minus)) ≡ total u valuation l.equation.pieces.now (Some (Whole 0 0))
