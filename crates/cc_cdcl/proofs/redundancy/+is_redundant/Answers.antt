use Rattle.std.proofs.Common.{◌∙◌, sym, arith}
use Rattle.cc_cdcl.proofs.Levelling.{over_at}
use Rattle.cc_cdcl.proofs.Reasons.{reasons_there}
use Rattle.cc_cdcl.proofs.redundancy.+is_redundant.Goals as goal

pub clause-lit-items-requires : goal.clause-lit-items-requires
clause-lit-items-requires t c =
    reasons_there c.args.trail.now c.args.kernel.now c.args.variable c.in-Some.id c.requires.fits (sym c.reason.ensures ∙ c.in-Some.is)

pub is_covered-requires-clause-within : goal.is_covered-requires-clause-within
is_covered-requires-clause-within t c =
    let over = over_at c.args.kernel.now.variables c.clause-lit-items.result.now c.loop-lit.lit-index c.lit-item.result c.clause-lit-items.ensures.over c.loop-lit-test.true c.lit-item.is in
    let same = c.requires.fits.variables in omega (arith, over.1)

pub is_redundant-requires : goal.is_redundant-requires
is_redundant-requires t c =
    let start = c.decreases in let some = c.if-depth-eq0.false in
    let over = over_at c.args.kernel.now.variables c.clause-lit-items.result.now c.loop-lit.lit-index c.lit-item.result c.clause-lit-items.ensures.over c.loop-lit-test.true c.lit-item.is in
    let same = c.requires.fits.variables in let equal = c.variable-other.ensures in (omega arith, (c.requires.fits, (c.requires.staged, omega (arith, over.1))))
