use Rattle.std.proofs.Common.{◌<◌, ◌∙◌, length, sym, arith, eqb-true}
use Rattle.std.proofs.lemmas.Bool.{eqb-false}
use Rattle.cc_kernel.proofs.Firsts.{found_here, not_here}
use Rattle.cc_kernel.proofs.kernel.first_empty_of.Goals as goal

pub returns-then-is_empty : goal.returns-then-is_empty
returns-then-is_empty c =
    sym (found_here c.args.clauses.now c.loop-index.index c.clause.result.now c.clause.ensures
    (eqb-true (length c.clause.result.now) 0 (sym c.is_empty.ensures ∙ c.if-is_empty.true))) ∙
    c.loop-index.invariant

pub loop-index-preserved : goal.loop-index-preserved
loop-index-preserved c =
    let differs = eqb-false (length c.clause.result.now) 0 (sym c.is_empty.ensures ∙ c.if-is_empty.false) in
    let some : 0 < length c.clause.result.now = omega arith in
    sym (not_here c.args.clauses.now c.loop-index.index c.clause.result.now c.clause.ensures some) ∙ c.loop-index.invariant
