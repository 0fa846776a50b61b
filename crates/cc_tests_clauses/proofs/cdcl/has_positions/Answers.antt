use Rattle.std.proofs.Common.{◌∙◌, ◌+◌, ◌-◌, List, get_or, arith, subst}
use Rattle.std.specs.Prelude.{Contains}
use Rattle.cc_defs.specs.ClauseLists.{position_variables}
use Rattle.cc_defs.specs.Clauses.{Literal}
use Rattle.cc_kernel.specs.Kernels.{clauses_of}
use Rattle.cc_tests_clauses.proofs.Having.{positions_next, positions_all, saturated}
use Rattle.cc_tests_clauses.proofs.cdcl.has_positions.Goals as goal

pub loop-index-preserved : goal.loop-index-preserved
loop-index-preserved c =
    let some = c.loop-index.invariant.some in
    let end_is = saturated (c.loop-index.first + get_or c.args.sizes.now c.loop-index.index 0) c.saturating_add-end.result c.saturating_add-end.ensures c.if-end-gt4000001.false in
    record {
      some = omega arith;
      left = positions_next (clauses_of c.args.kernel.now) c.args.sizes.now c.loop-index.index c.loop-index.first c.saturating_add-end.result c.loop-index-test.true end_is c.loop-index.invariant.left
          (subst (λ (clause : List Literal). Contains (clauses_of c.args.kernel.now) clause) (c.deref.ensures.value ∙ c.in_ok-write_values.ensures) (c.has.ensures c.if-not-has.false)) (c.has_pairs.ensures c.if-not-has_pairs.false);
    }

pub returns : goal.returns
returns c yes_is = positions_all (clauses_of c.args.kernel.now) c.args.sizes.now c.loop-index.index c.loop-index.first c.loop-index-test.false c.loop-index.invariant.left
