use Rattle.std.proofs.Common.{◌∙◌, [], ◌∷◌, ◌++◌, ap, arith}
use Rattle.cc_defs.specs.Clauses.{Literal}
use Rattle.cc_cdcl.proofs.Standing.{denial_left, row_at, row_left, sum_at, sum_left}
use Rattle.cc_cdcl.proofs.solver.write_denial.Goals as goal

pub bounds-row-index : goal.bounds-row-index
bounds-row-index c = (row_at c.args.sizes.now c.args.row.now c.loop-index.index c.loop-index.invariant.is_row c.loop-index-test.true).0

pub overflow_add-first : goal.overflow_add-first
overflow_add-first c =
    let low = row_at c.args.sizes.now c.args.row.now c.loop-index.index c.loop-index.invariant.is_row c.loop-index-test.true in
    let most = sum_at c.args.sizes.now c.loop-index.index c.loop-index-test.true in
    let within = c.loop-index.invariant.within in omega (arith, low.1)

pub negative-requires-clause-most : goal.negative-requires-clause-most
negative-requires-clause-most c =
    let low = row_at c.args.sizes.now c.args.row.now c.loop-index.index c.loop-index.invariant.is_row c.loop-index-test.true in
    let most = sum_at c.args.sizes.now c.loop-index.index c.loop-index-test.true in
    let within = c.loop-index.invariant.within in omega (arith, low.1)

pub overflow_add-first-in-loop-index : goal.overflow_add-first-in-loop-index
overflow_add-first-in-loop-index c =
    let most = sum_at c.args.sizes.now c.loop-index.index c.loop-index-test.true in
    let within = c.loop-index.invariant.within in omega arith

pub loop-index-preserved : goal.loop-index-preserved
loop-index-preserved c =
    let before = c.loop-index.invariant in
    let test = c.loop-index-test.true in
    let some = before.some in
    let here = row_at c.args.sizes.now c.args.row.now c.loop-index.index before.is_row test in
    record {
      some = omega arith;
      within = sum_left c.args.sizes.now c.loop-index.index c.loop-index.first 4000001 test before.within;
      is_row = row_left c.args.sizes.now c.args.row.now c.loop-index.index before.is_row test;
      denials = denial_left c.args.sizes.now c.args.row.now c.loop-index.index c.loop-index.first c.loop-index.clause.items c.push.new.self.items test here.0
          (c.in_ok-push.ensures.items ∙ ap (λ (lit : Literal). c.loop-index.clause.items ++ lit ∷ []) c.negative.ensures) ∙ before.denials;
    }
