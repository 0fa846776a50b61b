use Rattle.std.proofs.Common.{◌∙◌, ◌+◌, arith}
use Rattle.std.proofs.lemmas.List.{length-set}
use Rattle.cc_trail.specs.Steps.{values_of}
use Rattle.cc_cdcl.specs.Sets.{assignment_of}
use Rattle.cc_cdcl.proofs.Standing.{row_more, sum_at, sum_left}
use Rattle.cc_cdcl.proofs.solver.write_row.Goals as goal

pub overflow_add-first : goal.overflow_add-first
overflow_add-first c =
    let most = sum_at c.args.sizes.now c.loop-index.index c.loop-index-test.true in
    let within = c.loop-index.invariant.within in
    let few = c.level_count-level.ensures.steps.variables_few in omega arith

pub loop-index-preserved : goal.loop-index-preserved
loop-index-preserved c =
    let before = c.loop-index.invariant in
    let test = c.loop-index-test.true in
    let some = before.some in
    record {
      room = length-set c.loop-index.row c.loop-index.index c.true_value.result ∙ before.room;
      some = omega arith;
      within = sum_left c.args.sizes.now c.loop-index.index c.loop-index.first (c.args.trail.now.variables + 1) test before.within;
      rows = row_more c.args.sizes.now c.loop-index.row c.loop-index.index c.loop-index.first c.true_value.result
          (assignment_of (values_of c.args.trail.now.steps)) before.room test c.true_value.ensures ∙ before.rows;
    }
