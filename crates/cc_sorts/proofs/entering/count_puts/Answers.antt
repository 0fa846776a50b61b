use Rattle.std.proofs.Common.{arith, List, min, length, flat_map, ap, ◌∙◌}
use Rattle.cc_defs.specs.Declarations.{put_declared}
use Rattle.cc_sorts.specs.Declaring.{plain_declarations}
use Rattle.cc_sorts.proofs.Walks.{counted_more, taken_all}
use Rattle.cc_sorts.specs.declared.declaration.Declaration as declarations
use Rattle.cc_sorts.proofs.entering.count_puts.Goals as goal

pub overflow_add-count : goal.overflow_add-count
overflow_add-count c = omega (arith, c.loop-declaration.invariant 0 0, c.puts_of.ensures.within)

pub loop-declaration-preserved : goal.loop-declaration-preserved
loop-declaration-preserved c = λ file line.
    c.min-count.ensures
    ∙ counted_more file line c.loop-declaration.count c.puts_of.result c.args.new.now c.loop-declaration.declaration-index c.declaration-item.result
    c.loop-declaration-test.true c.declaration-item.is (c.loop-declaration.invariant file line) (c.puts_of.ensures.counted file line)

pub returns : goal.returns
returns c = λ file line.
    c.loop-declaration.invariant file line
    ∙ ap (λ (ds : List declarations.Declaration). min (length (flat_map put_declared (plain_declarations file line ds))) 10000) (taken_all c.args.new.now c.loop-declaration.declaration-index c.loop-declaration-test.false)
