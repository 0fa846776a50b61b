use Rattle.std.proofs.Common.{◌<◌, length}
use Rattle.cc_sorts.specs.SortViews.{name_at}
use Rattle.cc_sorts.proofs.Upward.{grows_more}
use Rattle.cc_sorts.proofs.Vectors.{all_at}
use Rattle.cc_sorts.proofs.left.add_numbered.Goals as goal

pub loop-number-preserved : goal.loop-number-preserved
loop-number-preserved c =
    grows_more (name_at c.args.sorts.now) c.args.found.now.keys c.loop-number.found.keys c.put_found.new.found.keys c.args.numbers.now c.loop-number.number-index _ _ c.loop-number-test.true c.in_ok-put_found.ensures c.name.ensures c.loop-number.invariant

pub name-requires : goal.name-requires
name-requires c = all_at (λ number. number < length c.args.sorts.now.names) c.args.numbers.now c.loop-number.number-index 0 c.requires c.loop-number-test.true
