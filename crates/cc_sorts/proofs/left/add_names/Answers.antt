use Rattle.std.proofs.Common.{refl}
use Rattle.cc_sorts.proofs.Upward.{grows_more}
use Rattle.cc_sorts.proofs.left.add_names.Goals as goal

pub loop-name-preserved : goal.loop-name-preserved
loop-name-preserved c =
    grows_more (λ name. name.now) c.args.found.now.keys c.loop-name.found.keys c.put_found.new.found.keys c.args.names.now c.loop-name.name-index _ _ c.loop-name-test.true c.in_ok-put_found.ensures refl c.loop-name.invariant
