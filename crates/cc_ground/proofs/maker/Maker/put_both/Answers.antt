use Rattle.cc_ground.proofs.Putting.{put_both, then_put}
use Rattle.std.proofs.Common.{[], ◌∷◌}
use Rattle.cc_defs.specs.declared.node.Node.TheVariants as nodes
use Rattle.cc_ground.proofs.maker.Maker.put_both.Goals as goal

pub returns-clause-put : goal.returns-clause-put
returns-clause-put c = then_put (nodes.All 2 ∷ []) c.push-3.new.self c.push-3.result (put_both c.in_ok-push.ensures.put c.in_ok-push-2.ensures.put) c.push-3.ensures.put
