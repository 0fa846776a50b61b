use Rattle.std.proofs.Common.{◌∙◌, ap}
use Rattle.cc_defs.specs.Nodes.{numbered_side as numbered}
use Rattle.cc_ground.specs.Views.{universe_of}
use Rattle.cc_ground.proofs.sides.constant_side.Goals as goal

pub returns : goal.returns
returns c = c.numbered_side.ensures c.args.table.now ∙ ap (numbered (universe_of c.args.table.now c.args.sig.now)) c.in_ok-constant_meant.ensures
