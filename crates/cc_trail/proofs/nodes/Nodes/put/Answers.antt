use Rattle.cc_trail.proofs.NodeViews.{put_in}
use Rattle.cc_trail.proofs.nodes.Nodes.put.Goals as goal

pub returns : goal.returns
returns c = put_in c.self.inside.nodes.items c.args.self.now c.self.view_is c.args.node (record { next = c.args.next; lit = c.args.lit })
