use Rattle.cc_why.proofs.Loops.{body_at}
use Rattle.cc_why.proofs.history.has_body_at.Goals as goal

pub returns : goal.returns
returns c = body_at c.args.row.now c.args.stride c.args.rules.now c.args.number c.has_body.result c.requires.number c.has_body.ensures
