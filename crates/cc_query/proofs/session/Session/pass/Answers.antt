use Rattle.std.proofs.Common.{◌∙◌, ◌+◌, ap}
use Rattle.cc_query.specs.Sessions.{SessionView}
use Rattle.cc_query.proofs.session.Session.pass.Goals as goal

pub returns : goal.returns
returns c = ap (λ (v : SessionView). let s : SessionView = record v { horizon = v.horizon + 1; met = c.args.met } in s) (c.self.view_is ∙ c.stand.ensures)
