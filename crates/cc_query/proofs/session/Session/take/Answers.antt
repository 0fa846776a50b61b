use Rattle.std.proofs.Common.{◌∙◌, ap, subst, sym}
use Rattle.cc_lists.specs.Horizons.{last_at}
use Rattle.cc_query.specs.declared.phase.Phase.{Phase}
use Rattle.cc_query.specs.Sessions.{SessionView, IsReady}
use Rattle.cc_query.proofs.session.Session.take.Goals as goal

pub returns-clause-ready : goal.returns-clause-ready
returns-clause-ready c =
    let was = c.replace.ensures.value ∙ ap (λ (v : SessionView). v.phase) c.self.view_is in
    subst (λ (p : Phase). IsReady c.args.self.now.ask c.args.self.now.horizon (last_at c.args.self.now.query c.args.self.now.ask.after) p) (sym was)
    (subst (λ (v : SessionView). IsReady v.ask v.horizon (last_at v.query v.ask.after) v.phase) c.self.view_is c.self.invariant.ready)

pub returns-clause-left : goal.returns-clause-left
returns-clause-left c =
    ap (λ (v : SessionView). let s : SessionView = record v { phase = c.replace.new.dest } in s) c.self.view_is
    ∙ ap (λ (p : Phase). let s : SessionView = record c.args.self.now { phase = p } in s) c.replace.ensures.after
