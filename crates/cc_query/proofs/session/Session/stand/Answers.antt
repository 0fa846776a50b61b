use Rattle.std.proofs.Common.{◌∙◌, ap, subst, sym}
use Rattle.cc_arena.specs.GroundViews.{plain_ground_query}
use Rattle.cc_lists.specs.Horizons.{last_at}
use Rattle.cc_query.specs.declared.phase.Phase.{Phase}
use Rattle.cc_query.specs.Sessions.{SessionView, IsReady}
use Rattle.cc_query.proofs.session.Session.stand.Goals as goal

pub invariant_of-self : goal.invariant_of-self
invariant_of-self c = record {
  askable = c.self.invariant.askable;
  first = c.self.invariant.first;
  ready = subst (λ (p : Phase). IsReady c.self.inside.ask c.self.inside.horizon (last_at (plain_ground_query c.self.inside.query) c.self.inside.ask.after) p)
      (sym c.replace-before.ensures.after)
      (subst (λ (v : SessionView). IsReady v.ask v.horizon (last_at v.query v.ask.after) c.args.phase) (sym c.self.view_is) c.requires);
}

pub returns : goal.returns
returns c =
    ap (λ (v : SessionView). let s : SessionView = record v { phase = c.replace-before.new.dest } in s) c.self.view_is
    ∙ ap (λ (p : Phase). let s : SessionView = record c.args.self.now { phase = p } in s) c.replace-before.ensures.after
