use Rattle.std.proofs.Common.{◌∙◌, ◌+◌, ◌≤◌, ap, refl, sym, subst}
use Rattle.cc_lists.specs.Horizons.{last_at}
use Rattle.cc_query.specs.declared.phase.Phase.TheVariants as phases
use Rattle.cc_query.specs.Sessions.{SessionView, IsWithin}
use Rattle.cc_query.proofs.Within.{one_more}
use Rattle.cc_defs.specs.declared.event.Event.{Event}
use Rattle.cc_defs.specs.declared.event.Event.TheVariants as events
use Rattle.cc_query.proofs.session.Session.history.Goals as goal

pub stand-requires : goal.stand-requires
stand-requires c = (
  subst (λ (v : SessionView). v.horizon ≤ last_at v.query v.ask.after) (sym c.self.view_is) c.requires.low,
  c.requires.found,
  (
    c.args.listed,
    refl,
    one_more c.args.listed c.number.result c.requires.within.denied_few c.number.ensures c.if-listed-number.false,
    subst (λ (v : SessionView). IsWithin v.ask c.args.solver c.args.listed) (sym c.self.view_is) c.requires.within,
  ),
)

pub returns-clause-stands : goal.returns-clause-stands
returns-clause-stands c =
    c.stand.ensures
    ∙ ap (λ (v : SessionView). let s : SessionView = record v { row = c.args.row.items; phase = phases.Denying c.args.solver (c.args.listed + 1) } in s) c.self.view_is

pub returns-clause-event : goal.returns-clause-event
returns-clause-event c =
    let event : SessionView → Event = λ s. events.History s.horizon (c.args.listed + 1) in
    ap event c.self-2.view_is ∙ ap event c.stand.ensures ∙ ap event c.self.view_is
