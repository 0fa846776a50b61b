use Rattle.std.proofs.Common.{◌≤◌, ◌∙◌, ap, subst, sym}
use Rattle.cc_defs.specs.declared.event.Event.TheVariants as events
use Rattle.cc_defs.specs.declared.log.LogLine.TheVariants as lines
use Rattle.cc_lists.specs.Horizons.{last_at}
use Rattle.cc_query.specs.declared.phase.Phase.TheVariants as phases
use Rattle.cc_query.specs.Events.{Gives}
use Rattle.cc_query.specs.Parts.{is_conditions}
use Rattle.cc_query.specs.Sessions.{SessionView, IsRightFault, IsSessionOf}
use Rattle.cc_query.proofs.Giving.{gives_heading}
use Rattle.cc_query.proofs.Joining.{askable_of, gives_at, opening_fault}
use Rattle.cc_query.proofs.Refusing.{errs}
use Rattle.cc_query.proofs.session.Session.open.Goals as goal

pub solver-requires : goal.solver-requires
solver-requires c = subst (λ (s : SessionView). s.horizon ≤ last_at s.query s.ask.after) (sym c.prepare.ensures) c.requires

pub returns-in_err-solver-clause-fault : goal.returns-in_err-solver-clause-fault
returns-in_err-solver-clause-fault c = λ phase opens.
    let fault = c.in_err-solver.field-0.0 in
    errs c.from_residual-in_err-solver.result fault (IsRightFault (record c.args.self.now { phase = phase })) c.from_residual-in_err-solver.ensures.1
    (subst (λ (s : SessionView). IsRightFault (record s { phase = phase }) fault) c.prepare.ensures
    (opening_fault c.solver.result fault (record c.prepare.new.self { phase = phase }) c.args.part opens
    (subst (λ (s : SessionView). s.horizon ≤ last_at s.query s.ask.after) (sym c.prepare.ensures) c.requires)
    c.in_err-solver.was (λ d q of. c.solver.ensures.refused d q (record { laws = of.laws; query = of.query }))))

pub returns-clause-gives : goal.returns-clause-gives
returns-clause-gives c = λ phase opens.
    let same = c.self.view_is ∙ c.stand.ensures in
    subst (λ (s : SessionView). Gives (record s { phase = phase }) c.stand.new.self c.heading.result) c.prepare.ensures
    (gives_at (record c.prepare.new.self { phase = phase }) c.stand.new.self
    (record c.prepare.new.self { phase = phases.Searching c.args.part c.in_ok-solver.solver 0 })
    c.heading.result (events.Log (lines.Section (is_conditions c.args.part) c.prepare.new.self.horizon)) c.stand.ensures
    (c.heading.ensures ∙ ap (λ (v : SessionView). events.Log (lines.Section (is_conditions c.args.part) v.horizon)) same)
    (gives_heading c.search_laws.ensures (record c.prepare.new.self { phase = phase })
    (askable_of _ (record c.prepare.new.self { phase = phases.Searching c.args.part c.in_ok-solver.solver 0 }) same c.self.invariant)
    c.args.part c.in_ok-solver.solver c.in_ok-solver.ensures.fresh opens
    (subst (λ (s : SessionView). s.horizon ≤ last_at s.query s.ask.after) (sym c.prepare.ensures) c.requires)
    (λ d q of.
    let there : IsSessionOf c.prepare.new.self d q = record { laws = of.laws; query = of.query } in
    (c.in_ok-solver.ensures.made d q there, c.in_ok-solver.ensures.rows d q there, c.in_ok-solver.ensures.within d q there, c.in_ok-solver.ensures.good d q there))))
