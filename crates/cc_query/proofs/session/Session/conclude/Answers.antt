use Rattle.std.proofs.Common.{sym, subst}
use Rattle.std.specs.Prelude.{IfErr, IfOk}
use Rattle.cc_defs.specs.declared.log.EndWord.{EndWord}
use Rattle.cc_query.specs.declared.phase.Phase.TheVariants as phases
use Rattle.cc_query.specs.Events.{Gives}
use Rattle.cc_query.specs.Sessions.{IsRightFault}
use Rattle.cc_query.proofs.Joining.{conclude_spent}
use Rattle.cc_query.proofs.session.Session.conclude.Goals as goal

pub returns-in-Spent-clause-gives : goal.returns-in-Spent-clause-gives
returns-in-Spent-clause-gives c = conclude_spent c.search_laws.ensures _ c.args.self.now c.args.part c.args.word c.args.listed c.self.view_is c.self.invariant c.requires.over c.in-Spent.is

pub returns-in-Empty-clause-gives : goal.returns-in-Empty-clause-gives
returns-in-Empty-clause-gives c = subst (λ (w : EndWord). Gives (record c.args.self.now { phase = phases.Closed c.args.part w c.args.listed }) c.exhaust.new.self c.exhaust.result)
    (sym c.in-Empty.is) c.exhaust.ensures

pub returns-in-Found-clause-gives : goal.returns-in-Found-clause-gives
returns-in-Found-clause-gives c = subst (λ (w : EndWord). IfOk c.stop.result (Gives (record c.args.self.now { phase = phases.Closed c.args.part w c.args.listed }) c.stop.new.self))
    (sym c.in-Found.is) c.stop.ensures.gives

pub returns-in-Found-clause-fault : goal.returns-in-Found-clause-fault
returns-in-Found-clause-fault c = subst (λ (w : EndWord). IfErr c.stop.result (IsRightFault (record c.args.self.now { phase = phases.Closed c.args.part w c.args.listed })))
    (sym c.in-Found.is) c.stop.ensures.fault
