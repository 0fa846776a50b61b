use Rattle.std.proofs.Common.{◌∙◌, ℕ, List, Ok, ap, refl, sym}
use Rattle.cc_query.specs.declared.phase.Phase.TheVariants as phases
use Rattle.cc_query.specs.Sessions.{SessionView}
use Rattle.cc_query.proofs.Giving.{gives_asked}
use Rattle.cc_query.proofs.Joining.{askable_of, block_gives, block_ready, blocked_is, found_one, gives_at}
use Rattle.cc_defs.specs.declared.event.Event.TheVariants as events
use Rattle.cc_defs.specs.declared.log.LogLine.TheVariants as lines
use Rattle.cc_query.proofs.Within.{few_entries}
use Rattle.cc_query.proofs.session.Session.deny.Goals as goal

pub returns-then-is_asked-clause-gives : goal.returns-then-is_asked-clause-gives
returns-then-is_asked-clause-gives c =
    gives_at (record c.args.self.now { phase = phases.Denying c.args.solver c.args.listed }) c.close.new.self _ c.close.result _ c.close.ensures.closed c.close.ensures.event
    (gives_asked c.search_laws.ensures (record c.args.self.now { phase = phases.Denying c.args.solver c.args.listed })
    (askable_of _ c.args.self.now c.self.view_is c.self.invariant) c.args.solver c.args.listed refl
    (ap (λ (v : SessionView). v.ask.count) (sym c.self.view_is) ∙ c.is_asked.ensures.is c.if-is_asked.true))

pub returns-clause-gives : goal.returns-clause-gives
returns-clause-gives c =
    block_gives c.search_laws.ensures (Ok (events.Log (lines.Block c.of.result))) c.args.self.now c.stand.new.self c.args.solver c.args.listed
    (askable_of _ c.args.self.now c.self.view_is c.self.invariant)
    (λ is. c.is_asked.ensures.other c.if-is_asked.false (ap (λ (v : SessionView). v.ask.count) c.self.view_is ∙ is))
    (λ row there.
    ap (λ (items : List ℕ). events.Log (lines.Block items)) (c.of.ensures ∙ c.in_ok-row.ensures.items ∙ found_one c.args.solver c.row.result.now row c.row.ensures there))
    (c.block_row.new.self, blocked_is c.args.solver c.block_row.new.self c.requires.1 c.in_ok-block_row.ensures.blocked, c.stand.ensures)
    c.requires.1 c.requires.2

pub stand-requires : goal.stand-requires
stand-requires c =
    let ready = block_ready c.args.self.now.ask c.args.solver c.block_row.new.self c.args.listed c.requires.1 c.requires.2 c.in_ok-block_row.ensures.blocked in
    (c.requires.0, ready.0, ready.1)

pub block_row-requires-clause-few : goal.block_row-requires-clause-few
block_row-requires-clause-few c = few_entries c.args.self.now.ask c.args.solver c.requires.2.0 (askable_of _ c.args.self.now c.self.view_is c.self.invariant).budget c.requires.2.3

pub block_row-requires-clause-found : goal.block_row-requires-clause-found
block_row-requires-clause-found c = (c.requires.1.0, c.requires.1.1)
