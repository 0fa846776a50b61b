use Rattle.cc_query.proofs.Joining.{claim_holds, complete_at, complete_none, complete_some, conditions_none}
use Rattle.cc_query.proofs.session.Session.exhaust.Goals as goal

pub returns-in-Conditions : goal.returns-in-Conditions
returns-in-Conditions c = conditions_none c.search_laws.ensures _ c.args.self.now c.pass-in-Conditions.new.self c.args.part c.args.listed c.self.view_is c.self.invariant
    c.in-Conditions.is c.requires.low c.pass-in-Conditions.ensures

pub returns-in-Claim : goal.returns-in-Claim
returns-in-Claim c = claim_holds c.search_laws.ensures _ c.args.self.now c.pass-in-Claim.new.self c.args.part c.args.listed c.self.view_is c.self.invariant
    c.in-Claim.is c.requires.low c.pass-in-Claim.ensures

pub returns-then-has_none : goal.returns-then-has_none
returns-then-has_none c = complete_at c.args.self.now c.pass.new.self _ c.args.part c.args.listed c.in-Histories.is
    (complete_none c.search_laws.ensures _ c.args.self.now c.pass.new.self c.args.listed c.self.view_is c.self.invariant
    (c.has_none.ensures.none c.if-has_none.true) (c.has_none.ensures.no_key c.if-has_none.true) c.requires.low c.pass.ensures)

pub returns-else-has_none : goal.returns-else-has_none
returns-else-has_none c = complete_at c.args.self.now c.args.self.now _ c.args.part c.args.listed c.in-Histories.is
    (complete_some c.search_laws.ensures _ c.args.self.now c.args.listed c.self.view_is c.self.invariant c.requires.over
    (c.has_none.ensures.some c.if-has_none.false))
