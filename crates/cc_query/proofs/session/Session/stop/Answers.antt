use Rattle.cc_query.proofs.Joining.{stop_asked, stop_claim}
use Rattle.cc_query.proofs.session.Session.stop.Goals as goal

pub returns-in-Histories-clause-gives : goal.returns-in-Histories-clause-gives
returns-in-Histories-clause-gives c = stop_asked c.search_laws.ensures _ c.args.self.now c.args.part c.args.listed c.self.view_is c.self.invariant c.requires.over c.in-Histories.is

pub returns-in-Claim-clause-gives : goal.returns-in-Claim-clause-gives
returns-in-Claim-clause-gives c = stop_claim c.search_laws.ensures _ c.args.self.now c.stand.new.self c.args.part c.args.listed c.self.view_is c.self.invariant c.in-Claim.is c.stand.ensures
