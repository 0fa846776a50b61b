use Rattle.std.proofs.Common.{ap, arith, subst, sym}
use Rattle.cc_arena.specs.GroundViews.{plain_ground_query}
use Rattle.cc_defs.specs.GroundLaws.{StandsForQuery}
use Rattle.cc_defs.specs.Signatures.{Signature}
use Rattle.cc_form.specs.Queries.{IsQueryAt}
use Rattle.cc_forever.specs.Forevers.{ForeverView, IsRightFault}
use Rattle.cc_forever.proofs.Giving.{errs_with, look_fault, looking}
use Rattle.cc_forever.proofs.forever.Forever.look_at.Goals as goal

pub search-requires-clause-asked : goal.search-requires-clause-asked
search-requires-clause-asked c =
    let query = plain_ground_query c.self.inside.query.now in
    let asked = subst (λ (s : Signature). IsQueryAt s query.lo query) (ap (λ (s : ForeverView). s.signature) c.self.view_is) c.self.invariant.1.asked in
    let same = ap (λ (s : ForeverView). s.query.lo) c.self.view_is in
    let at = c.requires.horizon in
    c.queries_are_asked_later.ensures c.args.self.now.signature query query.lo c.args.horizon (omega arith) asked

pub returns-in_err-outcome-clause-fault : goal.returns-in_err-outcome-clause-fault
returns-in_err-outcome-clause-fault c =
    errs_with (IsRightFault (looking c.args.self.now)) c.from_residual.result c.in_err-outcome.field-0.0 c.from_residual.ensures.1
    (look_fault c.args.self.now c.args.horizon c.requires.horizon c.requires.low c.requires.few c.in_err-outcome.field-0.0 (λ d q laws query.
    c.in_err-outcome.ensures.refused d q laws (subst (λ (s : ForeverView). StandsForQuery s.query d q) (sym c.self.view_is) query)))
