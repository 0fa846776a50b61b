use Rattle.std.proofs.Common.{List, ℕ, subst, sym}
use Rattle.std.specs.Prelude.{◌↔◌, IsTrue}
use Rattle.cc_arena.specs.GroundViews.{plain_ground_query}
use Rattle.cc_silent.specs.RivalParts.{AreRivalsOf, RivalsView}
use Rattle.cc_silent.proofs.GeneralChecking.{right_so}
use Rattle.cc_silent.proofs.general.RivalsSilent.is_right.Goals as goal
use Rattle.cc_wide.specs.WideRules.{IsCandidate}

pub is_candidate-requires-clause-query : goal.is_candidate-requires-clause-query
is_candidate-requires-clause-query c = let tried = c.is_tried.ensures.0 c.if-is_tried.true in c.self.invariant.steps c.args.key.now.horizon tried.0 tried.1

pub returns-then-is_tried-clause-right : goal.returns-then-is_tried-clause-right
returns-then-is_tried-clause-right c = λ of is.
    let at = subst (λ (s : RivalsView). AreRivalsOf s of.0 of.1) (sym c.self.view_is) is in
    right_so (plain_ground_query c.self.inside.query.now) of.0 of.1 at.query c.args.key.now (c.is_tried.ensures.0 c.if-is_tried.true) c.is_candidate.result
    (subst (λ (row : List ℕ). IsTrue c.is_candidate.result ↔ IsCandidate of.0 of.1 c.args.key.now.horizon row) c.items-row.ensures (c.is_candidate.ensures.candidate of.0 of.1 at.laws at.query))
