use Rattle.std.proofs.Common.{subst, sym}
use Rattle.std.proofs.lemmas.Result.{IfErr-weaker, IfOk-weaker}
use Rattle.cc_defs.specs.Refusals.{IsRefusedBy}
use Rattle.cc_sure.proofs.turns.SureTurns.search_with.Goals as goal

pub returns-clause-within : goal.returns-clause-within
returns-clause-within c = IfOk-weaker c.search_one.result _ _ (λ outcome is. c.in_ok-searched.ensures.within) c.search_one.ensures.outcome

pub returns-clause-refused : goal.returns-clause-refused
returns-clause-refused c = IfErr-weaker c.search_one.result _ _ (λ fault is. subst (IsRefusedBy _) (sym is) tt) c.search_one.ensures.fault
