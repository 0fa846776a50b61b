use Rattle.std.proofs.Common.{ap}
use Rattle.cc_defs.specs.Resolved.{Condition, Formula}
use Rattle.cc_laws.proofs.questions.condition.Goals as goal

pub returns-clause-made : goal.returns-clause-made
returns-clause-made c = let at : Formula → Condition = λ formula. record { at = c.args.at; formula = formula } in ap at c.in_ok-joined.ensures.made
