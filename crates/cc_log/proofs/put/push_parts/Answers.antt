use Rattle.std.proofs.Common.{arith}
use Rattle.std.proofs.lemmas.Grind.{common_steps}
use Rattle.cc_log.proofs.Spelled.{derived_text, numbered_text}
use Rattle.cc_log.proofs.put.push_parts.Goals as goal

pub returns-in-Derived : goal.returns-in-Derived
returns-in-Derived c = grind (arith, common_steps, derived_text)

pub returns-in-Block : goal.returns-in-Block
returns-in-Block c = grind (arith, common_steps, numbered_text)
