use Rattle.std.proofs.Common.{[]}
use Rattle.cc_arena.proofs.Formulas.{postfix_is_one}
use Rattle.cc_arena.proofs.terms.one_formula.Goals as goal

pub returns : goal.returns
returns c first second same = (postfix_is_one first [] [] second same).1
