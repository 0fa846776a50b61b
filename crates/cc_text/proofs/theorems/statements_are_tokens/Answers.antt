use Rattle.cc_text.proofs.Statements.{statements_are}
use Rattle.cc_text.proofs.theorems.statements_are_tokens.Goals as goal

pub returns : goal.returns
returns c = statements_are
