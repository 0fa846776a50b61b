use Rattle.cc_syntax.proofs.Parsing.{one-tree}
use Rattle.cc_syntax.proofs.Statements.{is_parsed}
use Rattle.cc_syntax.proofs.statement.parse.Goals as goal

pub returns-clause-parsed : goal.returns-clause-parsed
returns-clause-parsed c =
    is_parsed _ c.in_ok-part.part _ c.requires.some c.requires.are c.in_ok-part.ensures.read.0 c.in_ok-part.ensures.read.1

pub returns-clause-one : goal.returns-clause-one
returns-clause-one c = λ other spelled. one-tree _ _ other (returns-clause-parsed c).spelled spelled
