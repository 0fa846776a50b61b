use Rattle.cc_defs.specs.Trees.{plain_part}
use Rattle.cc_syntax.proofs.Statements.{whole-ended}
use Rattle.cc_syntax.proofs.statement.whole.Goals as goal

pub returns-clause-read : goal.returns-clause-read
returns-clause-read c = (whole-ended (λ place. plain_part place.value) _ _ _ _ _ _ c.in_ok-part.ensures (c.ends.ensures _) c.then_some.ensures c.ok_or.ensures.value).0

pub returns-clause-none : goal.returns-clause-none
returns-clause-none c = (whole-ended (λ place. plain_part place.value) _ _ _ _ _ _ c.in_ok-part.ensures (c.ends.ensures _) c.then_some.ensures c.ok_or.ensures.value).1
