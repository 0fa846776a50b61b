use Rattle.std.proofs.Common.{◌∙◌, length, sym}
use Rattle.cc_why.specs.Meeting.{is_settled}
use Rattle.cc_why.proofs.Lists.{fails_at}
use Rattle.cc_why.proofs.history.has_causes.Goals as goal

pub returns-then-not-is_caused_at : goal.returns-then-not-is_caused_at
returns-then-not-is_caused_at c = λ meant are.
    fails_at (is_settled c.args.theory.now.signature meant c.args.row.now) (length c.args.row.now) c.loop-position.position c.loop-position-test.true
    (sym (c.is_caused_at.ensures meant are) ∙ c.if-not-is_caused_at.true)
