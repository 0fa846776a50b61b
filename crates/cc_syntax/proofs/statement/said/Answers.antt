use Rattle.std.proofs.Common.{Err, ap}
use Rattle.cc_syntax.proofs.Statements.{is_long, is_short, is_refused}
use Rattle.cc_syntax.proofs.statement.said.Goals as goal

pub returns-in-Ok-clause-read : goal.returns-in-Ok-clause-read
returns-in-Ok-clause-read c = (is_short _ _ _ c.token_limit-limit.ensures c.number.ensures c.if-tokens-number.false, c.in-Ok.ensures.read)

pub returns-in-Err-NoTree-clause-refused : goal.returns-in-Err-NoTree-clause-refused
returns-in-Err-NoTree-clause-refused c =
    is_refused c.args.tokens.now _ _
    (is_short _ _ _ c.token_limit-limit.ensures c.number.ensures c.if-tokens-number.false)
    (c.in-Err-NoTree.ensures.none (ap Err c.in-Err-NoTree.field-0-is)) c.refusal.ensures

pub returns-then-tokens-number-clause-refused : goal.returns-then-tokens-number-clause-refused
returns-then-tokens-number-clause-refused c =
    is_long c.args.tokens.now _ _ _ _ c.token_limit-limit.ensures c.number.ensures c.if-tokens-number.true c.too_long.ensures
