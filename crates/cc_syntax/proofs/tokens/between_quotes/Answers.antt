use Rattle.std.proofs.Common.{arith}
use Rattle.std.proofs.lemmas.Str.{IsCharBoundary-before_ascii}
use Rattle.cc_syntax.proofs.Quotes.{last-quote}
use Rattle.cc_syntax.proofs.tokens.between_quotes.Goals as goal

pub range-requires-clause-end_boundary : goal.range-requires-clause-end_boundary
range-requires-clause-end_boundary c =
    let p = last-quote c.args.text.now c.requires in
    IsCharBoundary-before_ascii c.args.text.now _ (omega arith) (omega arith)
