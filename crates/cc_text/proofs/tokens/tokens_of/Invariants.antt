use Rattle.std.proofs.Common.{length}
use Rattle.cc_text.specs.Views.{token_views}
use Rattle.cc_text.proofs.Stepping.{ReadSoFar}
use Rattle.cc_text.proofs.tokens.tokens_of.Given as goal

abbrev pub invariant-loop-tokens : goal.invariant-loop-tokens
invariant-loop-tokens l = ReadSoFar l.file l.bytes (token_views l.tokens.items) l.line l.rest

abbrev pub decreases-loop-tokens : goal.decreases-loop-tokens
decreases-loop-tokens l = length l.rest
