use Rattle.cc_syntax.proofs.Readable.{readable}
use Rattle.cc_text.specs.Views.{token_views}
use Rattle.cc_tests_runs.proofs.calls.stands_whole.Goals as goal

pub wide_laws_said-requires-clause-are : goal.wide_laws_said-requires-clause-are
wide_laws_said-requires-clause-are c = readable (token_views c.statement.result.now) (c.statement.ensures.are c.args.bytes.now c.in_ok-tokens.ensures.read)
