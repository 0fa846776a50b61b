use Rattle.cc_syntax.proofs.Readable.{readable}
use Rattle.cc_text.specs.Views.{token_views}
use Rattle.cc_show.proofs.trees.show_numbered.Goals as goal

pub parse-requires-clause-are : goal.parse-requires-clause-are
parse-requires-clause-are c = readable (token_views c.statement.result.now) (c.statement.ensures.are c.requires.0 c.requires.1)
