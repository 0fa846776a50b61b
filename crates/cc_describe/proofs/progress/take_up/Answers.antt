use Rattle.std.proofs.Common.{option_copied}
use Rattle.cc_defs.specs.Trees.{plain_statement}
use Rattle.cc_text.specs.Views.{token_views}
use Rattle.cc_syntax.proofs.Readable.{readable}
use Rattle.cc_describe.proofs.ProgressLemmas.{errs, refused_by_text, refused_by_tree, taken_by_tree}
use Rattle.cc_describe.proofs.progress.take_up.Goals as goal

pub parse-requires-clause-are : goal.parse-requires-clause-are
parse-requires-clause-are c = readable (token_views c.args.tokens.now) c.requires.are

pub returns-clause-taken : goal.returns-clause-taken
returns-clause-taken c = λ which before is.
    taken_by_tree which option_copied c.take_tree.result before c.args.file c.args.progress.now.around.items (token_views c.args.tokens.now) (plain_statement c.in_ok-statement.statement) c.take_tree.new.progress
    c.in_ok-statement.ensures.parsed (c.take_tree.ensures.said which before is) c.take_tree.ensures.name

pub returns-clause-refused : goal.returns-clause-refused
returns-clause-refused c = λ which before is.
    refused_by_tree which before c.args.file c.args.progress.now.around.items (token_views c.args.tokens.now) (plain_statement c.in_ok-statement.statement) c.take_tree.result
    c.in_ok-statement.ensures.parsed (c.take_tree.ensures.refused which before is)

pub returns-in_err-statement-clause-refused : goal.returns-in_err-statement-clause-refused
returns-in_err-statement-clause-refused c = λ which before is.
    errs _ c.from_residual.result _ c.from_residual.ensures.1
    (refused_by_text which before c.args.file c.args.progress.now.around.items (token_views c.args.tokens.now) _ c.in_err-statement.ensures.refused)
