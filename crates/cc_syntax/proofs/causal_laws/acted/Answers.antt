use Rattle.std.proofs.Common.{drop}
use Rattle.cc_defs.specs.Trees.{plain_tree}
use Rattle.cc_syntax.specs.Views.{seen}
use Rattle.cc_syntax.proofs.Acting.{acts_not}
use Rattle.cc_syntax.proofs.Stops.{not-passed}
use Rattle.cc_syntax.proofs.causal_laws.acted.Goals as goal

pub returns : goal.returns
returns c =
    acts_not (plain_tree c.args.action.value) (drop c.args.at (seen c.args.tokens.now))
    (not-passed c.args.tokens.now _ _ c.in_default.ensures) (not-passed c.args.tokens.now _ _ c.in_default-may_cause_words.ensures)
