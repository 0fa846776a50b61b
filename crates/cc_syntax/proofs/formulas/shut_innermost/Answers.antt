use Rattle.std.proofs.Common.{List, drop, subst, sym}
use Rattle.cc_defs.specs.Trees.{plain_tree}
use Rattle.cc_syntax.specs.Formulas.{PlainFrame, shut}
use Rattle.cc_syntax.specs.Turns.{Turns}
use Rattle.cc_syntax.specs.Views.{seen}
use Rattle.cc_syntax.proofs.Stacks.{stack-pushed}
use Rattle.cc_syntax.proofs.formulas.shut_innermost.Goals as goal

pub returns-in-Some : goal.returns-in-Some
returns-in-Some c =
    subst (λ (frames : List PlainFrame). Turns c.args.tokens.now c.pop.new.self.items c.shut_frame.result (shut (frames, plain_tree c.args.tree.value) (drop c.args.at (seen c.args.tokens.now))))
    (sym (stack-pushed _ _ _ c.in-Some.ensures.items)) (c.shut_frame.ensures c.pop.new.self.items)
