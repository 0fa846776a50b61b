use Rattle.std.proofs.Common.{◌∙◌, List, Option, Some, ap, drop, map, sym}
use Rattle.cc_defs.specs.declared.token.Mark.TheVariants as marks
use Rattle.cc_defs.specs.declared.tree.Tree.{Tree}
use Rattle.cc_defs.specs.Grammar.{Terminal}
use Rattle.cc_defs.specs.Trees.{Condition, PlainQueryItem, PlainTree, plain_tree}
use Rattle.cc_syntax.specs.Formulas.{formula_at}
use Rattle.cc_syntax.specs.Readers.{listed_at, ◌>>=◌}
use Rattle.cc_syntax.specs.Views.{seen}
use Rattle.cc_syntax.proofs.queries.condition.Goals as goal

pub returns : goal.returns
returns c =
    let make : List PlainTree × List Terminal → Option (PlainQueryItem × List Terminal) = λ read. Some (Condition c.args.claim c.args.step read.0, read.1) in
    ap (λ (o : Option (List Terminal)). (o >>= listed_at formula_at marks.Comma) >>= make) c.in_ok-next.ensures
    ∙ ap (λ (o : Option (List PlainTree × List Terminal)). o >>= make) c.in_ok-parts.ensures
    ∙ sym (ap (λ (items : List Tree). make (map plain_tree items, drop c.in_ok-parts.next (seen c.args.tokens.now))) c.of-parts.ensures)
