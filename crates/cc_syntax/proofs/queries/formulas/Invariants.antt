use Rattle.std.proofs.Common.{◌-◌}
use Rattle.cc_defs.specs.declared.token.Mark.TheVariants as marks
use Rattle.cc_defs.specs.Trees.{plain_tree}
use Rattle.cc_syntax.specs.Formulas.{formula_at}
use Rattle.cc_syntax.proofs.Lists.{IsListedFrom}
use Rattle.cc_syntax.proofs.queries.formulas.Given as goal

abbrev pub invariant-loop : goal.invariant-loop
invariant-loop l = IsListedFrom plain_tree formula_at marks.Comma l.tokens l.at (l.end - l.counter) l.formulas.items l.next
