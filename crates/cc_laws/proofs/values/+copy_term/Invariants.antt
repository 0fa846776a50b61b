use Rattle.std.proofs.Common.{◌≡◌, drop}
use Rattle.cc_laws.specs.Views.{row_terms}
use Rattle.cc_laws.proofs.TermRows.{behind}
use Rattle.cc_laws.proofs.values.+copy_term.Given as goal

abbrev pub invariant-loop-argument : goal.invariant-loop-argument
invariant-loop-argument l = behind (row_terms l.copies.items) (row_terms (drop l.argument-index l.argument-items)) ≡ row_terms l.argument-items
