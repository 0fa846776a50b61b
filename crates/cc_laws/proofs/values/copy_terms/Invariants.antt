use Rattle.std.proofs.Common.{◌≡◌, drop}
use Rattle.cc_laws.specs.Views.{row_terms}
use Rattle.cc_laws.proofs.TermRows.{behind}
use Rattle.cc_laws.proofs.values.copy_terms.Given as goal

abbrev pub invariant-loop-term : goal.invariant-loop-term
invariant-loop-term l = behind (row_terms l.copies.items) (row_terms (drop l.term-index l.terms)) ≡ row_terms l.terms
