use Rattle.std.proofs.Common.{drop}
use Rattle.cc_check.specs.Readers.{numbers_of}
use Rattle.cc_check.proofs.Literals.{RowFrom}
use Rattle.cc_check.proofs.clauses.is_row.Given as goal

abbrev pub invariant-loop-size : goal.invariant-loop-size
invariant-loop-size l = RowFrom (drop l.size-index l.sizes) (numbers_of l.indexes) l.sizes (numbers_of l.row)
