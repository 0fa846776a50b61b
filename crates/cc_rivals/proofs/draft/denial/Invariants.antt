use Rattle.std.proofs.Common.{◌≡◌, ◌+◌, ◌++◌, ◌≤◌, drop}
use Rattle.std.specs.List.{sum}
use Rattle.cc_defs.specs.Rows.{IsRow}
use Rattle.cc_defs.specs.Sections.{denial_from, row_denial}
use Rattle.cc_rivals.proofs.draft.denial.Given as goal

abbrev pub invariant-loop-index : goal.invariant-loop-index
invariant-loop-index l = record {
  some : 1 ≤ l.first;
  within : l.first + sum (drop l.index l.sizes) ≤ 4000001;
  is_row : IsRow (drop l.index l.sizes) (drop l.index l.row);
  denials : l.clause.items ++ denial_from l.first (drop l.index l.sizes) (drop l.index l.row) ≡ row_denial l.sizes l.row;
}
