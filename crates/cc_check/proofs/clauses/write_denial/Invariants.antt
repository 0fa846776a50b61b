use Rattle.std.proofs.Common.{◌≡◌, ◌++◌, drop}
use Rattle.cc_defs.specs.ClauseForms.{first_variable}
use Rattle.cc_defs.specs.Clauses.{IsOver}
use Rattle.cc_defs.specs.Rows.{IsRow}
use Rattle.cc_defs.specs.Sections.{denial_from, row_denial}
use Rattle.cc_check.specs.Readers.{numbers_of}
use Rattle.cc_check.proofs.clauses.write_denial.Given as goal

-- what is there, with the denial of what is left, is the whole
abbrev pub invariant-loop-i : goal.invariant-loop-i
invariant-loop-i l = record {
  denial : l.out.items ++ denial_from (first_variable l.form.sizes l.i) (drop l.i l.form.sizes) (numbers_of l.rest) ≡ row_denial l.form.sizes (numbers_of l.row);
  row : IsRow (drop l.i l.form.sizes) (numbers_of l.rest);
  over : IsOver l.form.variables l.out.items;
}
