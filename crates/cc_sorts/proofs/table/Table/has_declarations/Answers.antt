use Rattle.std.proofs.Common.{subst}
use Rattle.cc_sorts.specs.Tables.{IsOfDeclarations}
use Rattle.cc_sorts.proofs.Tabled.{some_table}
use Rattle.cc_sorts.proofs.table.Table.has_declarations.Goals as goal

pub returns : goal.returns
returns c = subst IsOfDeclarations c.self.view_is (some_table c.self.inside.register c.self.invariant)
