use Rattle.std.proofs.Common.{IfOk, subst}
use Rattle.cc_sorts.specs.Tables.{TableView, IsSignatureFor}
use Rattle.cc_sorts.proofs.Tabled.{entered_of, signature_for}
use Rattle.cc_sorts.proofs.table.Table.signature.Goals as goal

pub returns-clause-its : goal.returns-clause-its
returns-clause-its c =
    let P : TableView → Type 0 = λ table. IfOk c.signature.result (IsSignatureFor table) in
    subst P c.self.view_is (signature_for c.signature.result c.self.inside.register c.self.invariant c.signature.ensures.made)

pub returns-clause-made : goal.returns-clause-made
returns-clause-made c = λ left is. c.signature.ensures.made left (entered_of c.self.inside.register c.args.self.now left c.self.view_is c.self.invariant is)

pub returns-clause-refused : goal.returns-clause-refused
returns-clause-refused c = λ left is. c.signature.ensures.refused left (entered_of c.self.inside.register c.args.self.now left c.self.view_is c.self.invariant is)
