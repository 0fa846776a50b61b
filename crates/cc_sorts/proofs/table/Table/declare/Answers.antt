use Rattle.std.proofs.Common.{List, IfErr, subst, sym}
use Rattle.cc_defs.specs.Declarations.{Declaration}
use Rattle.cc_defs.specs.Trees.{plain_statement}
use Rattle.cc_sorts.specs.Shown.{shown}
use Rattle.cc_sorts.specs.Tables.{TableView, IsTable, HasRefused, IsUnchangedBy}
use Rattle.cc_sorts.proofs.Tabled.{declared, refused, unchanged, entered_after}
use Rattle.cc_sorts.proofs.table.Table.declare.Goals as goal

pub invariant_of-self : goal.invariant_of-self
invariant_of-self c =
    entered_after c.enter.result c.args.file (plain_statement c.args.statement.now) c.self.inside.register c.enter.new.register c.self.invariant c.enter.ensures.declared c.enter.ensures.refused

pub returns-clause-declared : goal.returns-clause-declared
returns-clause-declared c = λ left is.
    let P : TableView → Type 0 = λ table. IsTable table left in
    declared c.enter.result c.args.file (plain_statement c.args.statement.now) c.self.inside.register c.enter.new.register c.self.invariant c.enter.ensures.declared left (subst P (sym c.self.view_is) is)

pub returns-clause-refused : goal.returns-clause-refused
returns-clause-refused c =
    let P : TableView → Type 0 = λ table. (left : List Declaration) → IsTable table left →
    IfErr c.enter.result (HasRefused c.args.file left (plain_statement c.args.statement.now) table (shown c.enter.new.register)) in
    subst P c.self.view_is
    (refused c.enter.result c.args.file (plain_statement c.args.statement.now) c.self.inside.register c.enter.new.register c.self.invariant c.enter.ensures.refused)

pub returns-clause-unchanged : goal.returns-clause-unchanged
returns-clause-unchanged c =
    let P : TableView → Type 0 = λ table. IfErr c.enter.result (IsUnchangedBy table (shown c.enter.new.register)) in
    subst P c.self.view_is
    (unchanged c.enter.result c.args.file (plain_statement c.args.statement.now) c.self.inside.register c.enter.new.register c.self.invariant c.enter.ensures.refused)
