use Rattle.std.proofs.Common.{◌∙◌, sym, subst}
use Rattle.cc_sorts.specs.Searches.{Grows, table_uppers}
use Rattle.cc_sorts.specs.Tables.{TableView}
use Rattle.cc_sorts.proofs.Upward.{grows_known, closed_step}
use Rattle.cc_sorts.proofs.left.Left.add_by_table.Goals as goal

pub returns-then-contains-clause-grown : goal.returns-then-contains-clause-grown
returns-then-contains-clause-grown c =
    grows_known c.args.found.now.keys (table_uppers c.args.self.now.table.now.sorts c.args.sort.now) (λ upper i. c.requires c.args.sort.now upper (sym c.contains.ensures ∙ c.if-contains.true) i)

pub returns-clause-grown : goal.returns-clause-grown
returns-clause-grown c =
    subst (λ (view : TableView). Grows c.args.found.now.keys c.add_table_uppers.new.found.keys (table_uppers view.sorts c.args.sort.now)) c.table.view_is c.in_ok-add_table_uppers.ensures

pub returns-clause-closed : goal.returns-clause-closed
returns-clause-closed c =
    closed_step c.args.self.now c.args.closed.now.keys c.add_table_uppers-2.new.found.keys c.args.found.now.keys c.add_table_uppers.new.found.keys c.args.sort.now c.requires
    (subst (λ (view : TableView). Grows c.args.found.now.keys c.add_table_uppers.new.found.keys (table_uppers view.sorts c.args.sort.now)) c.table.view_is c.in_ok-add_table_uppers.ensures)
    (subst (λ (view : TableView). Grows c.args.closed.now.keys c.add_table_uppers-2.new.found.keys (table_uppers view.sorts c.args.sort.now)) c.table.view_is c.in_ok-add_table_uppers-2.ensures)
