use Rattle.cc_sorts.specs.Lefts.{new_uppers}
use Rattle.cc_sorts.specs.Searches.{table_uppers}
use Rattle.cc_sorts.proofs.Upward.{grows_join, closed_more}
use Rattle.cc_sorts.proofs.left.Left.add_above.Goals as goal

pub returns-clause-grown : goal.returns-clause-grown
returns-clause-grown c =
    grows_join c.args.found.now.keys c.add_by_table.new.found.keys c.add_new_uppers.new.found.keys
    (table_uppers c.args.self.now.table.now.sorts c.args.sort.now) (new_uppers c.args.self.now c.args.sort.now)
    c.in_ok-add_by_table.ensures.grown c.in_ok-add_new_uppers.ensures

pub returns-clause-closed : goal.returns-clause-closed
returns-clause-closed c =
    closed_more c.args.self.now c.add_by_table.new.closed.keys c.add_by_table.new.found.keys c.add_new_uppers.new.found.keys (new_uppers c.args.self.now c.args.sort.now)
    c.in_ok-add_by_table.ensures.closed c.in_ok-add_new_uppers.ensures
