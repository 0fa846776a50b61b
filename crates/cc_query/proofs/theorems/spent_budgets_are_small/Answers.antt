use Rattle.cc_query.proofs.SpentBudgets.{budgets_are_small}
use Rattle.cc_query.proofs.theorems.spent_budgets_are_small.Goals as goal

pub returns : goal.returns
returns c = budgets_are_small c.earned_lines_are_few.ensures
