use Rattle.std.proofs.Common.{◌∙◌, length, ap}
use Rattle.cc_sorts.proofs.Counts.{count_of_symbol, count_of_new}
use Rattle.cc_sorts.proofs.left.Left.sort_count.Goals as goal

pub returns-in-Some : goal.returns-in-Some
returns-in-Some c = λ left is_left.
    ap length c.items.ensures ∙ count_of_symbol c.args.self.now left c.args.name.now c.in-Some.symbol.now is_left c.in-Some.ensures

pub returns-in-None : goal.returns-in-None
returns-in-None c = λ left is_left.
    c.new_count.ensures ∙ ap length (count_of_new c.args.self.now left c.args.name.now is_left c.in-None.ensures)
