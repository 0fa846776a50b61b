use Rattle.std.proofs.Common.{◌∙◌, ap}
use Rattle.std.specs.List.{list_all}
use Rattle.cc_sorts.specs.Lefts.{left_has_sort}
use Rattle.cc_sorts.proofs.Lefts.{are_sorts_left}
use Rattle.cc_sorts.proofs.left.Left.are_sorts.Goals as goal

pub returns : goal.returns
returns c = λ left is_left.
    c.has_each.ensures ∙ ap (λ names. list_all (λ name. left_has_sort c.args.self.now name.now) names) c.items.ensures
    ∙ are_sorts_left c.args.self.now left c.args.names.now is_left
