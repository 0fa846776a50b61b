use Rattle.std.proofs.Common.{◌∙◌, ◌==◌, length, map, ap, sym}
use Rattle.std.specs.List.{list_all}
use Rattle.cc_defs.specs.Trees.{plain_shape}
use Rattle.cc_sorts.proofs.Counts.{counts_same}
use Rattle.cc_sorts.proofs.left.Left.has_count.Goals as goal

pub returns-then-count-sort_count : goal.returns-then-count-sort_count
returns-then-count-sort_count c = λ left is_left.
    counts_same _ _ _ _ (ap length (sym c.items-count.ensures) ∙ c.if-count-sort_count.true ∙ c.sort_count.ensures left is_left)
    (c.have_count.ensures ∙ ap (λ sorts. list_all (λ shape. length shape.sorts == length sorts) (map plain_shape c.args.shapes.now)) c.items-count.ensures)
