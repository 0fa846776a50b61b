use Rattle.std.proofs.Common.{◌∙◌, ℕ, ◌==◌, ◌||◌, length, map, not, ap, sym}
use Rattle.std.specs.List.{list_any}
use Rattle.std.proofs.lemmas.List.{length-map}
use Rattle.cc_defs.specs.DeclarationFaults.{declared_sorts, has_other_count}
use Rattle.cc_defs.specs.Trees.{PlainShape, plain_shape, plain_kind}
use Rattle.cc_sorts.proofs.Denied.{not_second}
use Rattle.cc_sorts.proofs.left.Left.has_other_count.Goals as goal

pub returns-in-Attribute : goal.returns-in-Attribute
returns-in-Attribute c = λ left is_left.
    let action = c.in-Attribute.action in
    let shapes = map plain_shape c.args.shapes.now in
    let own = length (declared_sorts left action.name.now) in
    ap not (c.has_count.ensures left is_left)
    ∙ not_second (length action.sorts == own) (λ (shape : PlainShape). length shape.sorts == length action.sorts) shapes
    ∙ ap (λ (n : ℕ). not (n == own) || list_any (λ (shape : PlainShape). not (length shape.sorts == n)) shapes) (sym (length-map action.sorts (λ sort. sort.now)))
    ∙ sym (ap (λ kind. has_other_count left shapes (plain_kind kind)) c.in-Attribute.is)
