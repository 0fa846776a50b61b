use Rattle.std.proofs.Common.{◌∙◌, map, not, ap, sym}
use Rattle.cc_defs.specs.DeclarationFaults.{constant_named, declared_sorts, has_other_sorts, is_boolean_action, same_sorts}
use Rattle.cc_defs.specs.Trees.{PlainShape, plain_shape, plain_kind}
use Rattle.cc_sorts.proofs.Denied.{not_third}
use Rattle.cc_sorts.proofs.left.Left.has_other_sorts.Goals as goal

pub returns-in-Attribute : goal.returns-in-Attribute
returns-in-Attribute c = λ left is_left.
    let action = c.in-Attribute.action in
    let own = declared_sorts left action.name.now in
    ap not (c.has_sorts.ensures left is_left)
    ∙ not_third (is_boolean_action (constant_named left action.name.now)) (same_sorts (map (λ sort. sort.now) action.sorts) own) (λ (shape : PlainShape). same_sorts shape.sorts own) (map plain_shape c.args.shapes.now)
    ∙ sym (ap (λ kind. has_other_sorts left (map plain_shape c.args.shapes.now) (plain_kind kind)) c.in-Attribute.is)
