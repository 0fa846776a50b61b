use Rattle.std.proofs.Common.{◌∙◌, map, not, ap, sym}
use Rattle.cc_defs.specs.DeclarationFaults.{has_unknown, is_sort, is_taken}
use Rattle.cc_defs.specs.Trees.{plain_kind}
use Rattle.cc_sorts.proofs.Denied.{not_middle}
use Rattle.cc_sorts.proofs.left.Left.has_unknown.Goals as goal

pub returns-in-Attribute : goal.returns-in-Attribute
returns-in-Attribute c = λ left is_left.
    let action = c.in-Attribute.action in
    ap not (c.knows_attribute.ensures left is_left)
    ∙ not_middle (is_sort left c.in-Attribute.sort.now) (is_taken left action.name.now) (is_sort left) (map (λ sort. sort.now) action.sorts)
    ∙ sym (ap (λ kind. has_unknown left (plain_kind kind)) c.in-Attribute.is)
