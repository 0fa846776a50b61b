use Rattle.std.proofs.Common.{◌∙◌, map, not, ap, sym}
use Rattle.cc_defs.specs.DeclarationFaults.{is_unknown, is_sort}
use Rattle.cc_sorts.specs.Declaring.{plain_head}
use Rattle.cc_sorts.proofs.Denied.{not_all}
use Rattle.cc_sorts.proofs.left.Left.is_unknown.Goals as goal

pub returns-in-Constant : goal.returns-in-Constant
returns-in-Constant c = λ file line left is_left.
    ap not (c.are_sorts.ensures left is_left)
    ∙ not_all (is_sort left) (map (λ sort. sort.now) c.in-Constant.shape.now.sorts)
    ∙ sym (ap (λ declaration. is_unknown left (plain_head file line declaration)) c.in-Constant.is)
