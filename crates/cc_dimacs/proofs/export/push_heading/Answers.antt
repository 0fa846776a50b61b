use Rattle.std.proofs.Common.{◌∙◌}
use Rattle.cc_dimacs.proofs.Exporting.{heading_as}
use Rattle.cc_dimacs.proofs.export.push_heading.Goals as goal

pub returns : goal.returns
returns c =
    c.in_ok-push_str-4.ensures.bytes
    ∙ heading_as _ _ _ _ _ _ _ _ _ _ c.in_ok-push_str.ensures.bytes c.in_ok-push_number.ensures c.in_ok-push_str-2.ensures.bytes c.in_ok-push_number-2.ensures c.in_ok-push_str-3.ensures.bytes c.in_ok-push_number-3.ensures
