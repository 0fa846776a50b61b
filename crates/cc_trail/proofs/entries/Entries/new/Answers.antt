use Rattle.std.proofs.Common.{◌∙◌, sym}
use Rattle.cc_trail.proofs.EntryViews.{none_kept}
use Rattle.cc_trail.proofs.entries.Entries.new.Goals as goal

pub invariant_of-result : goal.invariant_of-result
invariant_of-result c =
    let there = none_kept c.args.variables c.in_ok-steps.steps.items c.in_ok-literals.literals.items c.in_ok-places.places.items c.in_ok-marks.marks.items c.requires
    (sym c.in_ok-steps.steps.ok.0 ∙ c.in_ok-steps.ensures.len) (sym c.in_ok-literals.literals.ok.0 ∙ c.in_ok-literals.ensures.len)
    (c.in_ok-places.ensures.items_if_clones_equal (λ n same. same)) (c.in_ok-marks.ensures.items_if_clones_equal (λ n same. same)) in
    record { kept = there.0; marked = there.1 }
