use Rattle.std.proofs.Common.{drop, option_map}
use Rattle.std.specs.List.{AllByRecursion}
use Rattle.cc_rivals.specs.Making.{IsLawOver, rules_at_step}
use Rattle.cc_rivals.specs.Putting.{put_rules}
use Rattle.cc_rivals.proofs.Folding.{Stands}
use Rattle.cc_rivals.proofs.walk.put_step.Given as goal

abbrev pub invariant-loop-law : goal.invariant-loop-law
invariant-loop-law l =
    Stands (put_rules (option_map (λ row. row.now) l.row)) l.initial.draft l.draft (rules_at_step l.stride (drop l.law-index l.laws) l.horizon l.step) (rules_at_step l.stride l.laws l.horizon l.step)
    × AllByRecursion (IsLawOver l.initial.draft.places l.stride l.horizon l.step) (drop l.law-index l.laws)
