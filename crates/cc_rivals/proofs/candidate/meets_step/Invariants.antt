use Rattle.std.proofs.Common.{◌≡◌, ℕ, List, drop}
use Rattle.std.specs.List.{AllByRecursion}
use Rattle.cc_defs.specs.Rows.{IsRow}
use Rattle.cc_rivals.specs.Making.{IsLawOver, rules_at_step}
use Rattle.cc_rivals.specs.Meets.{rules_met}
use Rattle.cc_rivals.proofs.candidate.meets_step.Given as goal

abbrev pub invariant-loop-law : goal.invariant-loop-law
invariant-loop-law l =
    (rules_met l.row (rules_at_step l.stride (drop l.law-index l.laws) l.horizon l.step) ≡ rules_met l.row (rules_at_step l.stride l.laws l.horizon l.step))
    × ((sizes : List ℕ) × IsRow sizes l.row × AllByRecursion (IsLawOver sizes l.stride l.horizon l.step) (drop l.law-index l.laws))
