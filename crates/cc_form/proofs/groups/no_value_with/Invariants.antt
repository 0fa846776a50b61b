use Rattle.std.proofs.Common.{[], ◌∷◌, ◌+◌, ◌-◌, map}
use Rattle.cc_defs.specs.ClauseForms.{positive}
use Rattle.cc_defs.specs.ClauseLists.{position_variables}
use Rattle.cc_defs.specs.Clauses.{opposite}
use Rattle.cc_form.specs.Store.{Gives}
use Rattle.cc_form.proofs.groups.no_value_with.Given as goal

abbrev pub invariant-loop-high : goal.invariant-loop-high
invariant-loop-high l = Gives l.initial.store.kept l.store.kept (map (λ v. opposite (positive l.low) ∷ opposite v ∷ []) (position_variables (l.low + 1) (l.high - (l.low + 1))))
