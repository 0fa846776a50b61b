use Rattle.std.proofs.Common.{[], ◌∷◌, map, take}
use Rattle.cc_defs.specs.ClauseForms.{all_written}
use Rattle.cc_defs.specs.Clauses.{opposite}
use Rattle.cc_form.specs.Making.{picked}
use Rattle.cc_form.specs.Store.{Gives}
use Rattle.cc_form.proofs.groups.deny_falsity.Given as goal

abbrev pub invariant-loop-number : goal.invariant-loop-number
invariant-loop-number l = Gives l.initial.store.kept l.store.kept (all_written (map (λ body. opposite body ∷ []) (picked l.bodies (take l.number-index l.number-items))))
