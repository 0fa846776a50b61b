use Rattle.std.proofs.Common.{[], ◌∷◌, map, take}
use Rattle.cc_defs.specs.ClauseForms.{all_written}
use Rattle.cc_defs.specs.Clauses.{opposite}
use Rattle.cc_form.specs.Store.{Gives}
use Rattle.cc_form.proofs.defining.write_with_each_opposite.Given as goal

abbrev pub invariant-loop-literal : goal.invariant-loop-literal
invariant-loop-literal l = Gives l.initial.store.kept l.store.kept (all_written (map (λ literal. l.first ∷ opposite literal ∷ []) (take l.literal-index l.literals)))
