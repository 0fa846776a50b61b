use Rattle.std.proofs.Common.{◌∙◌, ◌++◌, ◌∷◌, [], List, ℕ, ap}
use Rattle.cc_dimacs.proofs.Atoms.{twos_more}
use Rattle.cc_dimacs.proofs.form.two_values.Goals as goal

pub loop-preserved : goal.loop-preserved
loop-preserved c = c.in_ok-push.ensures.items ∙ ap (λ (l : List ℕ). l ++ 2 ∷ []) c.loop.invariant ∙ twos_more c.loop.counter
