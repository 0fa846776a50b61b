-- Where an action does nothing.
use Rattle.std.proofs.Common.{◌≡◌, List, Option, Some, None, refl, ap}
use Rattle.std.specs.Prelude.{codes}
use Rattle.cc_defs.specs.Trees.{PlainTree, MayCause}
use Rattle.cc_defs.specs.Grammar.{Terminal}
use Rattle.cc_syntax.specs.Laws.{acted_at, effect_at}
use Rattle.cc_syntax.specs.Readers.{given, word_at, ◌>>=◌}

bind-none : {A B C : Type 0} (o : Option A) (f : A → Option B) (g : B → Option C) → (o >>= f) ≡ None → (o >>= λ x. f x >>= g) ≡ None
bind-none None f g e = refl
bind-none (Some x) f g e = ap (λ w. w >>= g) e

-- none of the words is there
pub acts_not : (action : PlainTree) (tokens : List Terminal) → word_at (codes "causes") tokens ≡ None →
    given (word_at (codes "may") tokens) None (word_at (codes "cause")) ≡ None → acted_at action tokens ≡ None
acts_not action tokens first second = rw first (bind-none (word_at (codes "may") tokens) (word_at (codes "cause")) (effect_at (MayCause action)) second)
