use Rattle.std.proofs.Common.{◌∙◌, ℕ, List, ap}
use Rattle.cc_defs.specs.Satisfaction.{bind, giving}
use Rattle.cc_ground.specs.Bindings.{BindingsView, bound_over, environment_of}
use Rattle.cc_ground.proofs.Binding.{bound_more}
use Rattle.cc_ground.proofs.bindings.Bindings.bind.Goals as goal

pub returns-clause-binds : goal.returns-clause-binds
returns-clause-binds c =
    ap (λ (pairs : List (ℕ × ℕ)). bound_over pairs (giving c.self.inside.values.items)) c.in_ok-push.ensures.items
    ∙ bound_more c.self.inside.bound.items (c.args.variable, c.args.object) (giving c.self.inside.values.items)
    ∙ ap (λ (b : BindingsView). bind c.args.variable c.args.object (environment_of b)) c.self.view_is
