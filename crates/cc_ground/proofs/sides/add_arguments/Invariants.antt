use Rattle.std.proofs.Common.{◌≡◌, ◌++◌, List, ℕ, drop, map, option_map}
use Rattle.cc_defs.specs.Resolved.{plain_term, terms_of}
use Rattle.cc_defs.specs.Satisfaction as words
use Rattle.cc_ground.specs.Bindings.{environment_of}
use Rattle.cc_ground.specs.Views.{bare_universe}
use Rattle.cc_ground.proofs.sides.add_arguments.Given as goal

abbrev pub invariant-loop-term : goal.invariant-loop-term
invariant-loop-term l =
    option_map (λ (more : List ℕ). l.args.items ++ more) (words.arguments (bare_universe l.table) (environment_of l.env) (terms_of (map plain_term (drop l.term-index l.terms))))
    ≡ words.arguments (bare_universe l.table) (environment_of l.env) (terms_of (map plain_term l.terms))
