use Rattle.std.proofs.Common.{◌≡◌, ◌++◌, drop}
use Rattle.std.specs.List.{AllByRecursion}
use Rattle.cc_theory.specs.Groups.{sizes_of, place_keys, HasPlace}
use Rattle.cc_theory.proofs.index.keys.Given as goal

abbrev pub invariant-loop-rule : goal.invariant-loop-rule
invariant-loop-rule l =
    (l.keys.items ++ place_keys (sizes_of l.sig) l.horizon (drop l.rule-index l.rules) ≡ place_keys (sizes_of l.sig) l.horizon l.rules)
    × AllByRecursion (λ rule. HasPlace (sizes_of l.sig) l.horizon rule.head) (drop l.rule-index l.rules)
