use Rattle.std.proofs.Common.{◌≡◌, ◌++◌, drop}
use Rattle.cc_defs.specs.Declarations.{numbers_where}
use Rattle.cc_defs.specs.Universe.{boolean_actions, constants_in, is_boolean_action}
use Rattle.cc_ground.specs.Views.{universe_of}
use Rattle.cc_ground.proofs.pairs.boolean_actions_of.Given as goal

abbrev pub invariant-loop-number : goal.invariant-loop-number
invariant-loop-number l =
    let u = universe_of l.table l.sig in
    l.numbers.items ++ numbers_where (is_boolean_action u) l.number (drop l.number (constants_in u)) ≡ boolean_actions u
