use Rattle.std.proofs.Common.{◌≡◌, ◌-◌, ◌+◌, ◌*◌, ◌≤◌, [], drop, map}
use Rattle.cc_defs.specs.Trees.{plain_sum}
use Rattle.cc_syntax.specs.Terms.{plain_addend, addends_by, addends_from, term_from, args_from}
use Rattle.cc_syntax.specs.Views.{seen}
use Rattle.cc_syntax.proofs.terms.+terms.Given as goal

abbrev pub decreases-piece_within : goal.decreases-piece_within
decreases-piece_within l = 4 * l.steps + 1

abbrev pub decreases-addends_within : goal.decreases-addends_within
decreases-addends_within l = 4 * l.steps + 2

abbrev pub decreases-sum_within : goal.decreases-sum_within
decreases-sum_within l = 4 * l.steps + 3

abbrev pub decreases-term_within : goal.decreases-term_within
decreases-term_within l = 4 * l.steps

abbrev pub invariant-addends_within-loop : goal.invariant-addends_within-loop
invariant-addends_within-loop l =
    addends_by (term_from l.steps) (drop l.at (seen l.tokens))
    ≡ addends_from (term_from l.steps) (l.end - l.counter) (map plain_addend l.addends.items) (drop l.next (seen l.tokens))

abbrev pub invariant-term_within-loop-left : goal.invariant-term_within-loop-left
invariant-term_within-loop-left l =
    (args_from (l.steps - 1) [] (drop l.initial.next (seen l.tokens)) ≡ args_from l.left (map plain_sum l.args.items) (drop l.next (seen l.tokens)))
    × (l.left ≤ l.steps)
