use Rattle.std.proofs.Common.{◌≡◌, ◌<◌, List, drop, length, slice_get}
use Rattle.std.specs.List.{AllByRecursion, AllZip, list_any}
use Rattle.cc_defs.specs.TimedRules as timed
use Rattle.cc_theory.specs.Theories.{IsRuleOf}
use Rattle.cc_why.specs.Meeting.{holds_in}
use Rattle.cc_why.proofs.history.is_caused.Given as goal

abbrev pub invariant-loop-number : goal.invariant-loop-number
invariant-loop-number l =
    AllByRecursion (λ number. number < length l.rules) (drop l.number-index l.numbers)
    × ((meant : List timed.TimedRule) → AllZip (IsRuleOf l.stride) l.rules meant →
    list_any (λ number. holds_in l.row (slice_get meant number)) (drop l.number-index l.numbers) ≡ list_any (λ number. holds_in l.row (slice_get meant number)) l.numbers)
