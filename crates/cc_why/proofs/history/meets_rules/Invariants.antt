use Rattle.std.proofs.Common.{◌≡◌, List, drop, length}
use Rattle.std.specs.List.{AllByRecursion, AllZip, list_all}
use Rattle.cc_defs.specs.TimedRules as timed
use Rattle.cc_theory.specs.Theories.{IsRuleOf}
use Rattle.cc_why.specs.Meeting.{IsRuleIn, meets}
use Rattle.cc_why.proofs.history.meets_rules.Given as goal

abbrev pub invariant-loop-rule : goal.invariant-loop-rule
invariant-loop-rule l =
    AllByRecursion (IsRuleIn (length l.row) l.stride) (drop l.rule-index l.rules)
    × ((meant : List timed.TimedRule) → AllZip (IsRuleOf l.stride) l.rules meant →
    (rest : List timed.TimedRule) × AllZip (IsRuleOf l.stride) (drop l.rule-index l.rules) rest × (list_all (meets l.row) rest ≡ list_all (meets l.row) meant))
