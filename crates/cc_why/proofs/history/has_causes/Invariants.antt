use Rattle.std.proofs.Common.{◌≡◌, List, true}
use Rattle.std.specs.List.{AllZip, list_all}
use Rattle.cc_defs.specs.Declarations.{upto}
use Rattle.cc_defs.specs.TimedRules as timed
use Rattle.cc_theory.specs.Theories.{IsRuleOf}
use Rattle.cc_why.specs.Meeting.{is_settled}
use Rattle.cc_why.proofs.history.has_causes.Given as goal

abbrev pub invariant-loop-position : goal.invariant-loop-position
invariant-loop-position l =
    (meant : List timed.TimedRule) → AllZip (IsRuleOf l.stride) l.theory.rules meant →
    list_all (is_settled l.theory.signature meant l.row) (upto l.position) ≡ true
