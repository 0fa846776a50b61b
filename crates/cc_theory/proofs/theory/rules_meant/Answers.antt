use Rattle.std.proofs.Common.{ℕ, ◌≤◌, IfErr, OnOk, Some, None, subst, nat_lt}
use Rattle.std.specs.Prelude.{if◌then◌else◌}
use Rattle.std.specs.List.{AllByRecursion, AllZip}
use Rattle.cc_theory.specs.Groups.{sizes_of, HasPlace}
use Rattle.cc_theory.proofs.HeadsFit.{heads_fit}
use Rattle.cc_theory.proofs.RulesFit.{rules_fit}
use Rattle.cc_theory.specs.Theories.{AreRulesAt}
use Rattle.cc_defs.specs.declared.refusal.LimitAt.TheVariants as limits
use Rattle.cc_defs.specs.Description.{stride}
use Rattle.cc_defs.specs.Refusals.{IsRefusedBy, past}
use Rattle.cc_defs.specs.TimedRules.{timed_rules}
use Rattle.cc_theory.specs.Making.{rules_for}
use Rattle.cc_theory.specs.Theories.{IsRuleOf}
use Rattle.cc_theory.proofs.Pointwise.{as_made, rules_same, same_length}
use Rattle.cc_theory.proofs.theory.rules_meant.Goals as goal

pub returns-clause-rules : goal.returns-clause-rules
returns-clause-rules c = λ d of.
    as_made (λ made. made.items) (λ rules. AllZip (IsRuleOf (stride d)) rules (timed_rules d c.args.horizon)) c.rules_within.result (rules_for c.args.sig.now c.args.laws.now c.args.horizon)
    (rules_same c.args.sig.now c.args.laws.now d of c.args.horizon) c.rules_within.ensures.made

pub returns-clause-few : goal.returns-clause-few
returns-clause-few c = λ d of. subst (λ (n : ℕ). OnOk c.rules_within.result (n ≤ 8000000)) (same_length c.args.sig.now c.args.laws.now d of c.args.horizon) c.rules_within.ensures.few

pub returns-clause-refused : goal.returns-clause-refused
returns-clause-refused c = λ d of.
    subst (λ (n : ℕ). IfErr c.rules_within.result (IsRefusedBy (if nat_lt 8000000 n then Some (past limits.Rules) else None)))
    (same_length c.args.sig.now c.args.laws.now d of c.args.horizon) c.rules_within.ensures.refused

pub returns-clause-heads : goal.returns-clause-heads
returns-clause-heads c =
    as_made (λ made. made.items) (λ rules. AllByRecursion (λ rule. HasPlace (sizes_of c.args.sig.now) c.args.horizon rule.head) rules) c.rules_within.result
    (rules_for c.args.sig.now c.args.laws.now c.args.horizon) (heads_fit c.args.sig.now c.args.laws.now c.args.horizon c.requires.laws) c.rules_within.ensures.made

pub returns-clause-fit : goal.returns-clause-fit
returns-clause-fit c =
    as_made (λ made. made.items) (λ rules. AreRulesAt c.args.sig.now c.args.horizon rules) c.rules_within.result
    (rules_for c.args.sig.now c.args.laws.now c.args.horizon) (rules_fit c.args.sig.now c.args.laws.now c.args.horizon c.requires.laws) c.rules_within.ensures.made
