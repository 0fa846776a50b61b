use Rattle.std.proofs.Common.{◌∙◌, ◌++◌, Option, List, ap, sym, refl}
use Rattle.std.proofs.lemmas.List.{append-nil}
use Rattle.cc_theory.proofs.Made.{flat_next, nothing_left}
use Rattle.cc_theory.proofs.making.add_step.Goals.{in-Some+in_ok-push, in_default}
use Rattle.cc_theory.specs.Making as words
use Rattle.cc_arena.specs.declared.ground_laws.GroundLaw.{GroundLaw}
use Rattle.cc_theory.specs.declared.rule.TimedRule.{TimedRule}
use Rattle.cc_theory.proofs.making.add_step.Goals as goal

pub rule_at-requires-clause-step : goal.rule_at-requires-clause-step
rule_at-requires-clause-step c = c.requires.step

pub rule_at-requires-clause-horizon : goal.rule_at-requires-clause-horizon
rule_at-requires-clause-horizon c = c.requires.horizon

pub rule_at-requires-clause-stride : goal.rule_at-requires-clause-stride
rule_at-requires-clause-stride c = c.requires.stride

pub loop-law-preserved : goal.loop-law-preserved
loop-law-preserved c =
    let front = c.loop-law.rules.items in
    flat_next (λ (law : GroundLaw). words.rules_in (words.rule_at c.args.stride c.args.horizon c.args.step law)) c.args.laws.now c.loop-law.law-index _ front c.match-rule_at.rules.items _ c.loop-law-test.true
    (elim c.match-rule_at.branch [
      | in-Some+in_ok-push w ↦ ap (λ rules. rules.items) w.rules-is ∙ w.in_ok-push.ensures.items ∙ ap (λ (rule : Option TimedRule). front ++ words.rules_in rule) w.in-Some.ensures
      | in_default w ↦ ap (λ rules. rules.items) w.rules-is ∙ sym (append-nil front) ∙ ap (λ (rule : Option TimedRule). front ++ words.rules_in rule) w.in_default.ensures
    ]) c.loop-law.invariant

pub returns : goal.returns
returns c = nothing_left (λ (laws : List GroundLaw). words.rules_at_step c.args.stride laws c.args.horizon c.args.step) c.args.laws.now c.loop-law.law-index c.loop-law.rules.items _ refl c.loop-law-test.false c.loop-law.invariant
