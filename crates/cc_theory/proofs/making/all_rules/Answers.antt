use Rattle.std.proofs.Common.{◌∙◌, ◌≡◌, ℕ, ◌+◌, ◌++◌, List, ap, arith, flat_map, sym}
use Rattle.std.proofs.lemmas.List.{append-nil}
use Rattle.cc_defs.specs.Rules.{upto}
use Rattle.cc_theory.proofs.Made.{flat_counted}
use Rattle.cc_theory.specs.declared.rule.TimedRule.{TimedRule}
use Rattle.cc_theory.specs.Making as words
use Rattle.cc_theory.proofs.making.all_rules.Goals as goal

pub loop-step-init : goal.loop-step-init
loop-step-init c =
    c.in_ok-add_all_initial.ensures ∙ ap (λ (w : List TimedRule). w ++ words.all_initial 0 c.args.sig.now.fluents) c.in_ok-rules.ensures.items ∙ sym (append-nil (words.all_initial 0 c.args.sig.now.fluents))

pub add_step-requires-clause-step : goal.add_step-requires-clause-step
add_step-requires-clause-step c = omega arith

pub add_step-requires-clause-horizon : goal.add_step-requires-clause-horizon
add_step-requires-clause-horizon c = c.requires

pub add_step-requires-clause-stride : goal.add_step-requires-clause-stride
add_step-requires-clause-stride c = c.stride-stride.ensures.bound

pub loop-step-preserved : goal.loop-step-preserved
loop-step-preserved c =
    let laws = c.args.laws.now in
    flat_counted (words.rules_at_step (words.stride_of c.args.sig.now) laws c.args.horizon) c.loop-step.step _ c.loop-step.rules.items c.add_step.new.rules.items
    (c.in_ok-add_step.ensures ∙ ap (λ (n : ℕ). c.loop-step.rules.items ++ words.rules_at_step n laws c.args.horizon c.loop-step.step) c.stride-stride.ensures.value) c.loop-step.invariant

pub returns : goal.returns
returns c =
    let all : c.loop-step.step ≡ c.args.horizon + 1 = omega arith in
    c.loop-step.invariant
    ∙ ap (λ (n : ℕ). words.all_initial 0 c.args.sig.now.fluents ++ flat_map (words.rules_at_step (words.stride_of c.args.sig.now) c.args.laws.now c.args.horizon) (upto n)) all
