use Rattle.std.proofs.Common.{◌∙◌, ℕ, ◌++◌, ◌∷◌, List, [], ap, refl}
use Rattle.cc_theory.proofs.Made.{all_later, all_next, map_next, nothing_left}
use Rattle.cc_theory.specs.Groups.{sizes_of, place_keys, place_of, HasPlace}
use Rattle.cc_theory.specs.declared.rule.TimedRule.{TimedRule}
use Rattle.cc_theory.proofs.index.keys.Goals as goal

pub loop-rule-init : goal.loop-rule-init
loop-rule-init c = (ap (λ (w : List ℕ). w ++ place_keys (sizes_of c.args.sig.now) c.args.horizon c.args.rules.now) c.new-keys.ensures.items, c.requires.heads)

pub bounds-rules-rule-index : goal.bounds-rules-rule-index
bounds-rules-rule-index c = c.loop-rule-test.true

pub place-requires-clause-firsts : goal.place-requires-clause-firsts
place-requires-clause-firsts c = c.requires.firsts

pub place-requires-clause-few : goal.place-requires-clause-few
place-requires-clause-few c = c.requires.few

pub place-requires-clause-head : goal.place-requires-clause-head
place-requires-clause-head c = all_next (λ (rule : TimedRule). HasPlace (sizes_of c.args.sig.now) c.args.horizon rule.head) c.args.rules.now c.loop-rule.rule-index _ c.loop-rule-test.true c.loop-rule.invariant.1

pub loop-rule-preserved : goal.loop-rule-preserved
loop-rule-preserved c =
    let sizes = sizes_of c.args.sig.now in (
      map_next (λ (rule : TimedRule). place_of sizes c.args.horizon rule.head) c.args.rules.now c.loop-rule.rule-index _ c.loop-rule.keys.items c.push.new.self.items _ c.loop-rule-test.true
          (c.in_ok-push.ensures.items ∙ ap (λ (key : ℕ). c.loop-rule.keys.items ++ key ∷ []) c.place.ensures) c.loop-rule.invariant.0,
      all_later (λ (rule : TimedRule). HasPlace sizes c.args.horizon rule.head) c.args.rules.now c.loop-rule.rule-index c.loop-rule.invariant.1,
    )

pub returns : goal.returns
returns c = nothing_left (place_keys (sizes_of c.args.sig.now) c.args.horizon) c.args.rules.now c.loop-rule.rule-index c.loop-rule.keys.items _ refl c.loop-rule-test.false c.loop-rule.invariant.0
