use Rattle.std.proofs.Common.{◌∙◌, ℕ, ◌∷◌, [], ◌++◌, ap, sym}
use Rattle.cc_theory.proofs.Made.{map_counted}
use Rattle.std.proofs.lemmas.List.{append-nil}
use Rattle.cc_theory.specs.Making as words
use Rattle.cc_theory.proofs.making.add_values.Goals as goal

pub loop-value-init : goal.loop-value-init
loop-value-init c = sym (append-nil c.args.rules.now.items)

pub loop-value-preserved : goal.loop-value-preserved
loop-value-preserved c =
    map_counted (words.initial_rule c.args.number) c.loop-value.value _ c.loop-value.rules.items c.push.new.self.items
    (c.in_ok-push.ensures.items ∙ ap (λ (n : ℕ). c.loop-value.rules.items ++ words.initial_rule n c.loop-value.value ∷ []) c.from.ensures) c.loop-value.invariant
