use Rattle.std.proofs.Common.{◌≡◌, ◌∙◌, ◌+◌, ◌-◌, ℕ, [], ◌∷◌, map, arith, ap, subst}
use Rattle.cc_defs.specs.ClauseForms.{positive}
use Rattle.cc_defs.specs.ClauseLists.{position_variables}
use Rattle.cc_defs.specs.Clauses.{Literal, opposite}
use Rattle.cc_form.specs.Store.{Gives}
use Rattle.cc_form.proofs.Keeping.{gives_none}
use Rattle.cc_form.proofs.Choices.{pair_more}
use Rattle.cc_form.proofs.groups.no_value_with.Goals as goal

pub loop-high-init : goal.loop-high-init
loop-high-init c = subst (λ (n : ℕ). Gives c.args.store.now.kept c.args.store.now.kept (map (λ v. opposite (positive c.args.low) ∷ opposite v ∷ []) (position_variables (c.args.low + 1) n)))
    (let e : 0 ≡ c.args.low + 1 - (c.args.low + 1) = omega arith in e) (gives_none c.args.store.now.kept)

pub loop-high-preserved : goal.loop-high-preserved
loop-high-preserved c = pair_more c.args.store.now.kept c.loop-high.store.kept c.keep_two.new.self.kept c.args.low c.loop-high.high (λ v. opposite (positive c.args.low) ∷ opposite v ∷ [])
    (c.negative.result ∷ c.negative-in-loop-high.result ∷ []) c.loop-high.auto.high
    (ap (λ (l : Literal). l ∷ c.negative-in-loop-high.result ∷ []) c.negative.ensures ∙ ap (λ (l : Literal). opposite (positive c.args.low) ∷ l ∷ []) c.negative-in-loop-high.ensures) c.loop-high.invariant c.in_ok-keep_two.ensures

pub returns : goal.returns
returns c = subst (λ (n : ℕ). Gives c.args.store.now.kept c.loop-high.store.kept (map (λ v. opposite (positive c.args.low) ∷ opposite v ∷ []) (position_variables (c.args.low + 1) (n - (c.args.low + 1)))))
    (let e : c.loop-high.high ≡ c.args.end = omega arith in e) c.loop-high.invariant
