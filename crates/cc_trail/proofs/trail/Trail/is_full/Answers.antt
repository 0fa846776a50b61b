use Rattle.std.proofs.Common.{◌≡◌, ◌≤◌, Bool, inl, inr, true, false, Option, Some, None, refl, sym, subst, arith}
use Rattle.std.specs.Prelude.{IsTrue, option_map}
use Rattle.std.proofs.lemmas.Bool.Decides.{eqb_tells}
use Rattle.cc_trail.specs.declared.entries.Step.{Step}
use Rattle.cc_trail.specs.Steps.{sign_of, step_of, values_of}
use Rattle.cc_trail.specs.Trails.{TrailView}
use Rattle.cc_trail.proofs.StepLists.{room}
use Rattle.cc_trail.proofs.trail.Trail.is_full.Goals as goal

no_step : (found : Option Step) → option_map sign_of found ≡ None → found ≡ None
no_step None is = refl
no_step (Some step) is = cc

pub returns : goal.returns
returns c yes_it variable some most none = elim (eqb_tells c.count.result c.variables.result) [
  | inl same ↦
      let full : c.count.result ≡ c.variables.result = same.1 in
      let few = room c.self.inside.entries.variables c.self.inside.entries.level_count c.self.inside.entries.steps (record { variable = variable; positive = true })
      c.variables.ensures.steps (some, subst (λ (v : TrailView). variable ≤ v.variables) (sym c.self.view_is) most)
      (no_step (step_of c.self.inside.entries.steps variable) (subst (λ (v : TrailView). values_of v.steps variable ≡ None) (sym c.self.view_is) none)) in
      let count = c.count.ensures.count in
      let variables = c.variables.ensures.variables in
      omega (arith, few)
  | inr other ↦ let never : IsTrue false = subst (λ (b : Bool). IsTrue b) (other.0) yes_it in cc
]
