use Rattle.std.proofs.Common.{◌∙◌, ◌+◌, ◌≤◌, ℕ, ap, flat_map, subst, sym}
use Rattle.std.specs.List.{AllByRecursion}
use Rattle.cc_defs.specs.Rules.{upto}
use Rattle.cc_form.specs.Places.{position_sizes}
use Rattle.cc_rivals.specs.Making.{IsLawOver, most_in_front, rules_at_step}
use Rattle.cc_rivals.specs.Meets.{rules_met}
use Rattle.cc_rivals.proofs.Stances.{few_in_front, laws_over}
use Rattle.cc_rivals.proofs.Testing.{steps_met}
use Rattle.cc_rivals.proofs.candidate.meets_rules.Goals as goal

pub meets_steps-requires-clause-laws : goal.meets_steps-requires-clause-laws
meets_steps-requires-clause-laws c =
    let sizes = position_sizes c.args.sig.now c.args.horizon in (
      sizes,
      c.requires.row,
      (λ step within.
          subst (λ (n : ℕ). AllByRecursion (IsLawOver sizes n c.args.horizon step) c.args.laws.now) (sym c.stride.ensures.value)
          (laws_over c.args.sig.now most_in_front c.args.horizon (few_in_front c.args.sig.now (subst (λ (n : ℕ). n ≤ 8589934592) c.stride.ensures.value c.stride.ensures.bound) c.args.horizon c.requires.horizon) c.args.laws.now c.requires.laws step within)),
    )

pub returns : goal.returns
returns c =
    c.meets_steps.ensures
    ∙ ap (λ (n : ℕ). rules_met c.args.row.now (flat_map (rules_at_step n c.args.laws.now c.args.horizon) (upto (c.args.horizon + 1)))) c.stride.ensures.value
    ∙ steps_met c.args.row.now c.args.sig.now c.args.laws.now c.args.horizon
