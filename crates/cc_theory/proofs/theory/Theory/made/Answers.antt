use Rattle.std.proofs.Common.{◌∙◌, ◌≤◌, List, ap, length, subst, sym}
use Rattle.std.specs.List.{AllByRecursion}
use Rattle.cc_arena.specs.declared.ground_laws.GroundLaw.{GroundLaw}
use Rattle.cc_theory.specs.Groups.{sizes_of, AreIndexed, HasPlace}
use Rattle.cc_theory.specs.Making.{rules_for}
use Rattle.cc_theory.specs.Theories.{AreLawsFor, AreLawsOf}
use Rattle.cc_theory.specs.declared.rule.TimedRule.{TimedRule}
use Rattle.cc_theory.proofs.theory.Theory.made.Goals as goal

pub rules_meant-requires-clause-laws : goal.rules_meant-requires-clause-laws
rules_meant-requires-clause-laws c = subst (AreLawsFor c.args.sig.now) (sym c.laws.ensures) c.requires.laws

pub index_of-requires-clause-count : goal.index_of-requires-clause-count
index_of-requires-clause-count c = subst (λ (rules : List TimedRule). length rules ≤ 8000000) (sym c.deref.ensures.value) c.in_ok-rules.ensures.short

pub index_of-requires-clause-heads : goal.index_of-requires-clause-heads
index_of-requires-clause-heads c =
    subst (AllByRecursion (λ (rule : TimedRule). HasPlace (sizes_of c.args.sig.now) c.args.horizon rule.head)) (sym c.deref.ensures.value) c.in_ok-rules.ensures.heads

pub invariant_of-result : goal.invariant_of-result
invariant_of-result c =
    let index = c.in_ok-index.index in (
      subst (λ (rules : List TimedRule). AreIndexed c.args.sig.now c.args.horizon rules index.firsts.items index.begins.items index.numbers.items) c.deref.ensures.value c.in_ok-index.ensures,
      c.in_ok-rules.ensures.fit,
      c.requires.horizon,
    )

pub returns-clause-pinned : goal.returns-clause-pinned
returns-clause-pinned c = c.in_ok-rules.ensures.pinned ∙ ap (λ (laws : List GroundLaw). rules_for c.args.sig.now laws c.args.horizon) c.laws.ensures

pub returns-clause-rules : goal.returns-clause-rules
returns-clause-rules c = λ d of. c.in_ok-rules.ensures.rules d (subst (λ (laws : List GroundLaw). AreLawsOf c.args.sig.now laws d) (sym c.laws.ensures) of)

pub returns-clause-few : goal.returns-clause-few
returns-clause-few c = λ d of. c.in_ok-rules.ensures.few d (subst (λ (laws : List GroundLaw). AreLawsOf c.args.sig.now laws d) (sym c.laws.ensures) of)
