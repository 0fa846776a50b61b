-- What ground laws give at a horizon.
use Rattle.std.proofs.Common.{◌≡◌, ◌∙◌, ℕ, ◌+◌, List, [], ◌∷◌, length, ap, arith, subst, length-append}
use Rattle.std.specs.List.{AllByRecursion}
use Rattle.std.proofs.lemmas.Option.{slice_get_within}
use Rattle.cc_arena.specs.declared.ground_laws.GroundLaw.{GroundLaw}
use Rattle.cc_arena.specs.GroundViews.{plain_ground_law, plain_ground_laws}
use Rattle.cc_defs.specs.declared.node.GroundHead.{GroundHead}
use Rattle.cc_defs.specs.declared.node.GroundHead.TheVariants as heads
use Rattle.cc_defs.specs.declared.signature.Const.{Const}
use Rattle.cc_defs.specs.declared.signature.LawKind.{LawKind}
use Rattle.cc_defs.specs.declared.signature.LawKind.TheVariants as law_kinds
use Rattle.cc_defs.specs.Conditions.{AreGroundLaws, IsGroundActionHead, IsGroundFluentHead, IsGroundOfKind, IsGroundSimpleHead}
use Rattle.cc_defs.specs.Universe.{Universe, constants_in}
use Rattle.cc_theory.specs.Making.{stride_of}
use Rattle.cc_theory.specs.Theories.{IsHeadBelow, LawsGiveRules}
use Rattle.cc_theory.proofs.Pointwise.{rules_same, same_length}
use Rattle.cc_theory.proofs.RulesFit.{rules_fit}
use Rattle.cc_theory.proofs.WellGrounded.{well_grounded}

module _ (u : Universe) where
  abbrev count : ℕ
  count = length u.fluents + length u.actions

  fluent_below : (head : GroundHead) → IsGroundFluentHead u head → IsHeadBelow count head
  fluent_below (heads.Atom number value) is = let here = slice_get_within u.fluents number is.0 is.1 in omega arith
  fluent_below heads.Falsity is = tt

  simple_below : (head : GroundHead) → IsGroundSimpleHead u head → IsHeadBelow count head
  simple_below (heads.Atom number value) is = let here = slice_get_within u.fluents number is.0 is.1 in omega arith
  simple_below heads.Falsity is = tt

  action_below : (head : GroundHead) → IsGroundActionHead u head → IsHeadBelow count head
  action_below (heads.Atom number value) is =
      let here = slice_get_within (constants_in u) number is.0 is.2 in
      let long : length (constants_in u) ≡ count = length-append u.fluents u.actions in
      omega arith
  action_below heads.Falsity is = tt

  kind_below : (kind : LawKind) (law : GroundLaw) → IsGroundOfKind kind u (plain_ground_law law) → IsHeadBelow count law.head
  kind_below law_kinds.Static law is = fluent_below law.head is.head
  kind_below law_kinds.ActionDynamic law is = action_below law.head is.head
  kind_below law_kinds.FluentDynamic law is = simple_below law.head is.head

  all_below : (laws : List GroundLaw) → AreGroundLaws u (plain_ground_laws laws) → AllByRecursion (λ law. IsHeadBelow count law.head) laws
  all_below [] are = tt
  all_below (law ∷ laws) are = (kind_below law.kind law are.0, all_below laws are.1)

pub laws_give : LawsGiveRules
laws_give signature laws are horizon =
    let many : count are.u ≡ stride_of signature = ap (λ (f : List Const). length f + length are.u.actions) are.fluents ∙ ap (λ (a : List Const). length signature.fluents + length a) are.actions in
    record {
      heads = subst (λ (n : ℕ). AllByRecursion (λ law. IsHeadBelow n law.head) laws) many (all_below are.u laws are.laws_fit);
      fit = rules_fit signature laws horizon are;
      long = λ d of. same_length signature laws d of horizon;
      theory = λ d of. record { signature = of.signature_is; well = well_grounded signature laws d are of; rules = rules_same signature laws d of horizon };
    }
