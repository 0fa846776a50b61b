-- A description that the laws of a signature stand for is grounded well.
use Rattle.std.proofs.Common.{◌≡◌, ◌∙◌, List, [], ◌∷◌, subst}
use Rattle.cc_arena.specs.declared.ground_laws.GroundLaw.{GroundLaw}
use Rattle.cc_arena.specs.GroundViews.{plain_ground_laws}
use Rattle.cc_defs.specs.declared.node.GroundHead.{GroundHead}
use Rattle.cc_defs.specs.declared.node.GroundHead.TheVariants as heads
use Rattle.cc_defs.specs.declared.signature.Const.{Const}
use Rattle.cc_defs.specs.declared.signature.LawKind.{LawKind}
use Rattle.cc_defs.specs.declared.signature.LawKind.TheVariants as law_kinds
use Rattle.cc_defs.specs.Conditions.{AreGroundLaws, IsGroundFluentHead, IsGroundSimpleHead, IsGroundActionHead, IsGroundOfKind}
use Rattle.cc_defs.specs.Description.{Description}
use Rattle.cc_defs.specs.GroundLaws.{PlainGroundLaw}
use Rattle.cc_defs.specs.Signatures.{Signature}
use Rattle.cc_defs.specs.Universe.{Universe, AreOwnNumbers}
use Rattle.cc_defs.specs.Signatures.{none_value}
use Rattle.std.specs.List.{AllByRecursion, IsDistinct}
use Rattle.std.specs.Prelude.{ℕ, ◌≤◌, ◌++◌, length, nat_eq, Option}
use Rattle.cc_theory.specs.Laws.{IsGroundedWell}
use Rattle.cc_theory.specs.Theories.{AreLawsFor, AreLawsOf}

-- what the conditions say of a universe is said of its fluents and actions alone
abbrev with : Universe → List Const → List Const → Universe
with w fluents actions = record w { fluents = fluents; actions = actions }

abbrev AreDistinct : List Const → Type 0
AreDistinct constants = AllByRecursion (λ (constant : Const). IsDistinct nat_eq constant.domain) constants

module _ (u w : Universe) where
  abbrev moved : Universe
  moved = with w u.fluents u.actions

  fluent_head : (head : GroundHead) → IsGroundFluentHead u head → IsGroundFluentHead moved head
  fluent_head (heads.Atom constant value) is = is
  fluent_head heads.Falsity is = is

  simple_head : (head : GroundHead) → IsGroundSimpleHead u head → IsGroundSimpleHead moved head
  simple_head (heads.Atom constant value) is = is
  simple_head heads.Falsity is = is

  action_head : (head : GroundHead) → IsGroundActionHead u head → IsGroundActionHead moved head
  action_head (heads.Atom constant value) is = is
  action_head heads.Falsity is = is

  of_kind : (kind : LawKind) (law : PlainGroundLaw) → IsGroundOfKind kind u law → IsGroundOfKind kind moved law
  of_kind law_kinds.Static law is = record { head = fluent_head law.head is.head; body = is.body; after = is.after }
  of_kind law_kinds.ActionDynamic law is = record { head = action_head law.head is.head; body = is.body; after = is.after }
  of_kind law_kinds.FluentDynamic law is = record { head = simple_head law.head is.head; body = is.body; after = is.after; written = is.written; term = is.term }

  laws_moved : (laws : List PlainGroundLaw) → AreGroundLaws u laws → AreGroundLaws moved laws
  laws_moved [] are = tt
  laws_moved (law ∷ laws) are = (of_kind law.kind law are.0, laws_moved laws are.1)

pub well_grounded : (signature : Signature) (laws : List GroundLaw) (d : Description) → AreLawsFor signature laws → AreLawsOf signature laws d → IsGroundedWell d
well_grounded signature laws d are of =
    let u = are.u in
    let w = d.universe in
    let fluents : u.fluents ≡ w.fluents = are.fluents ∙ of.signature_is.fluents in
    let actions : u.actions ≡ w.actions = are.actions ∙ of.signature_is.actions in
    let numbers : u.numbers ≡ w.numbers = are.numbers ∙ of.signature_is.numbers in
    let fit : AreGroundLaws (with w u.fluents u.actions) (plain_ground_laws laws) = laws_moved u w (plain_ground_laws laws) are.laws_fit in
    record {
      values = record {
        values = subst (λ (a : List Const). AreDistinct (w.fluents ++ a)) actions (subst (λ (f : List Const). AreDistinct (f ++ u.actions)) fluents are.values.values);
        numbers = subst AreOwnNumbers numbers are.values.numbers;
        few = subst (λ (n : List (Option ℕ)). length n ≤ none_value) numbers are.values.few;
      };
      laws = subst (AreGroundLaws w) of.laws_are
          (subst (λ (a : List Const). AreGroundLaws (with w w.fluents a) (plain_ground_laws laws)) actions
          (subst (λ (f : List Const). AreGroundLaws (with w f u.actions) (plain_ground_laws laws)) fluents fit));
    }
