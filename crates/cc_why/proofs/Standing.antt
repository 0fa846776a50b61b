-- The rules of ground laws are rules of a row of their horizon.
use Rattle.std.proofs.Common.{◌≡◌, ◌∙◌, Bor, ℕ, ◌+◌, ◌*◌, ◌<◌, ◌≤◌, Bool, true, false, List, [], ◌∷◌, length, nat_lt, Option, Some, None, option_map, refl, sym, ap, subst, arith, length-append}
use Rattle.std.specs.Prelude.{if◌then◌else◌, IfSome, IsNone}
use Rattle.std.proofs.lemmas.Bool.{ltb-true}
use Rattle.std.proofs.lemmas.List.{length-map}
use Rattle.std.proofs.lemmas.Option.{slice_get_within}
use Rattle.cc_arena.specs.declared.ground_laws.GroundLaw.{GroundLaw}
use Rattle.cc_arena.specs.GroundViews.{plain_ground_law, plain_ground_laws}
use Rattle.cc_defs.specs.declared.node.GroundHead.{GroundHead}
use Rattle.cc_defs.specs.declared.node.GroundHead.TheVariants as heads
use Rattle.cc_defs.specs.declared.node.Node.{Node}
use Rattle.cc_defs.specs.declared.signature.Const.{Const}
use Rattle.cc_defs.specs.declared.signature.LawKind.{LawKind}
use Rattle.cc_defs.specs.declared.signature.LawKind.TheVariants as law_kinds
use Rattle.cc_defs.specs.Conditions.{AreGroundLaws, IsFluentTerm, IsTermOf, IsGroundFluentHead, IsGroundSimpleHead, IsGroundActionHead, IsGroundOfKind}
use Rattle.cc_defs.specs.Description.{domain_sizes}
use Rattle.cc_defs.specs.Signatures.{Signature, position_count}
use Rattle.cc_defs.specs.Universe.{Universe, constants_in}
use Rattle.cc_theory.specs.Making.{head_at, rule_of, stride_of}
use Rattle.cc_theory.specs.Theories.{AreLawsFor}
use Rattle.cc_why.specs.Meeting.{IsHeadIn, IsPartIn, IsRuleIn, IsTermFrom}
use Rattle.cc_why.specs.Noting.{StandIn, head_step}
use Rattle.cc_why.proofs.Rows.{all_room, fluents_room, term_from}

module _ (u : Universe) (horizon : ℕ) where
  abbrev F : ℕ
  F = length u.fluents

  abbrev A : ℕ
  A = length u.actions

  abbrev wide : ℕ
  wide = F + A

  abbrev count : ℕ
  count = F * (horizon + 1) + A * horizon

  all_count : length (constants_in u) ≡ wide
  all_count = length-append u.fluents u.actions

  -- ---- heads

  fluent_head : (head : GroundHead) (step : ℕ) → step ≤ horizon → IsGroundFluentHead u head → IsHeadIn count (head_at wide step head)
  fluent_head (heads.Atom number value) step within is =
      let room = fluents_room F A horizon step within in
      let less = slice_get_within u.fluents number is.0 is.1 in
      omega arith
  fluent_head heads.Falsity step within is = tt

  simple_head : (head : GroundHead) (step : ℕ) → step ≤ horizon → IsGroundSimpleHead u head → IsHeadIn count (head_at wide step head)
  simple_head (heads.Atom number value) step within is =
      let room = fluents_room F A horizon step within in
      let less = slice_get_within u.fluents number is.0 is.1 in
      omega arith
  simple_head heads.Falsity step within is = tt

  action_head : (head : GroundHead) (step : ℕ) → step < horizon → IsGroundActionHead u head → IsHeadIn count (head_at wide step head)
  action_head (heads.Atom number value) step within is =
      let room = all_room F A horizon step within in
      let less = slice_get_within (constants_in u) number is.0 is.2 in
      let all = all_count in
      omega arith
  action_head heads.Falsity step within is = tt

  -- ---- terms

  fluent_term : (step : ℕ) (term : List Node) → step ≤ horizon → IsFluentTerm u term → IsTermFrom count (step * wide) term
  fluent_term step term within is =
      let room = fluents_room F A horizon step within in
      let long = length-map u.fluents (λ (c : Const). length c.domain) in
      term_from (domain_sizes u.fluents) count (step * wide) term (omega arith) is

  any_term : (step : ℕ) (term : List Node) → step < horizon → IsTermOf u term → IsTermFrom count (step * wide) term
  any_term step term within is =
      let room = all_room F A horizon step within in
      let long = length-map (constants_in u) (λ (c : Const). length c.domain) in
      let all = all_count in
      term_from (domain_sizes (constants_in u)) count (step * wide) term (omega arith) is

  -- ---- parts

  abbrev AfterFits : ℕ → Option (Bor (List Node)) → Type 0
  AfterFits step after = IsPartIn count wide (option_map (λ nodes. record { step = step; nodes = nodes }) after)

  no_after : (after : Option (Bor (List Node))) (step : ℕ) → IsNone (option_map (λ (n : Bor (List Node)). n.now) after) → AfterFits step after
  no_after None step is = tt
  no_after (Some n) step is = absurd cc

  after_part : (given : Option (Bor (List Node))) (step : ℕ) → step < horizon → (after : List Node) →
      option_map (λ (n : Bor (List Node)). n.now) given ≡ Some after → IsTermOf u after → AfterFits step given
  after_part None step less after is term = absurd cc
  after_part (Some n) step less after is term = any_term step n.now less (subst (IsTermOf u) (let same : after ≡ n.now = cc in same) term)

  -- ---- laws

  where_taken : (b : Bool) (now step : ℕ) (law : GroundLaw) → (b ≡ true → IsRuleIn count wide (rule_of wide law now step)) →
      IfSome (if b then Some now else None) (λ now. IsRuleIn count wide (rule_of wide law now step))
  where_taken true now step law fits = fits refl
  where_taken false now step law fits = tt

  kind_stands : (kind : LawKind) (law : GroundLaw) (step : ℕ) → step ≤ horizon → IsGroundOfKind kind u (plain_ground_law law) →
      IfSome (head_step kind horizon step) (λ now. IsRuleIn count wide (rule_of wide law now step))
  kind_stands law_kinds.Static law step within is =
      record { head = fluent_head law.head step within is.head; now = fluent_term step law.body.now within is.body; before = no_after law.after step is.after }
  kind_stands law_kinds.ActionDynamic law step within is = where_taken (nat_lt step horizon) step step law (λ e.
      let less = ltb-true step horizon e in
      record { head = action_head law.head step less is.head; now = any_term step law.body.now less is.body; before = no_after law.after step is.after })
  kind_stands law_kinds.FluentDynamic law step within is = where_taken (nat_lt step horizon) (step + 1) step law (λ e.
      let less = ltb-true step horizon e in
      let later : step + 1 ≤ horizon = omega arith in
      record {
        head = simple_head law.head (step + 1) later is.head;
        now = fluent_term (step + 1) law.body.now later is.body;
        before = after_part law.after step less is.after is.written is.term;
      })

  laws_stand : (laws : List GroundLaw) (step : ℕ) → step ≤ horizon → AreGroundLaws u (plain_ground_laws laws) → StandIn count wide horizon step laws
  laws_stand [] step within are = tt
  laws_stand (law ∷ laws) step within are = (kind_stands law.kind law step within are.0, laws_stand laws step within are.1)

-- in a row as long as the horizon has positions
pub stand_in : (signature : Signature) (laws : List GroundLaw) → AreLawsFor signature laws → (horizon long stride : ℕ) → long ≡ position_count signature horizon → stride ≡ stride_of signature →
    (all : List GroundLaw) → all ≡ laws → (step : ℕ) → step ≤ horizon → StandIn long stride horizon step all
stand_in signature laws are horizon long stride same apart all is step within =
    let f = length are.u.fluents in
    let a = length are.u.actions in
    let count_is : f * (horizon + 1) + a * horizon ≡ long =
    ap (λ (c : List Const). length c * (horizon + 1) + a * horizon) are.fluents
    ∙ ap (λ (c : List Const). length signature.fluents * (horizon + 1) + length c * horizon) are.actions ∙ sym same in
    let wide_is : f + a ≡ stride =
    ap (λ (c : List Const). length c + a) are.fluents ∙ ap (λ (c : List Const). length signature.fluents + length c) are.actions ∙ sym apart in
    subst (λ (l : List GroundLaw). StandIn long stride horizon step l) (sym is)
    (subst (λ (n : ℕ). StandIn n stride horizon step laws) count_is
    (subst (λ (n : ℕ). StandIn (f * (horizon + 1) + a * horizon) n horizon step laws) wide_is (laws_stand are.u horizon laws step within are.laws_fit)))
