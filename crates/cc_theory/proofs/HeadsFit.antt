-- The heads of the rules that are made from ground laws are atoms of the horizon, or falsity.
use Rattle.std.proofs.Common.{◌≡◌, ◌∙◌, ℕ, zero, suc, ◌+◌, ◌*◌, ◌<◌, ◌≤◌, Bool, true, false, List, [], ◌∷◌, ◌++◌, length, map, flat_map, nat_lt, slice_get, Some, None, refl, sym, ap, subst, arith, option_map, length-append}
use Rattle.std.specs.Prelude.{if◌then◌else◌}
use Rattle.std.specs.List.{AllByRecursion}
use Rattle.std.proofs.lemmas.Bool.{ltb-true}
use Rattle.std.proofs.lemmas.List.{length-map}
use Rattle.std.proofs.lemmas.Nat.{mod-mul-add, div-mul-add}
use Rattle.std.proofs.lemmas.Option.{slice_get_within, slice_get-map}
use Rattle.cc_arena.specs.declared.ground_laws.GroundLaw.{GroundLaw}
use Rattle.cc_arena.specs.GroundViews.{plain_ground_law, plain_ground_laws}
use Rattle.cc_defs.specs.declared.node.GroundHead.{GroundHead}
use Rattle.cc_defs.specs.declared.node.GroundHead.TheVariants as heads
use Rattle.cc_defs.specs.declared.signature.Const.{Const}
use Rattle.cc_defs.specs.declared.signature.Kind.{Kind}
use Rattle.cc_defs.specs.declared.signature.Kind.TheVariants as kinds
use Rattle.cc_defs.specs.declared.signature.LawKind.{LawKind}
use Rattle.cc_defs.specs.declared.signature.LawKind.TheVariants as law_kinds
use Rattle.cc_defs.specs.Conditions.{AreGroundLaws, IsGroundFluentHead, IsGroundSimpleHead, IsGroundActionHead, IsGroundOfKind}
use Rattle.cc_defs.specs.Description.{domain_sizes}
use Rattle.cc_defs.specs.Rules.{upto}
use Rattle.cc_defs.specs.Signatures.{Signature}
use Rattle.cc_defs.specs.Universe.{Universe, constants_in}
use Rattle.cc_theory.specs.declared.rule.TimedHead.TheVariants as timed_heads
use Rattle.cc_theory.specs.declared.rule.TimedRule.{TimedRule}
use Rattle.cc_theory.specs.Groups.{sizes_of, HasPlace}
use Rattle.cc_theory.specs.Making.{all_initial, head_at, initial_of, initial_rule, rule_at, rule_of_kind, rules_at_step, rules_for, rules_in}
use Rattle.cc_theory.specs.Theories.{AreLawsFor}
use Rattle.cc_theory.proofs.Made.{map_behind, flat_behind}

module _ {X : Type 0} (P : X → Type 0) where
  pub all_behind : (xs ys : List X) → AllByRecursion P xs → AllByRecursion P ys → AllByRecursion P (xs ++ ys)
  all_behind [] ys all more = more
  all_behind (x ∷ xs) ys all more = (all.0, all_behind xs ys all.1 more)

  pub mapped_upto : (f : ℕ → X) (n : ℕ) → ((v : ℕ) → v < n → P (f v)) → AllByRecursion P (map f (upto n))
  mapped_upto f zero each = tt
  mapped_upto f (suc n) each = subst (AllByRecursion P) (sym (map_behind f (upto n) (n ∷ [])))
      (all_behind (map f (upto n)) (f n ∷ []) (mapped_upto f n (λ v less. each v (omega arith))) (each n (omega arith), tt))

  pub flat_upto : (f : ℕ → List X) (n : ℕ) → ((v : ℕ) → v < n → AllByRecursion P (f v)) → AllByRecursion P (flat_map f (upto n))
  flat_upto f zero each = tt
  flat_upto f (suc n) each = subst (AllByRecursion P) (sym (flat_behind f (upto n) (n ∷ [])))
      (all_behind (flat_map f (upto n)) (f n ++ []) (flat_upto f n (λ v less. each v (omega arith))) (all_behind (f n) [] (each n (omega arith)) tt))

pub among_first : {X : Type 0} (xs ys : List X) (i : ℕ) (x : X) → slice_get xs i ≡ Some x → slice_get (xs ++ ys) i ≡ Some x
among_first [] ys i x e = absurd cc
among_first (y ∷ xs) ys zero x e = e
among_first (y ∷ xs) ys (suc i) x e = among_first xs ys i x e

module _ (constants : List Const) (horizon : ℕ) where
  abbrev sizes : List ℕ
  sizes = domain_sizes constants

  abbrev Fits : TimedRule → Type 0
  Fits rule = HasPlace sizes horizon rule.head

  abbrev count : ℕ
  count = length sizes

  sized : (number : ℕ) (found : Const) → slice_get constants number ≡ Some found → slice_get sizes number ≡ Some (length found.domain)
  sized number found at = slice_get-map (λ (c : Const). length c.domain) constants number ∙ ap (option_map (λ (c : Const). length c.domain)) at

  atom_fits : (step number value : ℕ) (found : Const) → slice_get constants number ≡ Some found → value < length found.domain → step ≤ horizon →
      HasPlace sizes horizon (timed_heads.Atom (step * count + number) value)
  atom_fits step number value found at less within =
      let here = sized number found at in
      let number_less : number < count = slice_get_within sizes number (length found.domain) here in (
        length found.domain,
        subst (λ (s : ℕ). s ≤ horizon) (sym (div-mul-add step count number number_less)) within,
        ap (slice_get sizes) (mod-mul-add step count number number_less) ∙ here,
        less,
      )

  first_fits : (number value : ℕ) (found : Const) → slice_get constants number ≡ Some found → value < length found.domain → HasPlace sizes horizon (timed_heads.Atom number value)
  first_fits number value found at less =
      subst (λ (p : ℕ). HasPlace sizes horizon (timed_heads.Atom p value)) (let e : 0 * count + number ≡ number = omega arith in e) (atom_fits 0 number value found at less (omega arith))

  initial_fit : (kind : Kind) (number : ℕ) (found : Const) → slice_get constants number ≡ Some found → AllByRecursion Fits (initial_of kind number (length found.domain))
  initial_fit kinds.Simple number found at = mapped_upto Fits (initial_rule number) (length found.domain) (λ value less. first_fits number value found at less)
  initial_fit kinds.Determined number found at = tt
  initial_fit kinds.Action number found at = tt

  all_initial_fit : (number : ℕ) (cs : List Const) → ((i : ℕ) (c : Const) → slice_get cs i ≡ Some c → slice_get constants (number + i) ≡ Some c) →
      AllByRecursion Fits (all_initial number cs)
  all_initial_fit number [] at = tt
  all_initial_fit number (c ∷ cs) at =
      let here : slice_get constants number ≡ Some c = ap (slice_get constants) (let e : number ≡ number + 0 = omega arith in e) ∙ at 0 c refl in
      all_behind Fits (initial_of c.kind number (length c.domain)) (all_initial (number + 1) cs) (initial_fit c.kind number c here)
      (all_initial_fit (number + 1) cs (λ i d e. ap (slice_get constants) (let s : number + 1 + i ≡ number + suc i = omega arith in s) ∙ at (suc i) d e))

module _ (u : Universe) (horizon : ℕ) where
  abbrev all : List Const
  all = constants_in u

  abbrev stride : ℕ
  stride = length (domain_sizes all)

  fluent_head : (head : GroundHead) (step : ℕ) → step ≤ horizon → IsGroundFluentHead u head → HasPlace (domain_sizes all) horizon (head_at stride step head)
  fluent_head (heads.Atom number value) step within is = atom_fits all horizon step number value is.0 (among_first u.fluents u.actions number is.0 is.1) is.2 within
  fluent_head heads.Falsity step within is = tt

  simple_head : (head : GroundHead) (step : ℕ) → step ≤ horizon → IsGroundSimpleHead u head → HasPlace (domain_sizes all) horizon (head_at stride step head)
  simple_head (heads.Atom number value) step within is = atom_fits all horizon step number value is.0 (among_first u.fluents u.actions number is.0 is.1) is.2 within
  simple_head heads.Falsity step within is = tt

  action_head : (head : GroundHead) (step : ℕ) → step ≤ horizon → IsGroundActionHead u head → HasPlace (domain_sizes all) horizon (head_at stride step head)
  action_head (heads.Atom number value) step within is = atom_fits all horizon step number value is.0 is.2 is.3 within
  action_head heads.Falsity step within is = tt

  where_taken : (b : Bool) (rule : TimedRule) → (b ≡ true → Fits all horizon rule) → AllByRecursion (Fits all horizon) (rules_in (if b then Some rule else None))
  where_taken true rule fits = (fits refl, tt)
  where_taken false rule fits = tt

  kind_fits : (kind : LawKind) (law : GroundLaw) (step : ℕ) → step ≤ horizon → IsGroundOfKind kind u (plain_ground_law law) →
      AllByRecursion (Fits all horizon) (rules_in (rule_of_kind kind stride horizon step law))
  kind_fits law_kinds.Static law step within is = (fluent_head law.head step within is.head, tt)
  kind_fits law_kinds.ActionDynamic law step within is = where_taken (nat_lt step horizon) _ (λ e. action_head law.head step within is.head)
  kind_fits law_kinds.FluentDynamic law step within is =
      where_taken (nat_lt step horizon) _ (λ e. simple_head law.head (step + 1) (let less = ltb-true step horizon e in omega arith) is.head)

  laws_fit : (laws : List GroundLaw) (step : ℕ) → step ≤ horizon → AreGroundLaws u (plain_ground_laws laws) → AllByRecursion (Fits all horizon) (rules_at_step stride laws horizon step)
  laws_fit [] step within are = tt
  laws_fit (law ∷ laws) step within are =
      all_behind (Fits all horizon) (rules_in (rule_at stride horizon step law)) (rules_at_step stride laws horizon step)
      (kind_fits law.kind law step within are.0) (laws_fit laws step within are.1)

  universe_fits : (laws : List GroundLaw) → AreGroundLaws u (plain_ground_laws laws) →
      AllByRecursion (Fits all horizon) (all_initial 0 u.fluents ++ flat_map (rules_at_step stride laws horizon) (upto (horizon + 1)))
  universe_fits laws are =
      all_behind (Fits all horizon) (all_initial 0 u.fluents) (flat_map (rules_at_step stride laws horizon) (upto (horizon + 1)))
      (all_initial_fit all horizon 0 u.fluents (λ i c e. ap (slice_get all) (let s : 0 + i ≡ i = omega arith in s) ∙ among_first u.fluents u.actions i c e))
      (flat_upto (Fits all horizon) (rules_at_step stride laws horizon) (horizon + 1) (λ step less. laws_fit laws step (omega arith) are))

pub heads_fit : (signature : Signature) (laws : List GroundLaw) (horizon : ℕ) → AreLawsFor signature laws →
    AllByRecursion (λ rule. HasPlace (sizes_of signature) horizon rule.head) (rules_for signature laws horizon)
heads_fit signature laws horizon are =
    let u = are.u in
    let with : (fluents actions : List Const) → Type 0 =
    λ fluents actions. AllByRecursion (λ rule. HasPlace (domain_sizes (fluents ++ actions)) horizon rule.head)
    (all_initial 0 fluents ++ flat_map (rules_at_step (length fluents + length actions) laws horizon) (upto (horizon + 1))) in
    let count : length (domain_sizes (constants_in u)) ≡ length u.fluents + length u.actions =
    length-map (constants_in u) (λ (c : Const). length c.domain) ∙ length-append u.fluents u.actions in
    let made : with u.fluents u.actions =
    subst (λ (n : ℕ). AllByRecursion (λ rule. HasPlace (domain_sizes (constants_in u)) horizon rule.head) (all_initial 0 u.fluents ++ flat_map (rules_at_step n laws horizon) (upto (horizon + 1))))
    count (universe_fits u horizon laws are.laws_fit) in
    subst (λ (actions : List Const). with signature.fluents actions) are.actions (subst (λ (fluents : List Const). with fluents u.actions) are.fluents made)
