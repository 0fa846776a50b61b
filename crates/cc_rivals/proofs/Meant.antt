-- The rules that are made of laws whose terms are nodes are those of the description, and their terms are of its positions.
use Rattle.std.proofs.Common.{Bor, ◌≡◌, ◌∙◌, ℕ, zero, suc, ◌+◌, ◌*◌, ◌<◌, ◌≤◌, Bool, true, false, List, [], ◌∷◌, ◌++◌, length, map, flat_map, nat_lt, slice_get, Option, Some, None, refl, sym, ap, subst, arith, option_map}
use Rattle.std.specs.Prelude.{if◌then◌else◌, IfSome}
use Rattle.std.specs.List.{AllByRecursion}
use Rattle.cc_arena.specs.declared.ground_laws.GroundCondition.{GroundCondition}
use Rattle.cc_arena.specs.declared.ground_laws.GroundQuery.{GroundQuery}
use Rattle.cc_arena.specs.GroundViews.{plain_ground_condition, plain_ground_query}
use Rattle.cc_defs.specs.declared.node.Node.{Node}
use Rattle.cc_defs.specs.declared.signature.Const.{Const}
use Rattle.cc_defs.specs.declared.signature.Kind.{Kind}
use Rattle.cc_defs.specs.declared.signature.Kind.TheVariants as kinds
use Rattle.cc_defs.specs.declared.signature.LawKind.{LawKind}
use Rattle.cc_defs.specs.declared.signature.LawKind.TheVariants as law_kinds
use Rattle.cc_defs.specs.ClauseLists.{condition_term}
use Rattle.cc_defs.specs.Description.{Description, domain_sizes, stride}
use Rattle.cc_defs.specs.GroundLaws.{PlainGroundCondition, PlainGroundQuery, StandsForQuery, ground_condition}
use Rattle.cc_defs.specs.Histories.{step_of}
use Rattle.cc_defs.specs.Nodes.{nodes_of, term_of}
use Rattle.cc_defs.specs.Resolved.{Condition, Query}
use Rattle.cc_defs.specs.Rules.{upto}
use Rattle.cc_defs.specs.Satisfaction.{giving}
use Rattle.cc_defs.specs.Signatures.{Signature}
use Rattle.cc_defs.specs.Terms.{Ground, all_of}
use Rattle.cc_defs.specs.Terms as terms
use Rattle.cc_defs.specs.TimedRules.{at_step, moved}
use Rattle.cc_form.specs.Laws.{TermFits}
use Rattle.cc_form.specs.Places.{position_sizes}
use Rattle.cc_rivals.specs.declared.timed.Placed.{Placed}
use Rattle.cc_rivals.specs.declared.timed.PlacedRule.{PlacedRule}
use Rattle.cc_rivals.specs.Making.{IsLawBelow, IsPlacedBelow, IsRuleBelow, initial_value, placed_at, placed_condition, placed_of_kind, placed_rule, rules_at_step, rules_for, rules_in, term_at, term_in, timed_of}
use Rattle.cc_rivals.specs.Wides.{AreWideLawsFor, AreWideLawsOf}
use Rattle.cc_rivals.proofs.Placing.{placed_fits, term_is}
use Rattle.cc_rivals.proofs.Stances.{first_stands, laws_over}
use Rattle.cc_theory.specs.Making.{stride_of}
use Rattle.cc_wide.specs.declared.ground.WideGroundLaw.{WideGroundLaw}
use Rattle.cc_wide.specs.WideGrounds.{PlainWideGround, plain_wide_ground, wide_ground_of}
use Rattle.cc_wide.specs.WideLaws.{WideDescription, WideLaw, frame}
use Rattle.cc_wide.specs.WideLists.{WideTimed, all_initial_wide, initial_wide, wide_timed, wide_timed_at, wide_timed_of_instance, wide_timed_of_kind}
use Rattle.cc_wide.specs.WideRules.{Together, Under, WideInstance, wide_instances}

-- ---- lists

flat_same : {A B : Type 0} (f g : A → List B) → ((x : A) → f x ≡ g x) → (xs : List A) → flat_map f xs ≡ flat_map g xs
flat_same f g same [] = refl
flat_same f g same (x ∷ xs) = ap (λ l. l ++ flat_map f xs) (same x) ∙ ap (λ l. g x ++ l) (flat_same f g same xs)

flat_over : {A B C : Type 0} (f : B → List C) (g : A → B) (h : A → List C) → ((x : A) → f (g x) ≡ h x) → (xs : List A) → flat_map f (map g xs) ≡ flat_map h xs
flat_over f g h same [] = refl
flat_over f g h same (x ∷ xs) = ap (λ l. l ++ flat_map f (map g xs)) (same x) ∙ ap (λ l. h x ++ l) (flat_over f g h same xs)

map_over : {A B C : Type 0} (f : B → C) (g : A → B) (h : A → C) → ((x : A) → f (g x) ≡ h x) → (xs : List A) → map f (map g xs) ≡ map h xs
map_over f g h same [] = refl
map_over f g h same (x ∷ xs) = ap (λ y. y ∷ map f (map g xs)) (same x) ∙ ap (λ l. h x ∷ l) (map_over f g h same xs)

option_over : {A B C : Type 0} (f : B → C) (g : A → B) (h : A → C) → ((x : A) → f (g x) ≡ h x) → (o : Option A) → option_map f (option_map g o) ≡ option_map h o
option_over f g h same None = refl
option_over f g h same (Some x) = ap (λ y. Some y) (same x)

all_behind : {X : Type 0} (P : X → Type 0) (xs ys : List X) → AllByRecursion P xs → AllByRecursion P ys → AllByRecursion P (xs ++ ys)
all_behind P [] ys h k = k
all_behind P (x ∷ xs) ys h k = (h.0, all_behind P xs ys h.1 k)

mapped_upto : {X : Type 0} (P : X → Type 0) (f : ℕ → X) (n : ℕ) → ((value : ℕ) → value < n → P (f value)) → AllByRecursion P (map f (upto n))
mapped_upto P f zero each = tt
mapped_upto P f (suc n) each = subst (AllByRecursion P) (sym (last (upto n))) (all_behind P (map f (upto n)) (f n ∷ []) (mapped_upto P f n (λ value less. each value (omega arith))) (each n (omega arith), tt))
  where
    last : (xs : List ℕ) → map f (xs ++ n ∷ []) ≡ map f xs ++ f n ∷ []
    last [] = refl
    last (x ∷ xs) = ap (λ l. f x ∷ l) (last xs)

flat_upto : {X : Type 0} (P : X → Type 0) (f : ℕ → List X) (n : ℕ) → ((step : ℕ) → step < n → AllByRecursion P (f step)) → AllByRecursion P (flat_map f (upto n))
flat_upto {X = X} P f zero each = tt
flat_upto {X = X} P f (suc n) each = last (upto n) (flat_upto P f n (λ step less. each step (omega arith)))
  where
    last : (xs : List ℕ) → AllByRecursion P (flat_map f xs) → AllByRecursion P (flat_map f (xs ++ n ∷ []))
    last [] h = all_behind P (f n) [] (each n (omega arith)) tt
    last (x ∷ xs) h = all_behind P (f x) (flat_map f (xs ++ n ∷ [])) (first (f x) (flat_map f xs) h) (last xs (rest (f x) (flat_map f xs) h))
      where
        first : (ys zs : List X) → AllByRecursion P (ys ++ zs) → AllByRecursion P ys
        first [] zs k = tt
        first (y ∷ ys) zs k = (k.0, first ys zs k.1)

        rest : (ys zs : List X) → AllByRecursion P (ys ++ zs) → AllByRecursion P zs
        rest [] zs k = k
        rest (y ∷ ys) zs k = rest ys zs k.1

-- ---- rules of laws in plain form

abbrev plain_rule : ℕ → PlainWideGround → ℕ → ℕ → WideTimed
plain_rule by law now before = record {
  now = moved (now * by) (term_in law.body);
  before = option_map (λ nodes. moved (before * by) (term_in nodes)) law.after;
  head = moved (now * by) (term_in law.head);
}

abbrev plain_of_kind : LawKind → (by horizon step : ℕ) → PlainWideGround → List WideTimed
plain_of_kind law_kinds.Static by horizon step law = plain_rule by law step step ∷ []
plain_of_kind law_kinds.ActionDynamic by horizon step law = if nat_lt step horizon then plain_rule by law step step ∷ [] else []
plain_of_kind law_kinds.FluentDynamic by horizon step law = if nat_lt step horizon then plain_rule by law (step + 1) step ∷ [] else []

module _ (by horizon step : ℕ) where
  placed_is : (law : WideGroundLaw) (now before : ℕ) → timed_of (placed_rule by law now before) ≡ plain_rule by (plain_wide_ground law) now before
  placed_is law now before =
      ap (λ (o : Option Ground). let r : WideTimed = record { now = moved (now * by) (term_in law.body.now); before = o; head = moved (now * by) (term_in law.head.now) } in r) (after_is law.after)
    where
      after_is : (after : Option (Bor (List Node))) →
          option_map term_at (option_map (λ (n : Bor (List Node)). record { first = before * by; nodes = n }) after) ≡ option_map (λ (n : List Node). moved (before * by) (term_in n)) (option_map (λ (n : Bor (List Node)). n.now) after)
      after_is None = refl
      after_is (Some n) = refl

  law_is : (kind : LawKind) (law : WideGroundLaw) → rules_in (placed_of_kind kind by horizon step law) ≡ plain_of_kind kind by horizon step (plain_wide_ground law)
  law_is law_kinds.Static law = ap (λ (r : WideTimed). r ∷ []) (placed_is law step step)
  law_is law_kinds.ActionDynamic law = chosen (nat_lt step horizon)
    where
      chosen : (b : Bool) → rules_in (if b then Some (placed_rule by law step step) else None) ≡ (if b then plain_rule by (plain_wide_ground law) step step ∷ [] else [])
      chosen true = ap (λ (r : WideTimed). r ∷ []) (placed_is law step step)
      chosen false = refl
  law_is law_kinds.FluentDynamic law = chosen (nat_lt step horizon)
    where
      chosen : (b : Bool) → rules_in (if b then Some (placed_rule by law (step + 1) step) else None) ≡ (if b then plain_rule by (plain_wide_ground law) (step + 1) step ∷ [] else [])
      chosen true = ap (λ (r : WideTimed). r ∷ []) (placed_is law (step + 1) step)
      chosen false = refl

  abbrev own : PlainWideGround → List WideTimed
  own law = plain_of_kind law.kind by horizon step law

  laws_are_plain : (laws : List WideGroundLaw) → rules_at_step by laws horizon step ≡ flat_map own (map plain_wide_ground laws)
  laws_are_plain laws = sym (flat_over own plain_wide_ground (λ law. rules_in (placed_at by horizon step law)) (λ law. sym (law_is law.kind law)) laws)

-- ---- and of a description

module _ (w : WideDescription) (horizon step : ℕ) where
  abbrev span : ℕ
  span = stride (frame w)

  under_is : (base : ℕ) (law : WideLaw) (values : List ℕ) (now before : ℕ) → plain_rule span (wide_ground_of w.universe (Under base law values)) now before ≡ wide_timed_at (frame w) law (giving values) now before
  under_is base law values now before i = record {
    now = ap (moved (now * span)) (term_is (term_of w.universe (giving values) law.body)) i;
    before = option_over (λ (n : List Node). moved (before * span) (term_in n)) (nodes_of w.universe (giving values)) (λ formula. at_step (frame w) before (term_of w.universe (giving values) formula))
        (λ formula. ap (moved (before * span)) (term_is (term_of w.universe (giving values) formula))) law.after i;
    head = ap (moved (now * span)) (term_is (term_of w.universe (giving values) law.head)) i;
  }

  kind_is : (kind : LawKind) (base : ℕ) (law : WideLaw) (values : List ℕ) → plain_of_kind kind span horizon step (wide_ground_of w.universe (Under base law values)) ≡ wide_timed_of_kind kind (frame w) horizon law step (giving values)
  kind_is law_kinds.Static base law values = ap (λ (r : WideTimed). r ∷ []) (under_is base law values step step)
  kind_is law_kinds.ActionDynamic base law values = ap (λ (r : WideTimed). if nat_lt step horizon then r ∷ [] else []) (under_is base law values step step)
  kind_is law_kinds.FluentDynamic base law values = ap (λ (r : WideTimed). if nat_lt step horizon then r ∷ [] else []) (under_is base law values (step + 1) step)

  instance_is : (instance : WideInstance) → plain_of_kind (wide_ground_of w.universe instance).kind span horizon step (wide_ground_of w.universe instance) ≡ wide_timed_of_instance (frame w) horizon step instance
  instance_is (Under base law values) = kind_is law.kind base law values
  instance_is (Together base pair) =
      let both : Ground = all_of (terms.Atom pair.0 1 ∷ terms.Atom pair.1 1 ∷ []) in
      ap (λ (g : Ground). let r : WideTimed = record { now = terms.Truth; before = Some (moved (step * span) g); head = terms.Falsehood } in (if nat_lt step horizon then r ∷ [] else [])) (term_is both)

  pub step_is : (laws : List WideGroundLaw) → map plain_wide_ground laws ≡ map (wide_ground_of w.universe) (wide_instances w) →
      rules_at_step span laws horizon step ≡ flat_map (wide_timed_of_instance (frame w) horizon step) (wide_instances w)
  step_is laws are =
      laws_are_plain span horizon step laws ∙ ap (flat_map (own span horizon step)) are
      ∙ flat_over (own span horizon step) (wide_ground_of w.universe) (wide_timed_of_instance (frame w) horizon step) instance_is (wide_instances w)

pub stride_is : (signature : Signature) (laws : List WideGroundLaw) (w : WideDescription) → AreWideLawsOf signature laws w → stride_of signature ≡ stride (frame w)
stride_is signature laws w of = ap (λ (f : List Const). length f + length signature.actions) of.signature_is.fluents ∙ ap (λ (a : List Const). length w.universe.fluents + length a) of.signature_is.actions

pub rules_are : (signature : Signature) (laws : List WideGroundLaw) (w : WideDescription) (horizon : ℕ) → AreWideLawsOf signature laws w → rules_for signature laws horizon ≡ wide_timed w horizon
rules_are signature laws w horizon of =
    ap (λ (f : List Const). all_initial_wide 0 f ++ flat_map (rules_at_step (stride_of signature) laws horizon) (upto (horizon + 1))) of.signature_is.fluents
    ∙ ap (λ (s : ℕ). all_initial_wide 0 w.universe.fluents ++ flat_map (rules_at_step s laws horizon) (upto (horizon + 1))) (stride_is signature laws w of)
    ∙ ap (λ l. all_initial_wide 0 w.universe.fluents ++ l) (flat_same (rules_at_step (stride (frame w)) laws horizon) (λ step. flat_map (wide_timed_of_instance (frame w) horizon step) (wide_instances w))
    (λ step. step_is w horizon step laws of.laws_are) (upto (horizon + 1)))

-- ---- conditions and claim

module _ (d : Description) (horizon : ℕ) where
  abbrev condition_at : PlainGroundCondition → Ground
  condition_at condition = moved (step_of condition.at horizon * stride d) (term_in condition.nodes)

  condition_is : (c : Condition) → condition_at (ground_condition d.universe c) ≡ condition_term d horizon c
  condition_is c = ap (moved (step_of c.at horizon * stride d)) (term_is (term_of d.universe (giving []) c.formula))

  abbrev at : GroundCondition → Ground
  at condition = term_at (placed_condition (stride d) horizon condition)

  pub conditions_are : (query : GroundQuery) (q : Query) → StandsForQuery (plain_ground_query query) d q → map at query.conditions ≡ map (condition_term d horizon) q.conditions
  conditions_are query q stands =
      sym (map_over condition_at plain_ground_condition at (λ c. refl) query.conditions)
      ∙ ap (λ (p : PlainGroundQuery). map condition_at p.conditions) stands.2
      ∙ map_over condition_at (ground_condition d.universe) (condition_term d horizon) condition_is q.conditions

  pub claim_is : (query : GroundQuery) (q : Query) → StandsForQuery (plain_ground_query query) d q → option_map at query.claim ≡ option_map (condition_term d horizon) q.claim
  claim_is query q stands =
      sym (option_over condition_at plain_ground_condition at (λ c. refl) query.claim)
      ∙ ap (λ (p : PlainGroundQuery). option_map condition_at p.claim) stands.2
      ∙ option_over condition_at (ground_condition d.universe) (condition_term d horizon) condition_is q.claim

-- ---- terms of positions

pub record WideFits (sizes : List ℕ) (rule : WideTimed) : Type 0 where
  pub now : TermFits sizes rule.now
  pub before : IfSome rule.before (TermFits sizes)
  pub head : TermFits sizes rule.head

module _ (sizes : List ℕ) where
  abbrev Fit : WideTimed → Type 0
  Fit rule = WideFits sizes rule

  part_fits : (limit : ℕ) (part : Option Placed) → IfSome part (IsPlacedBelow limit sizes) → IfSome (option_map term_at part) (TermFits sizes)
  part_fits limit None is = tt
  part_fits limit (Some term) is = placed_fits sizes term is

  pub rule_fits : (limit : ℕ) (rule : PlacedRule) → IsRuleBelow limit sizes rule → Fit (timed_of rule)
  rule_fits limit rule over = record { now = placed_fits sizes rule.body over.body; before = part_fits limit rule.after over.after; head = placed_fits sizes rule.head over.head }

  some_fit : (limit : ℕ) (rule : Option PlacedRule) → IfSome rule (IsRuleBelow limit sizes) → AllByRecursion Fit (rules_in rule)
  some_fit limit None over = tt
  some_fit limit (Some rule) over = (rule_fits limit rule over, tt)

  step_fits : (limit : ℕ) (by horizon step : ℕ) (laws : List WideGroundLaw) → AllByRecursion (IsLawBelow limit sizes by horizon step) laws → AllByRecursion Fit (rules_at_step by laws horizon step)
  step_fits limit by horizon step [] over = tt
  step_fits limit by horizon step (law ∷ laws) over =
      all_behind Fit (rules_in (placed_at by horizon step law)) (rules_at_step by laws horizon step) (some_fit limit (placed_at by horizon step law) over.0) (step_fits limit by horizon step laws over.1)

  initial_fits : (kind : Kind) (number size : ℕ) → slice_get sizes number ≡ Some size → AllByRecursion Fit (initial_wide kind number size)
  initial_fits kinds.Simple number size there = mapped_upto Fit (initial_value number) size (λ value less. record { now = ((size, there, less), tt); before = tt; head = ((size, there, less), tt) })
  initial_fits kinds.Determined number size there = tt
  initial_fits kinds.Action number size there = tt

  all_initial_fit : (number : ℕ) (constants : List Const) → ((i size : ℕ) → slice_get (domain_sizes constants) i ≡ Some size → slice_get sizes (number + i) ≡ Some size) → AllByRecursion Fit (all_initial_wide number constants)
  all_initial_fit number [] there = tt
  all_initial_fit number (c ∷ constants) there =
      all_behind Fit (initial_wide c.kind number (length c.domain)) (all_initial_wide (number + 1) constants)
      (initial_fits c.kind number (length c.domain) (ap (slice_get sizes) (let e : number ≡ number + 0 = omega arith in e) ∙ there 0 (length c.domain) refl))
      (all_initial_fit (number + 1) constants (λ i size e. ap (slice_get sizes) (let s : number + 1 + i ≡ number + suc i = omega arith in s) ∙ there (suc i) size e))

pub rules_fit : (signature : Signature) (laws : List WideGroundLaw) (horizon : ℕ) → AreWideLawsFor signature laws →
    AllByRecursion (WideFits (position_sizes signature horizon)) (rules_for signature laws horizon)
rules_fit signature laws horizon are =
    let sizes = position_sizes signature horizon in
    let limit = horizon * stride_of signature in
    let P : WideTimed → Type 0 = WideFits sizes in
    all_behind P (all_initial_wide 0 signature.fluents) (flat_map (rules_at_step (stride_of signature) laws horizon) (upto (horizon + 1)))
    (all_initial_fit sizes 0 signature.fluents (λ i size e. ap (slice_get sizes) (let s : 0 + i ≡ i = omega arith in s) ∙ first_stands signature horizon i size e))
    (flat_upto P (rules_at_step (stride_of signature) laws horizon) (horizon + 1) (λ step less. step_fits sizes limit (stride_of signature) horizon step laws (laws_over signature limit horizon (let e : limit ≤ limit = omega arith in e) laws are step (omega arith))))
