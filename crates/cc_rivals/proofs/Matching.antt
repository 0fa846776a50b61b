-- The rules of a horizon as data are those of the definition, and the rows of the clause lists are candidates and rivals.
use Rattle.std.proofs.Common.{◌≡◌, ◌∙◌, ℕ, zero, suc, ◌+◌, ◌*◌, ◌≤◌, Bool, true, false, not, ◌&&◌, ◌||◌, List, [], ◌∷◌, ◌++◌, length, map, flat_map, nat_lt, Option, Some, None, refl, sym, ap, subst, option_map, IsTrue, IsFalse, arith}
use Rattle.std.specs.Prelude.{◌==◌, ◌↔◌, if◌then◌else◌, cond, nat_eq, IfSome, slice_index}
use Rattle.std.specs.List.{list_all, filter, AllByRecursion, AllZip, IsDistinct}
use Rattle.cc_arena.specs.declared.ground_laws.GroundCondition.{GroundCondition}
use Rattle.cc_arena.specs.declared.ground_laws.GroundQuery.{GroundQuery}
use Rattle.cc_arena.specs.GroundViews.{plain_ground_query}
use Rattle.cc_arena.specs.Laws.{TermsMeanFormulas}
use Rattle.cc_defs.specs.declared.signature.Const.{Const}
use Rattle.cc_defs.specs.declared.signature.Kind.{Kind}
use Rattle.cc_defs.specs.declared.signature.Kind.TheVariants as kinds
use Rattle.cc_defs.specs.declared.signature.LawKind.{LawKind}
use Rattle.cc_defs.specs.declared.signature.LawKind.TheVariants as law_kinds
use Rattle.cc_defs.specs.ClauseLists.{condition_term}
use Rattle.cc_defs.specs.Conditions.{IsSignatureOfDescription}
use Rattle.cc_defs.specs.Description.{Description, domain_sizes, sizes_at, stride, values_at}
use Rattle.cc_defs.specs.GroundLaws.{StandsForQuery}
use Rattle.cc_defs.specs.Histories.{condition_holds, step_of}
use Rattle.cc_defs.specs.Nodes.{term_of}
use Rattle.cc_defs.specs.Resolved.{Condition, Formula, Query}
use Rattle.cc_defs.specs.Rows.{IsRow}
use Rattle.cc_defs.specs.Rules.{initial_rule, initial_rules, initial_rules_of, not_together, part_satisfied, upto}
use Rattle.cc_defs.specs.Satisfaction.{Environment, giving, satisfied}
use Rattle.cc_defs.specs.Signatures.{Signature, none_value}
use Rattle.cc_defs.specs.Terms.{Ground, truth}
use Rattle.cc_defs.specs.Theories.{Rule, reduct, satisfies}
use Rattle.cc_defs.specs.TimedRules.{at_step}
use Rattle.cc_defs.specs.Universe.{AreOwnNumbers, HaveOwnValues}
use Rattle.cc_clauses.specs.Tells.{Tells}
use Rattle.cc_form.specs.Laws.{TermFits}
use Rattle.cc_form.specs.Parts.{axioms_behind}
use Rattle.cc_form.specs.Places.{position_sizes}
use Rattle.cc_form.specs.Queries.{IsQueryAt}
use Rattle.cc_form.proofs.Saying.{tells_alike}
use Rattle.cc_rivals.specs.Making.{IsPlacedBelow, placed_condition, rules_for, term_at, term_in}
use Rattle.cc_rivals.specs.Meets.{rule_met}
use Rattle.cc_rivals.specs.Wides.{AreWideLawsFor, AreWideLawsOf}
use Rattle.cc_rivals.proofs.Meant.{WideFits, claim_is, conditions_are, rules_are, rules_fit, stride_is}
use Rattle.cc_rivals.proofs.Meeting.{RivalSaid, candidate_parts, candidates_tell, rival_parts, rivals_tell}
use Rattle.cc_rivals.proofs.Placing.{moved_truth, placed_fits, term_is}
use Rattle.cc_rivals.proofs.Stances.{claim_placed, conditions_placed, domain_behind}
use Rattle.cc_theory.specs.Completion.{holds}
use Rattle.cc_theory.specs.Making.{stride_of}
use Rattle.cc_wide.specs.declared.ground.WideGroundLaw.{WideGroundLaw}
use Rattle.cc_wide.specs.WideLaws.{WideDescription, WideLaw, frame}
use Rattle.cc_wide.specs.WideLists.{WideTimed, all_initial_wide, candidate_axioms, initial_wide, part_holds_in, reduct_heads, rival_axioms, test_holds, wide_timed, wide_timed_at, wide_timed_of_instance, wide_timed_of_kind, wide_together}
use Rattle.cc_wide.specs.WideRules.{IsCandidate, IsRival, Together, Under, WideInstance, wide_instances, wide_rule_at, wide_rules_at, wide_rules_of_instance, wide_rules_of_kind, wide_sizes}

-- ---- rules that are the same in each row

pub record IsSame (rule : Rule) (timed : WideTimed) : Type 0 where
  pub head : (row : List ℕ) → rule.head row ≡ holds row timed.head
  pub body : (row : List ℕ) → rule.body row ≡ test_holds row timed

abbrev AreSame : List Rule → List WideTimed → Type 0
AreSame rules timed = AllZip IsSame rules timed

same_behind : (rules more : List Rule) (timed others : List WideTimed) → AreSame rules timed → AreSame more others → AreSame (rules ++ more) (timed ++ others)
same_behind [] more [] others h k = k
same_behind [] more (t ∷ timed) others h k = absurd h
same_behind (r ∷ rules) more [] others h k = absurd h
same_behind (r ∷ rules) more (t ∷ timed) others h k = (h.0, same_behind rules more timed others h.1 k)

same_flat : {X : Type 0} (f : X → List Rule) (g : X → List WideTimed) → ((x : X) → AreSame (f x) (g x)) → (xs : List X) → AreSame (flat_map f xs) (flat_map g xs)
same_flat f g each [] = tt
same_flat f g each (x ∷ xs) = same_behind (f x) (flat_map f xs) (g x) (flat_map g xs) (each x) (same_flat f g each xs)

same_map : {X : Type 0} (f : X → Rule) (g : X → WideTimed) → ((x : X) → IsSame (f x) (g x)) → (xs : List X) → AreSame (map f xs) (map g xs)
same_map f g each [] = tt
same_map f g each (x ∷ xs) = (each x, same_map f g each xs)

and_true : (b : Bool) → b ≡ (b && true)
and_true true = refl
and_true false = refl

initial_same : (kind : Kind) (number size : ℕ) → AreSame (initial_rules_of kind number size) (initial_wide kind number size)
initial_same kinds.Simple number size =
    same_map (initial_rule number) _ (λ value. record { head = λ row. refl; body = λ row. and_true (slice_index row number == value) }) (upto size)
initial_same kinds.Determined number size = tt
initial_same kinds.Action number size = tt

all_initial_same : (number : ℕ) (constants : List Const) → AreSame (initial_rules number constants) (all_initial_wide number constants)
all_initial_same number [] = tt
all_initial_same number (c ∷ constants) =
    same_behind (initial_rules_of c.kind number (length c.domain)) (initial_rules (number + 1) constants) (initial_wide c.kind number (length c.domain)) (all_initial_wide (number + 1) constants)
    (initial_same c.kind number (length c.domain)) (all_initial_same (number + 1) constants)

if_same : (b : Bool) (rule : Rule) (timed : WideTimed) → IsSame rule timed → AreSame (if b then rule ∷ [] else []) (if b then timed ∷ [] else [])
if_same true rule timed is = (is, tt)
if_same false rule timed is = tt

module _ (mean : TermsMeanFormulas) (w : WideDescription) (values : HaveOwnValues w.universe) where
  abbrev d : Description
  d = frame w

  formula_true : (env : Environment) (row : List ℕ) (step : ℕ) (formula : Formula) → satisfied w.universe (values_at d row step) env formula ≡ holds row (at_step d step (term_of w.universe env formula))
  formula_true env row step formula =
      let term = term_of w.universe env formula in
      let m = mean w.universe values env formula in
      let same : term ≡ m.term = sym (term_is term) ∙ ap term_in m.written ∙ term_is m.term in
      sym (moved_truth (λ position. slice_index row position) (step * stride d) term ∙ ap (truth (λ n. values_at d row step n)) same ∙ m.truth_is (λ n. values_at d row step n))

  part_true : (env : Environment) (row : List ℕ) (step : ℕ) (part : Option Formula) →
      part_satisfied d env row step part ≡ part_holds_in row (option_map (λ formula. at_step d step (term_of w.universe env formula)) part)
  part_true env row step None = refl
  part_true env row step (Some formula) = formula_true env row step formula

  law_same : (law : WideLaw) (env : Environment) (now before : ℕ) → IsSame (wide_rule_at d law env now before) (wide_timed_at d law env now before)
  law_same law env now before = record {
    head = λ row. formula_true env row now law.head;
    body = λ row.
        ap (λ (b : Bool). b && part_satisfied d env row before law.after) (formula_true env row now law.body)
        ∙ ap (λ (b : Bool). holds row (at_step d now (term_of w.universe env law.body)) && b) (part_true env row before law.after);
  }

  kind_same : (kind : LawKind) (horizon step : ℕ) (law : WideLaw) (env : Environment) → AreSame (wide_rules_of_kind kind d horizon law step env) (wide_timed_of_kind kind d horizon law step env)
  kind_same law_kinds.Static horizon step law env = (law_same law env step step, tt)
  kind_same law_kinds.ActionDynamic horizon step law env = if_same (nat_lt step horizon) (wide_rule_at d law env step step) (wide_timed_at d law env step step) (law_same law env step step)
  kind_same law_kinds.FluentDynamic horizon step law env = if_same (nat_lt step horizon) (wide_rule_at d law env (step + 1) step) (wide_timed_at d law env (step + 1) step) (law_same law env (step + 1) step)

  together_same : (step : ℕ) (pair : ℕ × ℕ) → IsSame (not_together d step pair) (wide_together d step pair)
  together_same step pair = record { head = λ row. refl; body = λ row. refl }

  instance_same : (horizon step : ℕ) (instance : WideInstance) → AreSame (wide_rules_of_instance d horizon step instance) (wide_timed_of_instance d horizon step instance)
  instance_same horizon step (Under base law values) = kind_same law.kind horizon step law (giving values)
  instance_same horizon step (Together base pair) = if_same (nat_lt step horizon) (not_together d step pair) (wide_together d step pair) (together_same step pair)

  rules_same : (horizon : ℕ) → AreSame (wide_rules_at w horizon) (wide_timed w horizon)
  rules_same horizon =
      same_behind (initial_rules 0 w.universe.fluents) (flat_map (λ step. flat_map (wide_rules_of_instance d horizon step) (wide_instances w)) (upto (horizon + 1)))
      (all_initial_wide 0 w.universe.fluents) (flat_map (λ step. flat_map (wide_timed_of_instance d horizon step) (wide_instances w)) (upto (horizon + 1)))
      (all_initial_same 0 w.universe.fluents)
      (same_flat (λ step. flat_map (wide_rules_of_instance d horizon step) (wide_instances w)) (λ step. flat_map (wide_timed_of_instance d horizon step) (wide_instances w))
      (λ step. same_flat (wide_rules_of_instance d horizon step) (wide_timed_of_instance d horizon step) (instance_same horizon step) (wide_instances w)) (upto (horizon + 1)))

  -- ---- the query

  condition_true : (h : ℕ) (row : List ℕ) (condition : Condition) → holds row (condition_term d h condition) ≡ condition_holds d h row condition
  condition_true h row condition = sym (formula_true (giving []) row (step_of condition.at h) condition.formula)

  conditions_true : (h : ℕ) (row : List ℕ) (conditions : List Condition) → list_all (holds row) (map (condition_term d h) conditions) ≡ list_all (condition_holds d h row) conditions
  conditions_true h row [] = refl
  conditions_true h row (c ∷ conditions) = ap (λ (b : Bool). b && list_all (holds row) (map (condition_term d h) conditions)) (condition_true h row c) ∙ ap (λ (b : Bool). condition_holds d h row c && b) (conditions_true h row conditions)

  claim_to : (h : ℕ) (row : List ℕ) (claim : Option Condition) → IfSome (option_map (condition_term d h) claim) (λ claim. IsFalse (holds row claim)) → IfSome claim (λ claim. IsFalse (condition_holds d h row claim))
  claim_to h row None k = tt
  claim_to h row (Some c) k = subst (λ (b : Bool). IsFalse b) (condition_true h row c) k

  claim_from : (h : ℕ) (row : List ℕ) (claim : Option Condition) → IfSome claim (λ claim. IsFalse (condition_holds d h row claim)) → IfSome (option_map (condition_term d h) claim) (λ claim. IsFalse (holds row claim))
  claim_from h row None k = tt
  claim_from h row (Some c) k = subst (λ (b : Bool). IsFalse b) (sym (condition_true h row c)) k

-- ---- reducts

reduct_true : (rules : List Rule) (timed : List WideTimed) → AreSame rules timed → (row other : List ℕ) → satisfies other (reduct rules row) ≡ list_all (holds other) (reduct_heads timed row)
reduct_true [] [] same row other = refl
reduct_true [] (t ∷ timed) same row other = absurd same
reduct_true (r ∷ rules) [] same row other = absurd same
reduct_true (r ∷ rules) (t ∷ timed) same row other =
    let more = reduct_true rules timed same.1 row other in
    ap (λ (b : Bool). satisfies other (if b then r.head ∷ reduct rules row else reduct rules row)) (same.0.body row) ∙ chosen (test_holds row t) more
  where
    chosen : (b : Bool) → satisfies other (reduct rules row) ≡ list_all (holds other) (reduct_heads timed row) →
        satisfies other (if b then r.head ∷ reduct rules row else reduct rules row) ≡ list_all (holds other) (map (λ (x : WideTimed). x.head) (cond b (t ∷ filter (test_holds row) timed) (filter (test_holds row) timed)))
    chosen true more = ap (λ (b : Bool). b && satisfies other (reduct rules row)) (same.0.head other) ∙ ap (λ (b : Bool). holds other t.head && b) more
    chosen false more = more

met_heads : (row : List ℕ) (timed : List WideTimed) → list_all (rule_met row) timed ≡ list_all (holds row) (reduct_heads timed row)
met_heads row [] = refl
met_heads row (t ∷ timed) = chosen (test_holds row t) (met_heads row timed)
  where
    chosen : (b : Bool) → list_all (rule_met row) timed ≡ list_all (holds row) (reduct_heads timed row) →
        ((not b || holds row t.head) && list_all (rule_met row) timed) ≡ list_all (holds row) (map (λ (x : WideTimed). x.head) (cond b (t ∷ filter (test_holds row) timed) (filter (test_holds row) timed)))
    chosen true more = ap (λ (b : Bool). holds row t.head && b) more
    chosen false more = more

heads_fit : (sizes row : List ℕ) (timed : List WideTimed) → AllByRecursion (WideFits sizes) timed → AllByRecursion (TermFits sizes) (reduct_heads timed row)
heads_fit sizes row [] fit = tt
heads_fit sizes row (t ∷ timed) fit = chosen (test_holds row t) (heads_fit sizes row timed fit.1)
  where
    chosen : (b : Bool) → AllByRecursion (TermFits sizes) (reduct_heads timed row) → AllByRecursion (TermFits sizes) (map (λ (x : WideTimed). x.head) (cond b (t ∷ filter (test_holds row) timed) (filter (test_holds row) timed)))
    chosen true more = (fit.0.head, more)
    chosen false more = more

-- ---- positions

pub sizes_are : (signature : Signature) (d : Description) (h : ℕ) → IsSignatureOfDescription d signature → position_sizes signature h ≡ sizes_at d h
sizes_are signature d zero of = ap domain_sizes of.fluents
sizes_are signature d (suc h) of =
    ap (λ (l : List ℕ). l ++ position_sizes signature h) (domain_behind signature.fluents signature.actions)
    ∙ ap (λ (f : List Const). domain_sizes f ++ domain_sizes signature.actions ++ position_sizes signature h) of.fluents
    ∙ ap (λ (a : List Const). domain_sizes d.universe.fluents ++ domain_sizes a ++ position_sizes signature h) of.actions
    ∙ ap (λ (l : List ℕ). domain_sizes d.universe.fluents ++ domain_sizes d.universe.actions ++ l) (sizes_are signature d h of)

abbrev AreDistinct : List Const → Type 0
AreDistinct constants = AllByRecursion (λ (constant : Const). IsDistinct nat_eq constant.domain) constants

own_values : (signature : Signature) (laws : List WideGroundLaw) (w : WideDescription) → AreWideLawsFor signature laws → AreWideLawsOf signature laws w → HaveOwnValues w.universe
own_values signature laws w are of =
    let fluents = are.fluents ∙ of.signature_is.fluents in
    let actions = are.actions ∙ of.signature_is.actions in
    let numbers = are.numbers ∙ of.signature_is.numbers in
    record {
      values = subst (λ (a : List Const). AreDistinct (w.universe.fluents ++ a)) actions (subst (λ (f : List Const). AreDistinct (f ++ are.u.actions)) fluents are.values.values);
      numbers = subst AreOwnNumbers numbers are.values.numbers;
      few = subst (λ (n : List (Option ℕ)). length n ≤ none_value) numbers are.values.few;
    }

-- ---- conditions and claim

module _ (signature : Signature) (laws : List WideGroundLaw) (w : WideDescription) (of : AreWideLawsOf signature laws w) (horizon : ℕ) (query : GroundQuery) (q : Query) (stands : StandsForQuery (plain_ground_query query) (frame w) q) where
  abbrev step_by : ℕ
  step_by = stride_of signature

  pub conditions_meant : map (λ (c : GroundCondition). term_at (placed_condition step_by horizon c)) query.conditions ≡ map (condition_term (frame w) horizon) q.conditions
  conditions_meant = ap (λ (s : ℕ). map (λ (c : GroundCondition). term_at (placed_condition s horizon c)) query.conditions) (stride_is signature laws w of) ∙ conditions_are (frame w) horizon query q stands

  pub claim_meant : option_map (λ (c : GroundCondition). term_at (placed_condition step_by horizon c)) query.claim ≡ option_map (condition_term (frame w) horizon) q.claim
  claim_meant = ap (λ (s : ℕ). option_map (λ (c : GroundCondition). term_at (placed_condition s horizon c)) query.claim) (stride_is signature laws w of) ∙ claim_is (frame w) horizon query q stands

-- ---- the rows

module _ (mean : TermsMeanFormulas) (signature : Signature) (laws : List WideGroundLaw) (w : WideDescription) (are : AreWideLawsFor signature laws) (of : AreWideLawsOf signature laws w) (horizon : ℕ) where
  abbrev P : List ℕ
  P = position_sizes signature horizon

  pub wide_sizes_are : P ≡ wide_sizes w horizon
  wide_sizes_are = sizes_are signature (frame w) horizon of.signature_is

  pub timed_are : rules_for signature laws horizon ≡ wide_timed w horizon
  timed_are = rules_are signature laws w horizon of

  timed_fit : AllByRecursion (WideFits (wide_sizes w horizon)) (wide_timed w horizon)
  timed_fit =
      subst (λ (sizes : List ℕ). AllByRecursion (WideFits sizes) (wide_timed w horizon)) wide_sizes_are
      (subst (AllByRecursion (WideFits P)) timed_are (rules_fit signature laws horizon are))

  values : HaveOwnValues w.universe
  values = own_values signature laws w are of

  -- another row satisfies the reduct of a row where it meets the heads of the rules whose tests the row meets
  pub reduct_is : (row other : List ℕ) → satisfies other (reduct (wide_rules_at w horizon) row) ≡ list_all (holds other) (reduct_heads (wide_timed w horizon) row)
  reduct_is row other = reduct_true (wide_rules_at w horizon) (wide_timed w horizon) (rules_same mean w values horizon) row other

  -- ---- rivals

  pub rivals_told : (row : List ℕ) → IsRow (wide_sizes w horizon) row → Tells (rival_axioms w horizon row) (IsRival w horizon row)
  rivals_told row is =
      let S = wide_sizes w horizon in
      let T = wide_timed w horizon in
      let fit = heads_fit S row T timed_fit in
      let same = reduct_is row in
      tells_alike (axioms_behind S (rival_parts S row T is fit)) (λ other. IsRow S other × RivalSaid S row T is fit other) (IsRival w horizon row)
      (λ other. (
        (λ h. record { interprets = h.0; satisfied = same other ∙ h.1.0; differs = h.1.1 }),
        (λ rival. (rival.interprets, (sym (same other) ∙ rival.satisfied, rival.differs))),
      ))
      (rivals_tell S row T is fit)

  -- ---- candidates

  module _ (most : horizon ≤ 1000) (query : GroundQuery) (q : Query) (stands : StandsForQuery (plain_ground_query query) (frame w) q) (asked : IsQueryAt signature horizon (plain_ground_query query)) where
    abbrev by : ℕ
    by = stride_of signature

    abbrev front : ℕ
    front = horizon * by

    all_in_front : front ≤ front
    all_in_front = omega arith

    all_placed : (conditions : List GroundCondition) → AllByRecursion (λ condition. (step_of condition.at horizon ≤ 1000) × IsPlacedBelow front P (placed_condition by horizon condition)) conditions →
        AllByRecursion (TermFits P) (map (λ (c : GroundCondition). term_at (placed_condition by horizon c)) conditions)
    all_placed [] h = tt
    all_placed (c ∷ conditions) h = (placed_fits P (placed_condition by horizon c) h.0.1, all_placed conditions h.1)

    some_placed : (claim : Option GroundCondition) → IfSome claim (λ condition. (step_of condition.at horizon ≤ 1000) × IsPlacedBelow front P (placed_condition by horizon condition)) →
        IfSome (option_map (λ (c : GroundCondition). term_at (placed_condition by horizon c)) claim) (TermFits P)
    some_placed None h = tt
    some_placed (Some c) h = placed_fits P (placed_condition by horizon c) h.1

    conditions_fit : AllByRecursion (TermFits (wide_sizes w horizon)) (map (condition_term (frame w) horizon) q.conditions)
    conditions_fit =
        subst (λ (sizes : List ℕ). AllByRecursion (TermFits sizes) (map (condition_term (frame w) horizon) q.conditions)) wide_sizes_are
        (subst (AllByRecursion (TermFits P)) (conditions_meant signature laws w of horizon query q stands) (all_placed query.conditions (conditions_placed signature front horizon all_in_front most query.conditions asked.conditions)))

    claim_fits : IfSome (option_map (condition_term (frame w) horizon) q.claim) (TermFits (wide_sizes w horizon))
    claim_fits =
        subst (λ (sizes : List ℕ). IfSome (option_map (condition_term (frame w) horizon) q.claim) (TermFits sizes)) wide_sizes_are
        (subst (λ (o : Option Ground). IfSome o (TermFits P)) (claim_meant signature laws w of horizon query q stands) (some_placed query.claim (claim_placed signature front horizon all_in_front most query.claim asked.claim)))

    abbrev pub S : List ℕ
    S = wide_sizes w horizon

    abbrev pub T : List WideTimed
    T = wide_timed w horizon

    abbrev pub C : List Ground
    C = map (condition_term (frame w) horizon) q.conditions

    abbrev pub K : Option Ground
    K = option_map (condition_term (frame w) horizon) q.claim

    abbrev pub IsSaid : List ℕ → Type 0
    IsSaid row = IsRow S row × ((IsTrue (list_all (rule_met row) T) × IsTrue (list_all (holds row) C)) × IfSome K (λ claim. IsFalse (holds row claim)))

    -- a candidate is a row of the positions that meets each rule and the query
    pub candidate_said : (row : List ℕ) → IsSaid row ↔ IsCandidate w q horizon row
    candidate_said row =
        let same : satisfies row (reduct (wide_rules_at w horizon) row) ≡ list_all (rule_met row) T = reduct_is row row ∙ sym (met_heads row T) in (
          (λ h. record {
            interprets = h.0;
            satisfied = same ∙ h.1.0.0;
            meets = record { conditions = sym (conditions_true mean w values horizon row q.conditions) ∙ h.1.0.1; claim = claim_to mean w values horizon row q.claim h.1.1 };
          }),
          (λ candidate. (
            candidate.interprets,
            ((sym same ∙ candidate.satisfied, conditions_true mean w values horizon row q.conditions ∙ candidate.meets.conditions), claim_from mean w values horizon row q.claim candidate.meets.claim),
          )),
        )

    pub candidates_told : Tells (candidate_axioms w q horizon) (IsCandidate w q horizon)
    candidates_told =
        tells_alike (axioms_behind S (candidate_parts S T C K timed_fit conditions_fit claim_fits)) IsSaid (IsCandidate w q horizon) candidate_said
        (candidates_tell S T C K timed_fit conditions_fit claim_fits)
