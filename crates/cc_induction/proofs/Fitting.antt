-- The ground query of a step is asked of its horizon.
use Rattle.std.proofs.Common.{◌≡◌, ◌∙◌, ℕ, zero, suc, ◌<◌, ◌≤◌, Bool, true, false, List, [], ◌∷◌, ◌++◌, length, slice_get, append_assoc, Option, Some, None, Result, Ok, Err, IfOk, refl, sym, ap, subst, arith}
use Rattle.std.specs.Prelude.{IfSome, if◌then◌else◌}
use Rattle.std.specs.List.{AllByRecursion}
use Rattle.std.proofs.lemmas.Bool.{le-ltb, lt-ltb}
use Rattle.std.proofs.lemmas.List.{map-append}
use Rattle.cc_arena.specs.declared.ground_laws.GroundQuery.{GroundQuery}
use Rattle.cc_arena.specs.GroundViews.{plain_ground_query}
use Rattle.cc_defs.specs.declared.node.Node.{Node}
use Rattle.cc_defs.specs.declared.node.Node.TheVariants as nodes
use Rattle.cc_defs.specs.declared.signature.At.{At}
use Rattle.cc_defs.specs.declared.signature.At.TheVariants.{Number, Last}
use Rattle.cc_defs.specs.declared.signature.Const.{Const}
use Rattle.cc_defs.specs.Declarations.{upto}
use Rattle.cc_defs.specs.Description.{domain_sizes}
use Rattle.cc_defs.specs.GroundLaws.{PlainGroundCondition, PlainGroundQuery}
use Rattle.cc_defs.specs.Histories.{step_of}
use Rattle.cc_defs.specs.Signatures.{Signature, ground_constants}
use Rattle.cc_defs.specs.Terms.{Fits, IsTermOver, all_of, any_of}
use Rattle.cc_defs.specs.Terms as terms
use Rattle.cc_form.specs.Queries.{IsConditionAt, IsQueryAt}
use Rattle.cc_theory.specs.Theories.{IsTermAt, sizes_of_step}
use Rattle.cc_induction.specs.Induction.{is_at_last}
use Rattle.cc_induction.specs.Steps.{earlier_conditions, ground_at_last, ground_step, joined_nodes, joined_with, later_conditions, nodes_at_last, none_sought_in, none_sought_nodes}

-- ---- terms over sizes

module _ (sizes : List ℕ) where
  abbrev AllFit : List Node → Type 0
  AllFit list = AllByRecursion (Fits sizes) list

  all_fit : (xs ys : List Node) → AllFit xs → AllFit ys → AllFit (xs ++ ys)
  all_fit [] ys p q = q
  all_fit (x ∷ xs) ys p q = (p.0, all_fit xs ys p.1 q)

  both_fit : (xs ys : List Node) → IsTermOver sizes xs → IsTermOver sizes ys → IsTermOver sizes (xs ++ ys ++ nodes.All 2 ∷ [])
  both_fit xs ys x y = record {
    formula = all_of (x.formula ∷ y.formula ∷ []);
    written = ap (λ (l : List Node). l ++ ys ++ nodes.All 2 ∷ []) x.written ∙ ap (λ (l : List Node). terms.postfix x.formula ++ l ++ nodes.All 2 ∷ []) y.written;
    fits = all_fit (xs ++ ys) (nodes.All 2 ∷ []) (all_fit xs ys x.fits y.fits) (tt, tt);
  }

  not_fit : (xs : List Node) → IsTermOver sizes xs → IsTermOver sizes (xs ++ nodes.Not ∷ [])
  not_fit xs x = record {
    formula = terms.Not x.formula;
    written = ap (λ (l : List Node). l ++ nodes.Not ∷ []) x.written;
    fits = all_fit xs (nodes.Not ∷ []) x.fits (tt, tt);
  }

  either_fit : (xs ys : List Node) → IsTermOver sizes xs → IsTermOver sizes ys → IsTermOver sizes (xs ++ ys ++ nodes.Any 2 ∷ [])
  either_fit xs ys x y = record {
    formula = any_of (x.formula ∷ y.formula ∷ []);
    written = ap (λ (l : List Node). l ++ ys ++ nodes.Any 2 ∷ []) x.written ∙ ap (λ (l : List Node). terms.postfix x.formula ++ l ++ nodes.Any 2 ∷ []) y.written;
    fits = all_fit (xs ++ ys) (nodes.Any 2 ∷ []) (all_fit xs ys x.fits y.fits) (tt, tt);
  }

  abbrev MayFit : Option (List Node) → Type 0
  MayFit o = IfSome o (IsTermOver sizes)

  none_fit : (conditions claim : Option (List Node)) → MayFit conditions → MayFit claim → IsTermOver sizes (none_sought_nodes conditions claim)
  none_fit (Some conditions) (Some claim) c k = either_fit (conditions ++ nodes.Not ∷ []) claim (not_fit conditions c) k
  none_fit None (Some claim) c k = k
  none_fit (Some conditions) None c k = not_fit conditions c
  none_fit None None c k = record { formula = terms.Falsehood; written = refl; fits = (tt, tt) }

  join_fit : (before : Option (List Node)) (others : List Node) → MayFit before → IsTermOver sizes others → IsTermOver sizes (joined_with before others)
  join_fit None others b o = o
  join_fit (Some before) others b o = both_fit before others b o

got : (xs ys : List ℕ) (n size : ℕ) → slice_get xs n ≡ Some size → slice_get (xs ++ ys) n ≡ Some size
got [] ys n size e = absurd cc
got (x ∷ xs) ys zero size e = e
got (x ∷ xs) ys (suc n) size e = got xs ys n size e

-- a term over sizes is one over more
module _ (sizes more : List ℕ) where
  wider : (node : Node) → Fits sizes node → Fits (sizes ++ more) node
  wider (nodes.Atom constant value) fits = (fits.0, got sizes more constant fits.0 fits.1, fits.2)
  wider nodes.True fits = tt
  wider nodes.False fits = tt
  wider nodes.Not fits = tt
  wider (nodes.All count) fits = tt
  wider (nodes.Any count) fits = tt
  wider nodes.Same fits = tt

  all_wider : (list : List Node) → AllByRecursion (Fits sizes) list → AllByRecursion (Fits (sizes ++ more)) list
  all_wider [] fits = tt
  all_wider (node ∷ list) fits = (wider node fits.0, all_wider list fits.1)

module _ (signature : Signature) (least count : ℕ) where
  abbrev pub few : List ℕ
  few = domain_sizes signature.fluents

  pub at_end : (horizon : ℕ) → sizes_of_step signature horizon horizon ≡ few
  at_end horizon = ap (λ (b : Bool). if b then domain_sizes (ground_constants signature) else few) (le-ltb horizon horizon (omega arith))

  -- ---- conditions at the last step

  pub fluent_term : (at : At) (list : List Node) → is_at_last at ≡ true → IsTermAt signature least (step_of at least) list → IsTermOver few list
  fluent_term (Number step) list is term = absurd cc
  fluent_term Last list is term = subst (λ (sizes : List ℕ). IsTermOver sizes list) (at_end least) term.term

  pub term_at : (at : At) (list : List Node) → is_at_last at ≡ true → IsTermOver few list → IsTermAt signature count (step_of at count) list
  term_at (Number step) list is term = absurd cc
  term_at Last list is term = record { within = omega arith; term = subst (λ (sizes : List ℕ). IsTermOver sizes list) (sym (at_end count)) term }

  joined_fit : (before : Option (List Node)) (conditions : List PlainGroundCondition) → MayFit few before → AllByRecursion (IsConditionAt signature least) conditions →
      MayFit few (joined_nodes before conditions)
  joined_fit before [] b are = b
  joined_fit before (condition ∷ conditions) b are =
      by (is_at_last condition.at) refl (λ o. joined_fit (Some (joined_with before condition.nodes)) conditions o are.1) (joined_fit before conditions b are.1)
    where
      by : (last : Bool) → is_at_last condition.at ≡ last →
          (IsTermOver few (joined_with before condition.nodes) → MayFit few (joined_nodes (Some (joined_with before condition.nodes)) conditions)) →
          MayFit few (joined_nodes before conditions) →
          MayFit few (joined_nodes (if last then Some (joined_with before condition.nodes) else before) conditions)
      by true is more same = more (join_fit few before condition.nodes b (fluent_term condition.at condition.nodes is are.0))
      by false is more same = same

  claim_fit : (claim : Option PlainGroundCondition) → IfSome claim (IsConditionAt signature least) → MayFit few (nodes_at_last claim)
  claim_fit None is = tt
  claim_fit (Some claim) is = by (is_at_last claim.at) refl
    where
      by : (last : Bool) → is_at_last claim.at ≡ last → MayFit few (if last then Some claim.nodes else None)
      by true e = fluent_term claim.at claim.nodes e is
      by false e = tt

  claim_asked : (claim : Option PlainGroundCondition) → IfSome claim (IsConditionAt signature least) → IfSome (ground_at_last claim) (IsConditionAt signature count)
  claim_asked None is = tt
  claim_asked (Some claim) is = by (is_at_last claim.at) refl
    where
      by : (last : Bool) → is_at_last claim.at ≡ last → IfSome (if last then Some claim else None) (IsConditionAt signature count)
      by true e = term_at claim.at claim.nodes e (fluent_term claim.at claim.nodes e is)
      by false e = tt

  later_asked : (conditions : List PlainGroundCondition) → AllByRecursion (IsConditionAt signature least) conditions → AllByRecursion (IsConditionAt signature count) (later_conditions conditions)
  later_asked [] are = tt
  later_asked (condition ∷ conditions) are = by (is_at_last condition.at) refl (later_asked conditions are.1)
    where
      by : (last : Bool) → is_at_last condition.at ≡ last → AllByRecursion (IsConditionAt signature count) (later_conditions conditions) →
          AllByRecursion (IsConditionAt signature count) (if last then condition ∷ later_conditions conditions else later_conditions conditions)
      by true e more = (term_at condition.at condition.nodes e (fluent_term condition.at condition.nodes e are.0), more)
      by false e more = more

  -- ---- those at earlier steps

  pub every : (list : List Node) → IsTermOver few list → (step : ℕ) → step < count → IsTermAt signature count step list
  every list term step less =
      let all : domain_sizes (ground_constants signature) ≡ few ++ domain_sizes signature.actions =
      map-append (λ (c : Const). length c.domain) signature.fluents signature.actions in
      let here : sizes_of_step signature count step ≡ few ++ domain_sizes signature.actions =
      ap (λ (b : Bool). if b then domain_sizes (ground_constants signature) else few) (lt-ltb step count less) ∙ all in
      record {
        within = omega arith;
        term = subst (λ (sizes : List ℕ). IsTermOver sizes list) (sym here)
            (record { formula = term.formula; written = term.written; fits = all_wider few (domain_sizes signature.actions) list term.fits });
      }

  earlier_asked : (list : List Node) → IsTermOver few list → (n : ℕ) → n ≤ count → (others : List PlainGroundCondition) → AllByRecursion (IsConditionAt signature count) others →
      AllByRecursion (IsConditionAt signature count) (earlier_conditions list n ++ others)
  earlier_asked list term zero within others are = are
  earlier_asked list term (suc n) within others are =
      subst (AllByRecursion (IsConditionAt signature count)) (sym (one_more n))
      (earlier_asked list term n (omega arith) (record { at = Number n; nodes = list } ∷ others) (every list term n (omega arith), are))
    where
      one_more : (n : ℕ) → earlier_conditions list (suc n) ++ others ≡ earlier_conditions list n ++ (record { at = Number n; nodes = list } ∷ others)
      one_more n =
          ap (λ (l : List PlainGroundCondition). l ++ others) (map-append (λ (step : ℕ). record { at = Number step; nodes = list }) (upto n) (n ∷ []))
          ∙ append_assoc (earlier_conditions list n) (record { at = Number n; nodes = list } ∷ []) others

pub step_asked : (query : PlainGroundQuery) (signature : Signature) (count : ℕ) → IsQueryAt signature query.lo query → IsQueryAt signature count (ground_step query count)
step_asked query signature count is = record {
  conditions = earlier_asked signature query.lo count (none_sought_in query)
      (none_fit (few signature query.lo count) (joined_nodes None query.conditions) (nodes_at_last query.claim)
      (joined_fit signature query.lo count None query.conditions tt is.conditions) (claim_fit signature query.lo count query.claim is.claim))
      count (omega arith) (later_conditions query.conditions) (later_asked signature query.lo count query.conditions is.conditions);
  claim = claim_asked signature query.lo count query.claim is.claim;
}

pub made_asked : {E : Type 0} (result : Result GroundQuery E) (query : PlainGroundQuery) (signature : Signature) (count : ℕ) →
    IfOk result (λ made. plain_ground_query made ≡ ground_step query count) → IsQueryAt signature query.lo query →
    IfOk result (λ made. IsQueryAt signature count (plain_ground_query made))
made_asked (Ok made) query signature count is asked = subst (IsQueryAt signature count) (sym is) (step_asked query signature count asked)
made_asked (Err fault) query signature count is asked = tt
