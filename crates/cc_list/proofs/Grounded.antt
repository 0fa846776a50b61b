-- What is ground of a description is what the theory of a horizon and its clause lists ask for.
use Rattle.std.proofs.Common.{◌≡◌, ◌∙◌, ◌++◌, refl, sym, ap, subst, ℕ, ◌≤◌, Bool, true, false, List, [], ◌∷◌, map, Option, Some, None, IfSome, nat_lt, if◌then◌else◌, arith}
use Rattle.std.specs.List.{AllByRecursion}
use Rattle.std.proofs.Math.Path.{ap₂}
use Rattle.std.proofs.lemmas.Bool.{ltb-false}
use Rattle.std.specs.Option.{option_map}
use Rattle.cc_arena.specs.declared.ground_laws.GroundLaw.{GroundLaw}
use Rattle.cc_arena.specs.GroundViews.{plain_ground_laws}
use Rattle.cc_arena.specs.Laws.{FluentTermsFit, GroundQueriesFit}
use Rattle.cc_defs.specs.declared.signature.Symbol.{Symbol}
use Rattle.cc_defs.specs.Conditions.{AreGroundLaws, HaveTheirKinds, IsGroundQuery, IsTermOf}
use Rattle.cc_defs.specs.Declarations.{Declaration, Declared, constants, symbols, symbol_of}
use Rattle.cc_defs.specs.declared.signature.Const.{Const}
use Rattle.cc_defs.specs.Description.{Description, domain_sizes}
use Rattle.cc_defs.specs.Terms.{IsTermOver}
use Rattle.cc_defs.specs.GroundLaws.{PlainGroundQuery, ground_condition, ground_laws, ground_query}
use Rattle.cc_defs.specs.Histories.{step_of}
use Rattle.cc_defs.specs.Nodes.{nodes_of}
use Rattle.cc_defs.specs.Resolved.{BaseLaw, Condition, Query}
use Rattle.cc_defs.specs.Satisfaction.{giving}
use Rattle.cc_defs.specs.Signatures.{Signature, ground_constants}
use Rattle.cc_defs.specs.Universe.{Universe, universe, HaveOwnValues}
use Rattle.cc_form.specs.Queries.{IsConditionAt, IsQueryAt}
use Rattle.cc_laws.specs.Laws.{HasFormulas, HasStep, HasSteps, StepsFit}
use Rattle.cc_laws.specs.Questions.{steps_refusal}
use Rattle.cc_sorts.specs.Tables.{IsSignatureOf, IsTable, TableView, placed_of}
use Rattle.cc_theory.specs.Theories.{AreLawsFor, AreLawsOf}
use Rattle.cc_list.specs.Descriptions.{description_of, ground_refusal, ground_refusal_of}
use Rattle.cc_ground.specs.Counting.{query_refusal}

pub laws_fit : (signature : Signature) (declarations : List Declaration) (laws : List GroundLaw) → IsSignatureOf declarations signature →
    HaveOwnValues (universe declarations) → AreGroundLaws (universe declarations) (plain_ground_laws laws) → AreLawsFor signature laws
laws_fit signature declarations laws of values fit = record {
  u = universe declarations;
  fluents = sym (ap (λ s. s.fluents) of.1);
  actions = sym (ap (λ s. s.actions) of.1);
  numbers = sym (ap (λ s. s.numbers) of.1);
  values = values;
  laws_fit = fit;
}

pub laws_are : (signature : Signature) (declarations : List Declaration) (base : List BaseLaw) (laws : List GroundLaw) (d : Description) →
    d ≡ description_of declarations base → IsSignatureOf declarations signature → plain_ground_laws laws ≡ ground_laws (universe declarations) base → AreLawsOf signature laws d
laws_are signature declarations base laws d is of made = subst (λ x. AreLawsOf signature laws x) (sym is) (record {
  signature_is = record { fluents = ap (λ s. s.fluents) of.1; actions = ap (λ s. s.actions) of.1; numbers = ap (λ s. s.numbers) of.1 };
  laws_are = made;
})

-- ---- the symbols of a table

symbols_placed : (declarations : List Declaration) (found : List Declared) →
    map (λ placed. placed.symbol) (placed_of declarations found) ≡ map (symbol_of declarations) found
symbols_placed declarations [] = refl
symbols_placed declarations (constant ∷ others) = ap (λ (w : List Symbol). symbol_of declarations constant ∷ w) (symbols_placed declarations others)

pub symbols_are : (table : TableView) (declarations : List Declaration) → IsTable table declarations →
    map (λ placed. placed.symbol) table.symbols ≡ symbols declarations
symbols_are table declarations is = ap (map (λ placed. placed.symbol)) is.symbols_are ∙ symbols_placed declarations (constants declarations)

-- ---- the steps of conditions

-- The terms of a query are terms of their steps at each horizon of its range.
module _ (u : Universe) (signature : Signature) (horizon lo : ℕ) (fluents : signature.fluents ≡ u.fluents) (actions : signature.actions ≡ u.actions)
    (fluent : FluentTermsFit) (kinds : HaveTheirKinds u) (above : lo ≤ horizon) where
  term_at : (condition : Condition) → HasStep u.symbols lo condition → IsTermOf u (nodes_of u (giving []) condition.formula) →
      IsConditionAt signature horizon (ground_condition u condition)
  term_at condition step term = record { within = (step horizon above).0; term = chosen (nat_lt at horizon) refl }
    where
      at : ℕ
      at = step_of condition.at horizon

      chosen : (b : Bool) → nat_lt at horizon ≡ b →
          IsTermOver (if b then domain_sizes (ground_constants signature) else domain_sizes signature.fluents) (nodes_of u (giving []) condition.formula)
      chosen true is = subst (λ (found : List Const). IsTermOver (domain_sizes found) (nodes_of u (giving []) condition.formula)) (sym (ap₂ (λ (a b : List Const). a ++ b) fluents actions)) term
      chosen false is = subst (λ (found : List Const). IsTermOver (domain_sizes found) (nodes_of u (giving []) condition.formula)) (sym fluents)
          (fluent u kinds (giving []) condition.formula ((step horizon above).1 last))
        where
          last : step_of condition.at horizon ≡ horizon
          last = let low = ltb-false (step_of condition.at horizon) horizon is in let high = (step horizon above).0 in omega arith

  terms_at : (conditions : List Condition) → AllByRecursion (HasStep u.symbols lo) conditions →
      AllByRecursion (λ condition. IsTermOf u condition.nodes) (map (ground_condition u) conditions) →
      AllByRecursion (IsConditionAt signature horizon) (map (ground_condition u) conditions)
  terms_at [] steps terms = tt
  terms_at (condition ∷ conditions) steps terms = (term_at condition steps.0 terms.0, terms_at conditions steps.1 terms.1)

  claim_at : (claim : Option Condition) → IfSome claim (HasStep u.symbols lo) → IfSome (option_map (ground_condition u) claim) (λ made. IsTermOf u made.nodes) →
      IfSome (option_map (ground_condition u) claim) (IsConditionAt signature horizon)
  claim_at None step term = tt
  claim_at (Some claim) step term = term_at claim step term

  query_at : (range : ℕ × ℕ) (query : Query) → AllByRecursion (HasStep u.symbols lo) query.conditions → IfSome query.claim (HasStep u.symbols lo) →
      IsGroundQuery u (ground_query u range query) → IsQueryAt signature horizon (ground_query u range query)
  query_at range query steps claim is = record {
    conditions = terms_at query.conditions steps is.conditions;
    claim = claim_at query.claim claim is.claim;
  }

-- what `ground_query` makes of a query whose steps fit, by the range that they are of
pub query_made : (signature : Signature) (declarations : List Declaration) (query : Query) (made : PlainGroundQuery) (steps : HasSteps (symbols declarations) query) →
    IsSignatureOf declarations signature → FluentTermsFit → GroundQueriesFit → HaveTheirKinds (universe declarations) →
    made ≡ ground_query (universe declarations) steps.range query →
    (horizon : ℕ) → made.lo ≤ horizon → IsQueryAt signature horizon made
query_made signature declarations query made steps of fluent fit kinds is = λ horizon.
    subst (λ (x : PlainGroundQuery). x.lo ≤ horizon → IsQueryAt signature horizon x) (sym is)
    (λ above. query_at (universe declarations) signature horizon steps.range.0 (ap (λ s. s.fluents) of.1) (ap (λ s. s.actions) of.1) fluent kinds above steps.range query
    steps.conditions steps.claim (fit (universe declarations) steps.range query))

pub range_made : (declarations : List Declaration) (query : Query) (made : PlainGroundQuery) (steps : HasSteps (symbols declarations) query) →
    made ≡ ground_query (universe declarations) steps.range query → (made.lo ≤ made.hi) × (made.hi ≤ 1000)
range_made declarations query made steps is =
    subst (λ (x : PlainGroundQuery). (x.lo ≤ x.hi) × (x.hi ≤ 1000)) (sym is) (steps.ordered, steps.within)

pub nodes_are : (query : Query) (d : Description) (range : ℕ × ℕ) → query.range ≡ Some range →
    query_refusal d.universe range query ≡ ground_refusal d query
nodes_are query d range is = sym (ap (ground_refusal_of d query) is)

-- the steps of a query that is not refused by its table
pub steps_are : (table : TableView) (declarations : List Declaration) (query : Query) → IsTable table declarations → StepsFit → HasFormulas (symbols declarations) query →
    steps_refusal (map (λ placed. placed.symbol) table.symbols) query ≡ None → HasSteps (symbols declarations) query
steps_are table declarations query is fit formulas unrefused =
    fit (symbols declarations) query formulas (subst (λ (found : List Symbol). steps_refusal found query ≡ None) (symbols_are table declarations is) unrefused)
