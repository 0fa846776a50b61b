-- What a query asks are formulas of declared constants, and its steps fit each of its horizons.
use Rattle.std.proofs.Common.{◌≡◌, ◌∙◌, ℕ, ◌+◌, ◌≤◌, Bool, true, false, ◌&&◌, ◌||◌, nat_lt, List, [], ◌∷◌, flat_map, Option, Some, None, refl, sym, ap, arith}
use Rattle.std.specs.Prelude.{if◌then◌else◌, ◌==◌, IfSome}
use Rattle.std.specs.Option.{option_map}
use Rattle.std.specs.List.{AllByRecursion, list_any}
use Rattle.std.proofs.lemmas.Bool.{eq-eqb, ltb-false, or_parts}
use Rattle.cc_defs.specs.declared.refusal.LimitAt.TheVariants as limits
use Rattle.cc_defs.specs.declared.refusal.Refusal.{Refusal}
use Rattle.cc_defs.specs.declared.signature.At.{At}
use Rattle.cc_defs.specs.declared.signature.At.TheVariants as ats
use Rattle.cc_defs.specs.declared.signature.Symbol.{Symbol}
use Rattle.cc_defs.specs.Forms.{IsDeclared, IsFormula, formula_symbols, names_action}
use Rattle.cc_defs.specs.Limits.{limit_number}
use Rattle.cc_defs.specs.Refusals.{past}
use Rattle.cc_defs.specs.Resolved.{Condition, Formula, Query}
use Rattle.cc_defs.specs.Resolved as resolved
use Rattle.cc_defs.specs.Trees.{PlainQueryItem, PlainTree}
use Rattle.cc_laws.specs.Laws.{HasFormulas, HasStep, HasSteps, QueriesHaveFormulas, StepsFit}
use Rattle.cc_laws.specs.Questions.{Asked, brackets_asked, claim_fails, claims_in, condition_asked, condition_fails, conditions_asked, conditions_in, first, items_of, joined, joined_behind, query_of, range_refusal, refusal_in_range, step_fails, step_refusal}
use Rattle.cc_laws.specs.Resolving.{brackets, brackets_in, resolve_all}
use Rattle.cc_laws.specs.Vocabulary.{Vocabulary, vocabulary}
use Rattle.cc_laws.proofs.EachOf.{each_of_both}
use Rattle.cc_laws.proofs.FormsOfSplits.{GoesOn, is_formula}
use Rattle.cc_laws.proofs.MoreSymbols.{goes_on}

-- ---- formulas

module _ (v : Vocabulary) (symbols : List Symbol) (goes : GoesOn v.symbols symbols) where
  all_formulas : (next : ℕ) (formulas : List PlainTree) → AllByRecursion (IsFormula symbols) (resolve_all v next formulas)
  all_formulas next [] = tt
  all_formulas next (formula ∷ formulas) = (is_formula v symbols goes [] next formula, all_formulas (next + brackets formula) formulas)

  behind_formula : (formula : Formula) (others : List Formula) → IsFormula symbols formula → AllByRecursion (IsFormula symbols) others → IsFormula symbols (joined_behind formula others)
  behind_formula formula [] is all = is
  behind_formula formula (other ∷ others) is all =
      behind_formula (resolved.Both formula other) others (each_of_both (IsDeclared symbols) (formula_symbols formula) (formula_symbols other) is all.0) all.1

  joined_formula : (formulas : List Formula) → AllByRecursion (IsFormula symbols) formulas → IsFormula symbols (joined formulas)
  joined_formula [] all = tt
  joined_formula (formula ∷ others) all = behind_formula formula others all.0 all.1

  asked_formula : (next : ℕ) (asked : Asked) → IsFormula symbols (condition_asked v next asked).formula
  asked_formula next one = joined_formula (resolve_all v next one.formulas) (all_formulas next one.formulas)

  all_asked : (next : ℕ) (all : List Asked) → AllByRecursion (λ condition. IsFormula symbols condition.formula) (conditions_asked v next all)
  all_asked next [] = tt
  all_asked next (one ∷ others) = (asked_formula next one, all_asked (next + brackets_in one.formulas) others)

  claim_formula : (next : ℕ) (claim : Option Asked) → IfSome (option_map (condition_asked v next) claim) (λ claim. IsFormula symbols claim.formula)
  claim_formula next None = tt
  claim_formula next (Some claim) = asked_formula next claim

  has_formulas : (file line : ℕ) (items : List PlainQueryItem) → HasFormulas symbols (query_of file v line items)
  has_formulas file line items = record {
    conditions = all_asked 0 (flat_map conditions_in items);
    claim = claim_formula (brackets_asked (flat_map conditions_in items)) (first (flat_map claims_in items));
  }

pub queries_formulas : QueriesHaveFormulas
queries_formulas file left more statement = has_formulas (vocabulary left) _ (goes_on left more) file statement.line (items_of statement.part)

-- ---- steps

module _ (symbols : List Symbol) (lo : ℕ) where
  step_fits : (at : At) (formula : Formula) → IsFormula symbols formula → step_fails symbols lo at formula ≡ false → HasStep symbols lo (record { at = at; formula = formula })
  step_fits (ats.Number step) formula is e horizon more =
      let parts = or_parts (nat_lt lo step) ((step == lo) && names_action symbols formula) e in
      let least : step ≤ lo = ltb-false lo step parts.0 in (
        omega arith,
        λ last. let same : step ≡ lo = omega arith in (is, sym (ap (λ (w : Bool). w && names_action symbols formula) (eq-eqb step lo same)) ∙ parts.1),
      )
  step_fits ats.Last formula is e horizon more = (omega arith, λ last. (is, e))

  conditions_fit : (conditions : List Condition) → AllByRecursion (λ condition. IsFormula symbols condition.formula) conditions → list_any (condition_fails symbols lo) conditions ≡ false →
      AllByRecursion (HasStep symbols lo) conditions
  conditions_fit [] are e = tt
  conditions_fit (condition ∷ conditions) are e =
      let parts = or_parts (condition_fails symbols lo condition) (list_any (condition_fails symbols lo) conditions) e in
      (step_fits condition.at condition.formula are.0 parts.0, conditions_fit conditions are.1 parts.1)

  claim_fits : (claim : Option Condition) → IfSome claim (λ claim. IsFormula symbols claim.formula) → claim_fails symbols lo claim ≡ false → IfSome claim (HasStep symbols lo)
  claim_fits None is e = tt
  claim_fits (Some claim) is e = step_fits claim.at claim.formula is e

-- two tests that do not refuse
neither : (first second : Bool) (one other : Refusal) → (if first then Some one else (if second then Some other else None)) ≡ None → (first ≡ false) × (second ≡ false)
neither true second one other e = absurd cc
neither false true one other e = absurd cc
neither false false one other e = (refl, refl)

range_fits : (symbols : List Symbol) (query : Query) (range : ℕ × ℕ) → HasFormulas symbols query → query.range ≡ Some range → range_refusal symbols query range.0 range.1 ≡ None →
    HasSteps symbols query
range_fits symbols query range are is e =
    let fails = list_any (condition_fails symbols range.0) query.conditions || claim_fails symbols range.0 query.claim in
    let tests = neither (nat_lt range.1 range.0 || fails) (nat_lt (limit_number limits.Horizon) range.1) (step_refusal query) (past limits.Horizon) e in
    let parts = or_parts (nat_lt range.1 range.0) fails tests.0 in
    let steps = or_parts (list_any (condition_fails symbols range.0) query.conditions) (claim_fails symbols range.0 query.claim) parts.1 in
    record {
      range = range;
      is = is;
      ordered = ltb-false range.1 range.0 parts.0;
      within = ltb-false (limit_number limits.Horizon) range.1 tests.1;
      conditions = conditions_fit symbols range.0 query.conditions are.conditions steps.0;
      claim = claim_fits symbols range.0 query.claim are.claim steps.1;
    }

pub steps_of_query : StepsFit
steps_of_query symbols query are e = choose query.range refl e
  where
    choose : (found : Option (ℕ × ℕ)) → query.range ≡ found → refusal_in_range symbols query found ≡ None → HasSteps symbols query
    choose None is f = absurd cc
    choose (Some range) is f = range_fits symbols query range are is f
