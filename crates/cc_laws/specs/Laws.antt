-- Laws of what statements stand for.
use Rattle.std.specs.Prelude.{◌≡◌, ℕ, ◌≤◌, List, ◌++◌, Option, Some, None, IfSome}
use Rattle.std.specs.List.{AllByRecursion}
use Rattle.cc_defs.specs.declared.refusal.LimitAt.TheVariants as limits
use Rattle.cc_defs.specs.declared.signature.Symbol.{Symbol}
use Rattle.cc_defs.specs.DeclarationFaults.{declaration_refusal}
use Rattle.cc_defs.specs.Declarations.{Declaration, declarations_of, symbols}
use Rattle.cc_defs.specs.Forms.{HaveForms, IsFormula, IsFluentFormula}
use Rattle.cc_defs.specs.Histories.{step_of}
use Rattle.cc_defs.specs.Limits.{limit_number}
use Rattle.cc_defs.specs.Resolved.{Condition, Query}
use Rattle.cc_defs.specs.Trees.{PlainConstItem, PlainLaw, PlainStatement, PlainTree}
use Rattle.cc_defs.specs.Trees as trees
use Rattle.cc_laws.specs.Expansion.{base_laws}
use Rattle.cc_laws.specs.LawFaults.{law_refusal}
use Rattle.cc_laws.specs.Questions.{query_asked, steps_refusal}
use Rattle.cc_laws.specs.Vocabulary.{vocabulary}
use Rattle.cc_laws.specs.Widening.{wide_laws, wide_refusal}
use Rattle.cc_wide.specs.WideForms.{HaveWideForms}

-- ---- the forms of base laws, at the declarations up to their statement and where more stand behind

-- those of a law without a fault
abbrev pub LawsHaveForms : Type 0
LawsHaveForms = (file line : ℕ) (left more : List Declaration) (law : PlainLaw) (test : Option PlainTree) →
    law_refusal file (vocabulary left) (record { part = trees.Law law test; line = line }) ≡ None →
    HaveForms (symbols (left ++ more)) (base_laws file (vocabulary left) line (trees.Law law test))

-- the declarations of constants behind others
abbrev pub with_constants : ℕ → ℕ → List Declaration → List PlainConstItem → List Declaration
with_constants file line before items = before ++ declarations_of file (record { part = trees.Constants items; line = line })

-- those of constants without a fault
abbrev pub ConstantsHaveForms : Type 0
ConstantsHaveForms = (file line : ℕ) (before more : List Declaration) (items : List PlainConstItem) →
    declaration_refusal file before (record { part = trees.Constants items; line = line }) ≡ None →
    HaveForms (symbols (with_constants file line before items ++ more)) (base_laws file (vocabulary (with_constants file line before items)) line (trees.Constants items))

-- ---- the same of laws with heads of any form

abbrev pub WideLawsHaveForms : Type 0
WideLawsHaveForms = (file line : ℕ) (left more : List Declaration) (law : PlainLaw) (test : Option PlainTree) →
    wide_refusal file (vocabulary left) (record { part = trees.Law law test; line = line }) ≡ None →
    HaveWideForms (symbols (left ++ more)) (wide_laws file (vocabulary left) line (trees.Law law test))

abbrev pub WideConstantsHaveForms : Type 0
WideConstantsHaveForms = (file line : ℕ) (before more : List Declaration) (items : List PlainConstItem) →
    declaration_refusal file before (record { part = trees.Constants items; line = line }) ≡ None →
    HaveWideForms (symbols (with_constants file line before items ++ more)) (wide_laws file (vocabulary (with_constants file line before items)) line (trees.Constants items))

-- ---- queries

-- the conditions and the claim are formulas of declared constants
pub record HasFormulas (symbols : List Symbol) (query : Query) : Type 0 where
  pub conditions : AllByRecursion (λ condition. IsFormula symbols condition.formula) query.conditions
  pub claim : IfSome query.claim (λ claim. IsFormula symbols claim.formula)

abbrev pub QueriesHaveFormulas : Type 0
QueriesHaveFormulas = (file : ℕ) (left more : List Declaration) (statement : PlainStatement) → HasFormulas (symbols (left ++ more)) (query_asked file (vocabulary left) statement)

-- At each horizon from this one on, the step is one of its steps, and where it is the last the formula is one of fluents.
abbrev pub HasStep : List Symbol → ℕ → Condition → Type 0
HasStep symbols lo condition =
    (horizon : ℕ) → lo ≤ horizon → (step_of condition.at horizon ≤ horizon) × (step_of condition.at horizon ≡ horizon → IsFluentFormula symbols condition.formula)

-- the query has a range of horizons, and its steps are among those of each of them
pub record HasSteps (symbols : List Symbol) (query : Query) : Type 0 where
  pub range : ℕ × ℕ
  pub is : query.range ≡ Some range
  pub ordered : range.0 ≤ range.1
  pub within : range.1 ≤ limit_number limits.Horizon
  pub conditions : AllByRecursion (HasStep symbols range.0) query.conditions
  pub claim : IfSome query.claim (HasStep symbols range.0)

abbrev pub StepsFit : Type 0
StepsFit = (symbols : List Symbol) (query : Query) → HasFormulas symbols query → steps_refusal symbols query ≡ None → HasSteps symbols query
