-- What clause lists tell: which rows meet them, and with how many assignments.
use Rattle.std.specs.Prelude.{ℕ, IsTrue, IsFalse, List, Option, IfSome}
use Rattle.std.specs.List.{list_all, AllByRecursion}
use Rattle.cc_defs.specs.declared.lists.Key.{Key}
use Rattle.cc_defs.specs.ClauseLists.{clauses_over}
use Rattle.cc_defs.specs.Rows.{IsRow, IsBelow}
use Rattle.cc_defs.specs.Terms.{Ground, Fits, postfix}
use Rattle.cc_defs.specs.TimedRules.{TimedRule}
use Rattle.cc_clauses.specs.Tells.{Tells}
use Rattle.cc_defs.specs.Sections.{Axioms}
use Rattle.cc_theory.specs.Completion.{MeetsCompletion, holds}
pub use Rattle.cc_theory.specs.Laws.{HeadFits}

-- ---- atoms that the positions have

abbrev pub TermFits : List ℕ → Ground → Type 0
TermFits sizes term = AllByRecursion (Fits sizes) (postfix term)

pub record RuleFits (sizes : List ℕ) (rule : TimedRule) : Type 0 where
  pub head : HeadFits sizes rule.head
  pub body : TermFits sizes rule.body

pub record AllFit (sizes : List ℕ) (rules : List TimedRule) (conditions : List Ground) (claim : Option Ground) (key : Option Key) : Type 0 where
  pub rules_fit : AllByRecursion (RuleFits sizes) rules
  pub conditions_fit : AllByRecursion (TermFits sizes) conditions
  pub claim_fits : IfSome claim (TermFits sizes)
  pub key_fits : IfSome key (λ key. IsRow sizes key.row)

-- ---- what is told

-- a row meets the completion of the rules and the conditions, does not meet the claim, and lies after the key
pub record IsTold (sizes : List ℕ) (rules : List TimedRule) (conditions : List Ground) (claim : Option Ground) (key : Option Key) (row : List ℕ) : Type 0 where
  pub is_row : IsRow sizes row
  pub completion : MeetsCompletion sizes rules row
  pub conditions_hold : IsTrue (list_all (holds row) conditions)
  pub claim_fails : IfSome claim (λ claim. IsFalse (holds row claim))
  pub after : IfSome key (λ key. IsBelow key.row row)

-- the axioms of rules, conditions, a claim and a key
abbrev pub axioms_over : List ℕ → List TimedRule → List Ground → Option Ground → Option Key → Axioms
axioms_over sizes rules conditions claim key =
    let list = clauses_over sizes rules conditions claim key
    in record { sizes = sizes; variables = list.variables; clauses = list.clauses }

abbrev pub TellsRows : List ℕ → List TimedRule → List Ground → Option Ground → Option Key → Type 0
TellsRows sizes rules conditions claim key = Tells (axioms_over sizes rules conditions claim key) (IsTold sizes rules conditions claim key)

abbrev pub ClausesTellRows : Type 0
ClausesTellRows = (sizes : List ℕ) (rules : List TimedRule) (conditions : List Ground) (claim : Option Ground) (key : Option Key) →
    AllFit sizes rules conditions claim key → TellsRows sizes rules conditions claim key
