-- What the clause list of a section tells: its rows are the histories.
use Rattle.std.specs.Prelude.{ℕ, ◌≤◌, ◌+◌, All, Contains, sum, Bool, true, false, List, [], ◌∷◌, ◌++◌, length, Option, Some, None, nat_lt, if◌then◌else◌}
use Rattle.cc_defs.specs.Limits.{most_variables, most_clauses, most_literals}
use Rattle.cc_defs.specs.declared.lists.Key.{Key}
use Rattle.cc_defs.specs.declared.refusal.LimitAt.TheVariants as limits
use Rattle.cc_defs.specs.declared.refusal.Refusal.{Refusal}
use Rattle.cc_defs.specs.ClauseForms.{atom_variable, positive}
use Rattle.cc_defs.specs.ClauseLists.{ClauseList, clause_list, positions_from}
use Rattle.cc_defs.specs.Clauses.{Literal, IsClause, IsOver}
use Rattle.cc_defs.specs.Description.{Description, sizes_at}
use Rattle.cc_defs.specs.Histories.{IsHistory}
use Rattle.cc_defs.specs.Refusals.{past}
use Rattle.cc_defs.specs.Resolved.{Query}
use Rattle.cc_defs.specs.Runs.{without_claim}
use Rattle.cc_defs.specs.Sections.{Axioms}
use Rattle.std.specs.Option.{option_or}
use Rattle.cc_clauses.specs.Tells.{Tells}
use Rattle.cc_theory.specs.Theories.{rules_refusal}
use Rattle.cc_form.specs.Store.{literal_count_of}

-- the first limit that a clause list passes
abbrev pub form_refusal : ClauseList → Option Refusal
form_refusal list =
    if nat_lt most_variables list.variables then Some (past limits.Variables)
    else (if nat_lt most_clauses (length list.clauses) then Some (past limits.AxiomClauses)
    else (if nat_lt most_literals (literal_count_of list.clauses) then Some (past limits.AxiomLiterals) else None))

-- the first limit that the rules or clauses of a section pass
abbrev pub section_refusal : Description → Query → ℕ → (with_claim : Bool) → Option Key → Option Refusal
section_refusal d q horizon with_claim key = option_or (rules_refusal d horizon) (form_refusal (clause_list d q horizon with_claim key))

-- the axioms of a section: those of a query at a horizon, with its claim denied or left out, after a key where there is one
abbrev pub form_of : Description → Query → ℕ → (with_claim : Bool) → Option Key → Axioms
form_of d q horizon with_claim key =
    let list = clause_list d q horizon with_claim key
    in record { sizes = sizes_at d horizon; variables = list.variables; clauses = list.clauses }

-- the query that a section asks
abbrev pub asked : (with_claim : Bool) → Query → Query
asked true q = q
asked false q = without_claim q

-- the rows of the clauses are the histories
abbrev pub TellsHistories : Description → Query → ℕ → Option (List ℕ) → Axioms → Type 0
TellsHistories d q horizon key form = Tells form (IsHistory d q horizon key)

-- axioms: clauses over their variables, which say of each position that it has exactly one value
pub record IsAxioms (form : Axioms) : Type 0 where
  pub each : All IsClause form.clauses
  pub over : All (IsOver form.variables) form.clauses
  pub least : sum form.sizes + 1 ≤ form.variables
  pub choices : (clause : List Literal) → Contains (positions_from 1 form.sizes) clause → Contains form.clauses clause

-- what is always true of axioms that were made within their limits
pub record IsForm (form : Axioms) : Type 0 where
  pub axioms : IsAxioms form
  pub count : length form.clauses ≤ most_clauses
  pub most : form.variables ≤ most_variables

-- the same clauses, and behind them that a position has the value of this index
abbrev pub with_atom : Axioms → (position value : ℕ) → Axioms
with_atom form position value = record form { clauses = form.clauses ++ (positive (atom_variable form.sizes position value) ∷ []) ∷ [] }
