-- A writer that is done, and the limits of what it built.
use Rattle.std.specs.Prelude.{◌≡◌, ℕ, ◌≤◌, List, length, nat_lt, if◌then◌else◌, Option, Some, None}
use Rattle.cc_defs.specs.Limits.{most_variables, most_clauses, most_literals}
use Rattle.cc_defs.specs.declared.refusal.LimitAt.TheVariants as limits
use Rattle.cc_defs.specs.declared.refusal.Refusal.{Refusal}
use Rattle.cc_defs.specs.ClauseLists.{ClauseList}
use Rattle.cc_defs.specs.Clauses.{Literal}
use Rattle.cc_defs.specs.Refusals.{past}
use Rattle.cc_form.specs.declared.writer.Writer.{Writer}
use Rattle.cc_form.specs.Forms.{IsAxioms}
use Rattle.cc_form.specs.Store.{Holds, literal_count_of}

-- its clauses are some that are clauses over its variables
pub record IsBuiltForm (writer : Writer) : Type 0 where
  pub clauses : List (List Literal)
  pub holds : Holds writer.store.kept clauses
  pub within : writer.last ≤ most_variables
  pub axioms : IsAxioms (record { sizes = writer.places; variables = writer.last; clauses = clauses })

abbrev pub count_refusal : List (List Literal) → Option Refusal
count_refusal clauses =
    if nat_lt most_clauses (length clauses) then Some (past limits.AxiomClauses)
    else (if nat_lt most_literals (literal_count_of clauses) then Some (past limits.AxiomLiterals) else None)

-- it has built a clause list over positions of these sizes
pub record IsSection (sizes : List ℕ) (list : ClauseList) (writer : Writer) : Type 0 where
  pub places : writer.places ≡ sizes
  pub ends : writer.last ≡ list.variables
  pub within : list.variables ≤ most_variables
  pub holds : Holds writer.store.kept list.clauses
