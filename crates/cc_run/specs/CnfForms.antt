-- A CNF that is read as a clause list.
use Rattle.std.specs.Prelude.{◌≡◌, ◌≤◌, ◌⊎◌, ℕ, List, Some, None}
use Rattle.cc_clauses.specs.Tells.{Tells}
use Rattle.cc_defs.specs.declared.refusal.Fault.{Fault}
use Rattle.cc_defs.specs.declared.refusal.Fault.TheVariants as faults
use Rattle.cc_defs.specs.Limits.{most_cnf_variables}
use Rattle.cc_defs.specs.Sections.{Axioms}
use Rattle.cc_dimacs.specs.CnfTexts.{IsCnfText, IsCnfRefusal}
use Rattle.cc_dimacs.specs.Cnfs.{PlainCnf, IsModelOf, cnf_axioms, cnf_refusal}

-- the clause list of this CNF, which passes no limit
pub record IsFormOf (cnf : PlainCnf) (form : Axioms) : Type 0 where
  pub variables : cnf.variables ≤ most_cnf_variables
  pub within : cnf_refusal cnf ≡ None
  pub form_is : form ≡ cnf_axioms cnf
  pub tells : Tells form (IsModelOf cnf)

-- that of the CNF that bytes spell
abbrev pub HasForm : List ℕ → Axioms → Type 0
HasForm bytes form = (cnf : PlainCnf) × IsCnfText bytes cnf × IsFormOf cnf form

-- The text is refused, or the clause list; or memory was wanting.
abbrev pub IsFormFault : List ℕ → Fault → Type 0
IsFormFault bytes (faults.Refused refusal) =
    IsCnfRefusal bytes (faults.Refused refusal) ⊎ ((cnf : PlainCnf) × IsCnfText bytes cnf × (cnf_refusal cnf ≡ Some refusal))
IsFormFault bytes faults.OutOfMemory = Unit {0}
