-- Clauses in conjunctive normal form over numbered variables, their models, and the clause list that has just these.
use Rattle.std.specs.Prelude.{◌-◌, ◌*◌, ◌==◌, ℕ, zero, suc, IsTrue, List, [], ◌∷◌, ◌++◌, map, slice_index_or, Option}
use Rattle.std.specs.List.{AllByRecursion, list_all}
use Rattle.cc_defs.specs.declared.refusal.Refusal.{Refusal}
use Rattle.cc_defs.specs.ClauseForms.{all_written, positive, true_variable}
use Rattle.cc_defs.specs.ClauseLists.{Asserted, positions_from}
use Rattle.cc_defs.specs.Clauses.{Literal, IsLiteralOver, meets}
use Rattle.cc_defs.specs.Rows.{IsRow}
use Rattle.cc_defs.specs.Sections.{Axioms}
use Rattle.cc_form.specs.Forms.{form_refusal}
use Rattle.cc_dimacs.specs.declared.cnf.Cnf.{Cnf}

-- how many variables there are, numbered from 1, and the clauses over them
pub record PlainCnf : Type 0 where
  pub variables : ℕ
  pub clauses : List (List Literal)

-- each literal is one of a variable that there is
abbrev pub AreOver : ℕ → List (List Literal) → Type 0
AreOver variables clauses = AllByRecursion (AllByRecursion (IsLiteralOver variables)) clauses

-- ---- models

-- positions with two values each
abbrev pub twos : ℕ → List ℕ
twos zero = []
twos (suc count) = 2 ∷ twos count

-- one position a variable, with the values 0 for false and 1 for true
abbrev pub sizes_of : PlainCnf → List ℕ
sizes_of cnf = twos cnf.variables

-- A model: a truth value for each variable in order, such that some literal of each clause is true.
pub record IsModelOf (cnf : PlainCnf) (model : List ℕ) : Type 0 where
  pub row : IsRow (sizes_of cnf) model
  pub each : IsTrue (list_all (meets (λ variable. slice_index_or model (variable - 1) 0 == 1)) cnf.clauses)

-- ---- the clause list

-- a literal, as one of the atom of value 1 of the position of its variable
abbrev pub atom_of : Literal → Literal
atom_of literal = record { variable = 2 * literal.variable; positive = literal.positive }

-- positions for the variables, and behind their clauses those of the text
abbrev pub cnf_axioms : PlainCnf → Axioms
cnf_axioms cnf = record {
  sizes = sizes_of cnf;
  variables = true_variable (sizes_of cnf);
  clauses = (positive (true_variable (sizes_of cnf)) ∷ []) ∷ positions_from 1 (sizes_of cnf) ++ all_written (map (map atom_of) cnf.clauses);
}

-- the first limit that the clause list passes
abbrev pub cnf_refusal : PlainCnf → Option Refusal
cnf_refusal cnf = form_refusal (record { variables = true_variable (sizes_of cnf); clauses = (cnf_axioms cnf).clauses })

-- ---- the struct

abbrev pub plain_cnf : Cnf → PlainCnf
plain_cnf cnf = record { variables = cnf.variables; clauses = cnf.clauses }

-- a clause list with those of the text behind its own
abbrev pub with_clauses : Asserted → List (List Literal) → Asserted
with_clauses made clauses = record { last = made.last; clauses = made.clauses ++ all_written (map (map atom_of) clauses) }
