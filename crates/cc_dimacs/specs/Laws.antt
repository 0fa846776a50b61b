-- What makes CNF texts trustworthy.
use Rattle.std.specs.Prelude.{◌≡◌, ◌≤◌, ℕ, List, length}
use Rattle.cc_clauses.specs.Tells.{Tells}
use Rattle.cc_defs.specs.Clauses.{Literal}
use Rattle.cc_dimacs.specs.Cnfs.{PlainCnf, AreOver, IsModelOf, cnf_axioms}
use Rattle.cc_dimacs.specs.CnfTexts.{IsCnfText, IsCnfFault, export_of}

-- a text spells one list of clauses at most
abbrev pub OneCnf : Type 0
OneCnf = (bytes : List ℕ) (one other : PlainCnf) → IsCnfText bytes one → IsCnfText bytes other → one ≡ other

-- a text with a fault spells nothing
abbrev pub FaultsSpellNothing : Type 0
FaultsSpellNothing = (bytes : List ℕ) (line : ℕ) (cnf : PlainCnf) → IsCnfFault bytes line → IsCnfText bytes cnf → ⊥

-- the rows of the clause list are the models, each with exactly one assignment
abbrev pub AxiomsTellModels : Type 0
AxiomsTellModels = (cnf : PlainCnf) → AreOver cnf.variables cnf.clauses → Tells (cnf_axioms cnf) (IsModelOf cnf)

-- an export is read back as its clauses
abbrev pub ExportsAreCnf : Type 0
ExportsAreCnf = (horizon variables : ℕ) (clauses : List (List Literal)) → variables ≤ 999999999 → length clauses ≤ 999999999 → AreOver variables clauses →
    IsCnfText (export_of horizon (record { variables = variables; clauses = clauses })) (record { variables = variables; clauses = clauses })
