-- Clause lists in the making: drafts, whose limits are looked at in the end, and lists that are always within them.
use Rattle.std.specs.Prelude.{◌≡◌, ℕ, ◌≤◌, ◌++◌, ◌↔◌, Bool, List, Option}
use Rattle.cc_defs.specs.Limits.{most_variables}
use Rattle.cc_defs.specs.declared.node.Node.{Node}
use Rattle.cc_defs.specs.declared.refusal.Refusal.{Refusal}
use Rattle.cc_defs.specs.ClauseForms.{written}
use Rattle.cc_defs.specs.ClauseLists.{Asserted}
use Rattle.cc_defs.specs.Clauses.{Literal, is_made_true}
use Rattle.cc_defs.specs.Sections.{Axioms}
use Rattle.cc_clauses.specs.RowsOf.{HasRow, IsRowOf, MeetsAll}
use Rattle.cc_clauses.specs.Tells.{IsOnce}
use Rattle.cc_form.specs.declared.writer.Writer.{Writer}
use Rattle.cc_form.specs.Forms.{IsAxioms, form_refusal}
use Rattle.cc_form.specs.Machine.{made_nodes}
use Rattle.cc_form.specs.Parts.{axioms_behind, first_clauses}
use Rattle.cc_form.specs.Store.{AreFew, Holds}

-- ---- drafts

-- The clauses behind those of positions are these, whether they are kept or only counted.
pub record IsDraft (sizes : List ℕ) (draft : Writer) (made : Asserted) : Type 0 where
  pub places : draft.places ≡ sizes
  pub ends : draft.last ≡ made.last
  pub within : made.last ≤ most_variables
  pub holds : Holds draft.store.kept (first_clauses sizes ++ made.clauses)
  pub axioms : IsAxioms (axioms_behind sizes made)

-- with the clauses of the nodes of a term behind the others
abbrev pub with_nodes : List ℕ → Asserted → List Node → Asserted
with_nodes sizes made term =
    let more = made_nodes sizes made.last term
    in record { last = more.last; clauses = made.clauses ++ more.clauses }

-- with a clause behind the others, as it is written
abbrev pub with_clause : Asserted → List Literal → Asserted
with_clause made literals = record { last = made.last; clauses = made.clauses ++ written literals }

-- ---- lists that are within their limits

-- all clauses are kept
pub record IsWhole (writer : Writer) : Type 0 where
  pub holds : Holds writer.store.kept writer.store.kept.arena
  pub few : AreFew writer.store.kept.arena
  pub within : writer.last ≤ most_variables
  pub axioms : IsAxioms (record { sizes = writer.places; variables = writer.last; clauses = writer.store.kept.arena })

-- the first limit that axioms pass
abbrev pub axioms_refusal : Axioms → Option Refusal
axioms_refusal axioms = form_refusal (record { variables = axioms.variables; clauses = axioms.clauses })

abbrev pub nodes_behind : Axioms → List Node → Axioms
nodes_behind axioms term =
    let more = made_nodes axioms.sizes axioms.variables term
    in record { sizes = axioms.sizes; variables = more.last; clauses = axioms.clauses ++ more.clauses }

abbrev pub clause_behind : Axioms → List Literal → Axioms
clause_behind axioms literals = record { sizes = axioms.sizes; variables = axioms.variables; clauses = axioms.clauses ++ written literals }

-- New axioms have the rows of the old ones, each of them once where it was so, and their literal is true in just those of these rows
-- of which this holds.
pub record Extends (old new : Axioms) (literal : Literal) (holds : List ℕ → Bool) : Type 0 where
  pub rows : (row : List ℕ) → IsRowOf new.sizes new.clauses row ↔ IsRowOf old.sizes old.clauses row
  pub once : (row : List ℕ) → IsOnce old row → IsOnce new row
  pub literal_is : (row : List ℕ) (a : ℕ → Bool) → HasRow new.sizes a row → MeetsAll a new.clauses → is_made_true a literal ≡ holds row
