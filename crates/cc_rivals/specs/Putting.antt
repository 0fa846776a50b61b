-- What is put into drafts of the clause lists, one behind another.
use Rattle.std.specs.Prelude.{◌≡◌, ℕ, if◌then◌else◌, List, [], ◌∷◌, Option, Some, None, Result, IfErr, OnOk}
use Rattle.cc_defs.specs.declared.refusal.Fault.{Fault}
use Rattle.cc_defs.specs.ClauseForms.{made_of, true_variable}
use Rattle.cc_defs.specs.ClauseLists.{Asserted, asserted}
use Rattle.cc_defs.specs.Clauses.{opposite}
use Rattle.cc_defs.specs.Terms.{Ground}
use Rattle.cc_form.specs.declared.writer.Writer.{Writer}
use Rattle.cc_form.specs.Drafts.{IsDraft}
use Rattle.cc_form.specs.Machine.{IsPast}
use Rattle.cc_form.specs.Parts.{joined_parts}
use Rattle.cc_wide.specs.WideLists.{WideTimed, implied, test_holds}

-- the clauses of a term
abbrev pub with_term : List ℕ → Asserted → Ground → Asserted
with_term sizes made formula =
    let told = made_of sizes made.last formula
    in joined_parts made (record { last = told.last; clauses = told.clauses })

-- and that it is true, or that it is not
abbrev pub put_term : List ℕ → Asserted → Ground → Asserted
put_term sizes made formula = let told = made_of sizes made.last formula in joined_parts made (asserted told told.literal)

abbrev pub put_denied : List ℕ → Asserted → Ground → Asserted
put_denied sizes made formula = let told = made_of sizes made.last formula in joined_parts made (asserted told (opposite told.literal))

abbrev pub put_terms : List ℕ → Asserted → List Ground → Asserted
put_terms sizes made [] = made
put_terms sizes made (formula ∷ formulas) = put_terms sizes (put_term sizes made formula) formulas

abbrev pub put_claim : List ℕ → Asserted → Option Ground → Asserted
put_claim sizes made None = made
put_claim sizes made (Some formula) = put_denied sizes made formula

-- What a rule puts there: without a row, that its head is true where its parts are; for a row, that its head is, where the row
-- meets its parts.
abbrev pub put_rule : Option (List ℕ) → List ℕ → Asserted → WideTimed → Asserted
put_rule None sizes made rule = joined_parts made (implied sizes made.last rule)
put_rule (Some row) sizes made rule = if test_holds row rule then put_term sizes made rule.head else made

abbrev pub put_rules : Option (List ℕ) → List ℕ → Asserted → List WideTimed → Asserted
put_rules row sizes made [] = made
put_rules row sizes made (rule ∷ rules) = put_rules row sizes (put_rule row sizes made rule) rules

-- the clauses of positions alone
abbrev pub nothing_put : List ℕ → Asserted
nothing_put sizes = record { last = true_variable sizes; clauses = [] }

-- A draft has more behind what it had, or the last variable is past its limit then.
pub record Puts (old new : Writer) (result : Result (Unit {0}) Fault) (more : List ℕ → Asserted → Asserted) : Type 0 where
  pub places : OnOk result (new.places ≡ old.places)
  pub draft : (sizes : List ℕ) (made : Asserted) → IsDraft sizes old made → OnOk result (IsDraft sizes new (more sizes made))
  pub refused : (sizes : List ℕ) (made : Asserted) → IsDraft sizes old made → IfErr result (IsPast (more sizes made).last)
