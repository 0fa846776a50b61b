-- What makes clauses and resolution trustworthy, and which rows the clause that denies a row leaves.
use Rattle.std.specs.Prelude.{◌≡◌, ◌≢◌, ℕ, ◌↔◌, Bool, true, false, IsTrue, List}
use Rattle.cc_defs.specs.Clauses.{Literal, IsClause, IsIn, IsResolvent, meets}
use Rattle.cc_defs.specs.Rows.{IsRow}
use Rattle.cc_defs.specs.Sections.{row_denial}
use Rattle.cc_clauses.specs.RowsOf.{HasRow}

-- each assignment that meets both parents meets the resolvent
abbrev pub ResolventsAreSound : Type 0
ResolventsAreSound = (a b : List Literal) (pivot : ℕ) (r : List Literal) → IsResolvent a b pivot r →
    (assignment : ℕ → Bool) → IsTrue (meets assignment a) → IsTrue (meets assignment b) → IsTrue (meets assignment r)

-- two clauses have one resolvent on a variable
abbrev pub ResolventsAreUnique : Type 0
ResolventsAreUnique = (a b : List Literal) (pivot : ℕ) (one other : List Literal) → IsResolvent a b pivot one →
    IsResolvent a b pivot other → one ≡ other

-- two clauses with the same literals are one
abbrev pub SameLiteralsAreOneClause : Type 0
SameLiteralsAreOneClause = (one other : List Literal) → IsClause one → IsClause other →
    ((literal : Literal) → IsIn one literal ↔ IsIn other literal) → one ≡ other

-- an assignment with a row does not meet the clause that denies the row
abbrev pub DenialDenies : Type 0
DenialDenies = (sizes row : List ℕ) (assignment : ℕ → Bool) → IsRow sizes row → HasRow sizes assignment row → meets assignment (row_denial sizes row) ≡ false

-- one with another row meets it
abbrev pub DenialLeavesOthers : Type 0
DenialLeavesOthers = (sizes row other : List ℕ) (assignment : ℕ → Bool) → IsRow sizes row → IsRow sizes other → other ≢ row → HasRow sizes assignment other →
    meets assignment (row_denial sizes row) ≡ true
