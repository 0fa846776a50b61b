-- What the holder of a kernel sees of it.
use Rattle.std.specs.Prelude.{◌≡◌, ℕ, ◌+◌, ◌<◌, ◌≤◌, Bool, true, false, not, List, [], ◌∷◌, ◌++◌, length, map, filter, count_by, take, Option, Some, None, slice_get, IfSome}
use Rattle.cc_defs.specs.Clauses.{Literal, IsClause, IsOver, Follows, Reaches, Clash, IsResolvent, IsNumbered}
use Rattle.cc_kernel.specs.declared.kernel.Origin.{Origin}
use Rattle.cc_kernel.specs.declared.kernel.Origin.TheVariants as origins

-- a clause, and where it comes from
pub record Entry : Type 0 where
  pub clause : List Literal
  pub origin : Origin

-- the number of variables, the clauses in order, numbered from 1, the clause that is being derived, and its chain or
-- that of the last one that was finished
pub record KernelView : Type 0 where
  pub variables : ℕ
  pub entries : List Entry
  pub staged : Option (List Literal)
  pub chain : List ℕ

abbrev pub clauses_of : KernelView → List (List Literal)
clauses_of kernel = map (λ entry. entry.clause) kernel.entries

abbrev pub is_given_origin : Origin → Bool
is_given_origin origins.Axiom = true
is_given_origin origins.Block = true
is_given_origin origins.Derived = false

abbrev pub is_given : Entry → Bool
is_given entry = is_given_origin entry.origin

-- the axioms and blocks
abbrev pub given_of : List Entry → List (List Literal)
given_of entries = map (λ entry. entry.clause) (filter is_given entries)

-- how many clauses are derived
abbrev pub derived_count : List Entry → ℕ
derived_count entries = count_by (λ entry. not (is_given entry)) entries

abbrev pub IsThere : KernelView → ℕ → Type 0
IsThere kernel number = (0 < number) × (number ≤ length kernel.entries)

-- the kernel with one more clause
abbrev pub added : KernelView → List Literal → Origin → KernelView
added kernel clause origin = record kernel { entries = kernel.entries ++ (record { clause = clause; origin = origin }) ∷ [] }

abbrev pub axiom_of : List Literal → Entry
axiom_of clause = record { clause = clause; origin = origins.Axiom }

abbrev pub axioms_of : List (List Literal) → List Entry
axioms_of clauses = map axiom_of clauses

abbrev pub AreAxioms : List Entry → Type 0
AreAxioms [] = Unit {0}
AreAxioms (entry ∷ entries) = (entry.origin ≡ origins.Axiom) × AreAxioms entries

-- every clause is one over the variables
abbrev pub AreClauses : ℕ → List Entry → Type 0
AreClauses variables [] = Unit {0}
AreClauses variables (entry ∷ entries) = IsClause entry.clause × IsOver variables entry.clause × AreClauses variables entries

-- each derived clause follows from the axioms and blocks before it
abbrev pub DerivedFollow : List Entry → Type 0
DerivedFollow entries = (number : ℕ) → number < length entries →
    IfSome (slice_get entries number) (λ entry. entry.origin ≡ origins.Derived → Follows (given_of (take number entries)) entry.clause)

-- the staged clause is what its chain reaches, and a clause over the variables
abbrev pub StageIsReached : KernelView → Type 0
StageIsReached kernel = IfSome kernel.staged (λ clause. Reaches (clauses_of kernel) kernel.chain clause × IsClause clause × IsOver kernel.variables clause)

-- the kernel after a derivation has begun with the clause of a number
abbrev pub IsStarted : KernelView → KernelView → ℕ → Type 0
IsStarted old new number =
    (clause : List Literal) × IsNumbered (clauses_of old) number clause × (new ≡ record old { staged = Some clause; chain = number ∷ [] })

-- there is a staged clause, and it clashes with the clause of a number on a variable
abbrev pub ClashesWith : KernelView → ℕ → ℕ → Type 0
ClashesWith kernel pivot number =
    (staged : List Literal) × (other : List Literal) × (kernel.staged ≡ Some staged) × IsNumbered (clauses_of kernel) number other × Clash staged other pivot

-- the kernel after a step of resolution: the staged clause is a resolvent, and the chain names what it was resolved with
abbrev pub IsStepped : KernelView → KernelView → ℕ → ℕ → Type 0
IsStepped old new pivot number =
    (staged : List Literal) × (other : List Literal) × (r : List Literal) × (old.staged ≡ Some staged) × IsNumbered (clauses_of old) number other ×
    IsResolvent staged other pivot r × (new ≡ record old { staged = Some r; chain = old.chain ++ pivot ∷ number ∷ [] })

-- the kernel after a derivation has ended: the staged clause is one of its clauses
abbrev pub IsFinished : KernelView → KernelView → Type 0
IsFinished old new =
    (clause : List Literal) × (old.staged ≡ Some clause) × (new ≡ record (added old clause origins.Derived) { staged = None })

abbrev pub number_if_empty : List Literal → ℕ → Option ℕ → Option ℕ
number_if_empty [] number later = Some number
number_if_empty (literal ∷ literals) number later = later

-- the first number of an empty clause, from 1
abbrev pub first_empty : ℕ → List Entry → Option ℕ
first_empty number [] = None
first_empty number (entry ∷ entries) = number_if_empty entry.clause number (first_empty (number + 1) entries)

-- the first number of an empty clause, once one more clause has a number
abbrev pub empty_after : Option ℕ → List Literal → ℕ → Option ℕ
empty_after (Some first) clause number = Some first
empty_after None clause number = number_if_empty clause number None
