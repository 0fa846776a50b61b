-- How the parts of a kernel make what its holder sees, and what is always true of them.
use Rattle.std.specs.Prelude.{◌≡◌, ℕ, ◌≤◌, ◌-◌, zero, suc, List, [], ◌∷◌, length, Option, Some, None, if◌then◌else◌}
use Rattle.cc_defs.specs.Clauses.{Literal}
use Rattle.cc_defs.specs.Limits.{most_variables}
use Rattle.cc_kernel.specs.Kernels.{KernelView, Entry, axiom_of, AreClauses, DerivedFollow, StageIsReached, first_empty}
use Rattle.cc_kernel.specs.declared.kernel.Origin.{Origin}
use Rattle.cc_kernel.specs.declared.kernel.Origin.TheVariants as origins
use Rattle.cc_kernel.specs.declared.kernel.Later.{Later}
use Rattle.cc_kernel.specs.declared.kernel.Later.TheVariants as laters
use Rattle.cc_kernel.specs.declared.kernel.Kernel.TheInside.{Inside}

abbrev pub origin_of : Later → Origin
origin_of laters.Block = origins.Block
origin_of laters.Derived = origins.Derived

-- so many axioms, and behind them clauses that come from where the list says
abbrev pub entries_from : List (List Literal) → ℕ → List Later → List Entry
entries_from [] axioms later = []
entries_from (clause ∷ clauses) (suc axioms) later = axiom_of clause ∷ entries_from clauses axioms later
entries_from (clause ∷ clauses) zero (first ∷ later) = (record { clause = clause; origin = origin_of first }) ∷ entries_from clauses zero later
entries_from (clause ∷ clauses) zero [] = axiom_of clause ∷ entries_from clauses zero []

-- what the list says nothing of are axioms
abbrev pub entries_of : List (List Literal) → List Later → List Entry
entries_of clauses later = entries_from clauses (length clauses - length later) later

abbrev pub view_of : Inside → KernelView
view_of kernel = record {
  variables = kernel.variables;
  entries = entries_of kernel.clauses kernel.later.items;
  staged = if kernel.is_staged then Some kernel.stage else None;
  chain = kernel.chain.items;
}

-- what is true of each kernel as its holder sees it, and of the number that it keeps for its first empty clause
pub record IsSound (kernel : KernelView) (empty : Option ℕ) : Type 0 where
  pub variables_few : kernel.variables ≤ most_variables
  pub entries_few : length kernel.entries ≤ 4000000000
  pub clauses : AreClauses kernel.variables kernel.entries
  pub derived : DerivedFollow kernel.entries
  pub reached : StageIsReached kernel
  pub first : empty ≡ first_empty 1 kernel.entries

pub record IsKernel (kernel : Inside) : Type 0 where
  pub later_few : length kernel.later.items ≤ length kernel.clauses
  pub sound : IsSound (view_of kernel) kernel.empty
