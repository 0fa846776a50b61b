-- Each event of a session lowers what may still come.
use Rattle.std.proofs.Common.{◌≡◌, ◌∙◌, ℕ, ◌+◌, ◌<◌, ◌≤◌, cond, Bool, List, [], ◌∷◌, ◌++◌, Some, ap, arith}
use Rattle.std.specs.Prelude.{not}
use Rattle.std.proofs.lemmas.List.Sums.{sum_by-append}
use Rattle.cc_cdcl.specs.Solvers.{SolverView, AddsDerived}
use Rattle.cc_defs.specs.declared.log.EndWord.TheVariants as words
use Rattle.cc_defs.specs.Clauses.{Literal}
use Rattle.cc_kernel.specs.declared.kernel.Origin.TheVariants as origins
use Rattle.cc_kernel.specs.Kernels.{Entry, KernelView, added, derived_count, is_given}
use Rattle.cc_lists.specs.Horizons.{last_at}
use Rattle.cc_query.specs.declared.phase.Part.{Part}
use Rattle.cc_query.specs.declared.phase.Part.TheVariants as parts
use Rattle.cc_query.specs.declared.phase.Phase.{Phase}
use Rattle.cc_query.specs.declared.phase.Phase.TheVariants as phases
use Rattle.cc_query.specs.Lefts.{left_at, left_behind, left_of}
use Rattle.cc_query.specs.Sessions.{SessionView, opens_at}

-- at the same horizon
pub less_at : (s : SessionView) (row : List ℕ) (met : Bool) (old new : Phase) → s.phase ≡ old → left_at new < left_at old →
    left_of (record s { row = row; met = met; phase = new }) < left_of s
less_at s row met old new is low = let same : left_at s.phase ≡ left_at old = ap left_at is in omega arith

behind_low : (part : Part) → left_behind part ≤ 202000005
behind_low parts.Histories = omega arith
behind_low parts.Conditions = omega arith
behind_low parts.Claim = omega arith

-- the next horizon
pub less_next : (s : SessionView) (met : Bool) (part : Part) → s.horizon ≤ last_at s.query s.ask.after →
    0 < left_at s.phase → left_of (record s { horizon = s.horizon + 1; met = met; phase = phases.Opening part }) < left_of s
less_next s met part low some = let behind = behind_low part in omega arith

-- ---- within a section

count_more : (entries : List Entry) (entry : Entry) → derived_count (entries ++ entry ∷ []) ≡ derived_count entries + derived_count (entry ∷ [])
count_more entries entry = sum_by-append (λ (e : Entry). cond (not (is_given e)) 1 0) entries (entry ∷ [])

pub less_line : (part : Part) (old new : SolverView) (listed : ℕ) (clause : List Literal) → AddsDerived old.kernel new.kernel clause →
    derived_count new.kernel.entries ≤ 2000000 → left_at (phases.Searching part new listed) < left_at (phases.Searching part old listed)
less_line part old new listed clause adds most =
    let count : derived_count new.kernel.entries ≡ derived_count old.kernel.entries + 1 =
    ap (λ (l : List Entry). derived_count l) adds.entries ∙ count_more old.kernel.entries (record { clause = clause; origin = origins.Derived }) in omega arith

pub less_block : (old new : SolverView) (listed : ℕ) (clause : List Literal) → new.kernel ≡ added old.kernel clause origins.Block →
    left_at (phases.Searching parts.Histories new listed) < left_at (phases.Denying old listed)
less_block old new listed clause is =
    let count : derived_count new.kernel.entries ≡ derived_count old.kernel.entries + 0 =
    ap (λ (k : KernelView). derived_count k.entries) is ∙ count_more old.kernel.entries (record { clause = clause; origin = origins.Block }) in omega arith

pub less_history : (old new : SolverView) (listed : ℕ) → new.kernel ≡ old.kernel → listed + 1 ≤ 100000000 →
    left_at (phases.Denying new (listed + 1)) < left_at (phases.Searching parts.Histories old listed)
less_history old new listed same low =
    let count : derived_count new.kernel.entries ≡ derived_count old.kernel.entries = ap (λ (k : KernelView). derived_count k.entries) same in omega arith

-- ---- a section that begins

pub less_heading : (phase : Phase) (part : Part) (solver : SolverView) → opens_at phase ≡ Some part → left_at (phases.Searching part solver 0) < left_at phase
less_heading (phases.Opening other) part solver opens =
    let same : other ≡ part = cc in let behind : left_behind other ≡ left_behind part = ap left_behind same in omega arith
less_heading (phases.Closed parts.Conditions words.Found listed) part solver opens =
    let same : part ≡ parts.Claim = cc in let behind : left_behind part ≡ 0 = ap left_behind same in omega arith
less_heading (phases.Closed parts.Conditions words.Empty listed) part solver opens = absurd cc
less_heading (phases.Closed parts.Conditions words.Spent listed) part solver opens = absurd cc
less_heading (phases.Closed parts.Histories word listed) part solver opens = absurd cc
less_heading (phases.Closed parts.Claim word listed) part solver opens = absurd cc
less_heading (phases.Searching other old listed) part solver opens = absurd cc
less_heading (phases.Denying old listed) part solver opens = absurd cc
less_heading (phases.Refuted other listed) part solver opens = absurd cc
less_heading phases.Failing part solver opens = absurd cc
less_heading phases.Ended part solver opens = absurd cc
