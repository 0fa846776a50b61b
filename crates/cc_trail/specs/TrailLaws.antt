-- What adding a clause to a kernel does to a trail.
use Rattle.std.specs.Prelude.{◌≡◌, List, [], ◌∷◌, ◌++◌}
use Rattle.cc_defs.specs.Clauses.{Literal}
use Rattle.cc_kernel.specs.Kernels.{KernelView, clauses_of}
use Rattle.cc_trail.specs.Trails.{TrailView, Fits, IsSettled, KeepsSettled}

-- it keeps the fit
abbrev pub AddingKeepsFit : Type 0
AddingKeepsFit = (trail : TrailView) (old new : KernelView) (clause : List Literal) → new.variables ≡ old.variables →
    clauses_of new ≡ clauses_of old ++ clause ∷ [] → Fits trail old → Fits trail new

-- it keeps a trail settled where at each level below the last one the clause has a true literal or two without a value
abbrev pub AddingKeepsSettled : Type 0
AddingKeepsSettled = (trail : TrailView) (old new : KernelView) (clause : List Literal) →
    clauses_of new ≡ clauses_of old ++ clause ∷ [] → KeepsSettled trail.steps trail.level_count clause → IsSettled trail old → IsSettled trail new
