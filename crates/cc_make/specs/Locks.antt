-- Made descriptions: locks in a row, of which each but the first is turned only where the one before it is unlocked.
use Rattle.std.specs.Prelude.{ℕ, zero, suc, ◌+◌, ◌-◌, List, [], ◌∷◌, ◌++◌, codes, decimal}

abbrev pub line : List ℕ → List ℕ
line text = text ++ 10 ∷ []

-- what is said of each of the locks 1 to this one, in order
abbrev pub of_each : (ℕ → List ℕ) → ℕ → List ℕ
of_each said zero = []
of_each said (suc number) = of_each said number ++ said (number + 1)

-- the name of the lock behind this one, in a list of names
abbrev pub name_behind : ℕ → List ℕ
name_behind number = codes ", k" ++ decimal (number + 1)

-- that one is turned only where this one is unlocked
abbrev pub law_behind : ℕ → List ℕ
law_behind number = line (codes "nonexecutable turn(k" ++ decimal (number + 1) ++ codes ") if -unlocked(k" ++ decimal number ++ codes ").")

-- first all are locked, and in the end the last one is not
abbrev pub query_line : ℕ → List ℕ
query_line size = line (codes ":- query maxstep :: 0.." ++ decimal size ++ codes "; 0: [/\\L | -unlocked(L)]; maxstep: unlocked(k" ++ decimal size ++ codes ").")

-- the description of so many locks, at least one
abbrev pub made_text : ℕ → List ℕ
made_text size =
    line (codes ":- sorts lock.")
    ++ line (codes ":- objects k1" ++ of_each name_behind (size - 1) ++ codes " :: lock.")
    ++ line (codes ":- variables L :: lock.")
    ++ line (codes ":- constants unlocked(lock) :: inertialFluent; turn(lock) :: exogenousAction.")
    ++ line (codes "turn(L) causes unlocked(L).")
    ++ line (codes "nonexecutable turn(L) if unlocked(L).")
    ++ of_each law_behind (size - 1)
    ++ query_line size
