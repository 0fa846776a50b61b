-- The summary of a listing, by the events of its search.
use Rattle.std.specs.Prelude.{ℕ, List, [], ◌∷◌, ◌++◌, flat_map, length, None, unwrap_or, codes, decimal}
use Rattle.std.specs.List.{last_or}
use Rattle.cc_defs.specs.declared.event.Ending.{Ending}
use Rattle.cc_defs.specs.declared.event.Ending.TheVariants as endings
use Rattle.cc_defs.specs.declared.event.Event.{Event}
use Rattle.cc_defs.specs.declared.event.Event.TheVariants as events
use Rattle.cc_defs.specs.declared.event.Told.{Told}

-- ---- the parts of a listing

abbrev pub empty_told : Event → List ℕ
empty_told (events.NoHistory horizon) = horizon ∷ []
empty_told (events.Log line) = []
empty_told (events.History horizon number) = []
empty_told (events.NoConditions horizon) = []
empty_told (events.Holds horizon) = []
empty_told (events.Counterexample horizon) = []
empty_told (events.Ended ending) = []

-- the horizons without a history, in the order in which they were tried
abbrev pub empty_horizons : List Told → List ℕ
empty_horizons told = flat_map (λ one. empty_told one.event) told

abbrev pub ending_told : Event → List Ending
ending_told (events.Ended ending) = ending ∷ []
ending_told (events.Log line) = []
ending_told (events.NoHistory horizon) = []
ending_told (events.History horizon number) = []
ending_told (events.NoConditions horizon) = []
ending_told (events.Holds horizon) = []
ending_told (events.Counterexample horizon) = []

abbrev pub endings_told : List Told → List Ending
endings_told told = flat_map (λ one. ending_told one.event) told

-- ---- its summary

-- a line of a name and a number
abbrev pub number_line : List ℕ → ℕ → List ℕ
number_line name number = name ++ codes " " ++ decimal number ++ 10 ∷ []

abbrev pub ended_lines : ℕ → ℕ → List ℕ → List ℕ
ended_lines horizon listed word = number_line (codes "horizon") horizon ++ number_line (codes "histories") listed ++ codes "ending " ++ word ++ 10 ∷ []

-- The last horizon that was tried, how many histories were listed, and the ending. The number is the last horizon without
-- a history. A search that was asked for a number of histories, or for a claim, has none of these lines at its end.
abbrev pub ending_lines : ℕ → Ending → List ℕ
ending_lines empty (endings.Complete horizon listed) = ended_lines horizon listed (codes "complete")
ending_lines empty (endings.Spent horizon listed) = ended_lines horizon listed (codes "spent")
ending_lines empty endings.NoHistory = ended_lines empty 0 (codes "none")
ending_lines empty (endings.Asked horizon listed) = []
ending_lines empty endings.ClaimHolds = []
ending_lines empty endings.ClaimEmpty = []
ending_lines empty endings.ClaimFails = []

-- of the made text of a size
abbrev pub summary : ℕ → List Told → List ℕ
summary size told =
    number_line (codes "locks") size ++ number_line (codes "empty horizons") (length (empty_horizons told))
    ++ flat_map (ending_lines (unwrap_or (last_or None (empty_horizons told)) 0)) (endings_told told)
