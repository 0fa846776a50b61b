-- The transition system of a description.
use Rattle.std.specs.Prelude.{ℕ, ◌+◌, ◌*◌, ◌<◌, List, length, take, drop, zero, suc}
use Rattle.cc_defs.specs.Rows.{IsRow}
use Rattle.cc_defs.specs.Theories.{IsModel}
use Rattle.cc_defs.specs.Description.{Description, sizes_at, stride}
use Rattle.cc_defs.specs.Rules.{rules_at}

abbrev pub IsState : Description → List ℕ → Type 0
IsState d row = IsModel (sizes_at d 0) (rules_at d 0) row

abbrev pub IsTransition : Description → List ℕ → Type 0
IsTransition d row = IsModel (sizes_at d 1) (rules_at d 1) row

-- the part of a row from the fluents of a step to the fluents of the next
abbrev pub window : Description → List ℕ → ℕ → List ℕ
window d row step = take (length d.universe.fluents + stride d) (drop (step * stride d) row)

-- a path: a state, or transitions with common ends
abbrev pub IsPath : Description → ℕ → List ℕ → Type 0
IsPath d zero row = IsState d row
IsPath d (suc n) row = IsRow (sizes_at d (suc n)) row × ((step : ℕ) → step < suc n → IsTransition d (window d row step))
