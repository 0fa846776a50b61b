-- Descriptions of actions and change: what a text declares, and where the values of constants stand in a row.
use Rattle.std.specs.Prelude.{ℕ, ◌+◌, ◌*◌, List, length, map, ◌++◌, zero, suc, slice_index}
use Rattle.cc_defs.specs.declared.signature.Const.{Const}
use Rattle.cc_defs.specs.Resolved.{BaseLaw}
use Rattle.cc_defs.specs.Universe.{Universe}

pub record Description : Type 0 where
  -- the names of the objects by number, `false` first and `true` second
  pub objects : List (List ℕ)
  pub universe : Universe
  pub laws : List BaseLaw

-- how many positions lie between a constant at a step and the same constant at the next
abbrev pub stride : Description → ℕ
stride d = length d.universe.fluents + length d.universe.actions

abbrev pub domain_sizes : List Const → List ℕ
domain_sizes constants = map (λ constant. length constant.domain) constants

-- the domain sizes of the positions of a horizon
abbrev pub sizes_at : Description → ℕ → List ℕ
sizes_at d zero = domain_sizes d.universe.fluents
sizes_at d (suc horizon) = domain_sizes d.universe.fluents ++ domain_sizes d.universe.actions ++ sizes_at d horizon

-- what a row gives each ground constant at a step
abbrev pub values_at : Description → List ℕ → ℕ → ℕ → ℕ
values_at d row step number = slice_index row (step * stride d + number)
