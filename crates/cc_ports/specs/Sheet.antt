-- An output in memory.
use Rattle.std.specs.Prelude.{ℕ, List}

-- what was written, and how many bytes there is room for
pub record Sheet : Type 0 where
  pub bytes : List ℕ
  pub room : ℕ
