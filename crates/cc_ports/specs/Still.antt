-- A desk that never fails, as its callers see it.
use Rattle.std.specs.Prelude.{ℕ, List, Bool}

-- the files, what is left of the file being read, and whether a log was begun
pub record Still : Type 0 where
  pub files : List (List ℕ × List ℕ)
  pub rest : List ℕ
  pub begun : Bool
