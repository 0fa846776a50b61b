-- Objects by number, and the number that each is, where it is one.
use Rattle.std.specs.Prelude.{◌≡◌, ℕ, ◌==◌, List, [], ◌∷◌, ◌++◌, if◌then◌else◌, length, position, Option, Some, None}
use Rattle.std.specs.Map.{lookup}
use Rattle.cc_defs.specs.DeclarationFaults.{is_that}
use Rattle.cc_sorts.specs.Tables.{Numbered}

pub record ObjectsView : Type 0 where
  pub named : List Numbered
  pub numbers : List (Option ℕ)

abbrev pub no_objects : ObjectsView
no_objects = record { named = []; numbers = [] }

abbrev pub more_objects : ObjectsView → List ℕ → ℕ → Option ℕ → ObjectsView
more_objects objects name sort number = record { named = objects.named ++ (name, sort) ∷ []; numbers = objects.numbers ++ number ∷ [] }

-- the object of each number is found
abbrev pub AreFound : List (Option ℕ) → List (ℕ × ℕ) → Type 0
AreFound numbers places = (number object : ℕ) → position (is_that number) numbers ≡ Some object → lookup (λ key. number == key) places ≡ Some object

pub record AreObjects (named : List Numbered) (numbers : List (Option ℕ)) (places : List (ℕ × ℕ)) : Type 0 where
  pub as_many : length numbers ≡ length named
  pub found : AreFound numbers places

-- the object, if it is this number
abbrev pub checked_at : ℕ → ℕ → Option (Option ℕ) → Option ℕ
checked_at number object None = None
checked_at number object (Some other) = if is_that number other then Some object else None
