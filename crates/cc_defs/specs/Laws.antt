-- The laws that make listings trustworthy.
use Rattle.std.specs.Prelude.{◌≡◌, ℕ, ◌<◌, ◌%◌, List, ◌++◌, length, slice_get, Option, Some, None, Contains, option_map}
use Rattle.cc_defs.specs.Conditions.{IsSignatureOfDescription}
use Rattle.cc_defs.specs.Rows.{IsBelow}
use Rattle.cc_defs.specs.Description.{Description, sizes_at}
use Rattle.cc_defs.specs.Resolved.{Query}
use Rattle.cc_defs.specs.Histories.{IsListing, AreFirst}
use Rattle.cc_defs.specs.Signatures.{Signature, ground_constants, position_count}

-- a query has one listing at a horizon
abbrev pub OneListing : Type 0
OneListing = (d : Description) (q : Query) (horizon : ℕ) (key : Option (List ℕ)) (one other : List (List ℕ)) →
    IsListing d q horizon key one → IsListing d q horizon key other → one ≡ other

-- the first histories are a front of the listing
abbrev pub FirstAreFront : Type 0
FirstAreFront = (d : Description) (q : Query) (horizon : ℕ) (key : Option (List ℕ)) (rows all : List (List ℕ)) →
    AreFirst d q horizon key rows → IsListing d q horizon key all → (rest : List (List ℕ)) × (all ≡ rows ++ rest)

-- A listing splits at a key: it is its rows up to the key, and then the listing after the key.
abbrev pub SplitsAtKey : Type 0
SplitsAtKey = (d : Description) (q : Query) (horizon : ℕ) (key : List ℕ) (all later : List (List ℕ)) →
    IsListing d q horizon None all → IsListing d q horizon (Some key) later →
    (earlier : List (List ℕ)) × (all ≡ earlier ++ later) × ((row : List ℕ) → Contains earlier row → IsBelow key row → ⊥)

-- The positions of a horizon are as many as its domain sizes, and each has the size of the constant that stands there.
abbrev pub PositionsHaveSizes : Type 0
PositionsHaveSizes = (d : Description) (signature : Signature) → IsSignatureOfDescription d signature → (horizon : ℕ) →
    (length (sizes_at d horizon) ≡ position_count signature horizon)
    × ((position : ℕ) → position < position_count signature horizon →
    slice_get (sizes_at d horizon) position ≡
    option_map (λ constant. length constant.domain) (slice_get (ground_constants signature) (position % length (ground_constants signature))))
