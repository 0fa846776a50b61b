-- The horizons of a query and of a key, which keys fit a query, and which limit refuses a section's clause list.
use Rattle.std.specs.Prelude.{ℕ, ◌≤◌, Bool, not, Option, Some, None, IsNone}
use Rattle.cc_defs.specs.declared.lists.Key.{Key}
use Rattle.cc_defs.specs.declared.refusal.Refusal.{Refusal}
use Rattle.cc_defs.specs.Description.{Description, sizes_at}
use Rattle.cc_defs.specs.GroundLaws.{PlainGroundQuery}
use Rattle.cc_defs.specs.Resolved.{Query}
use Rattle.cc_defs.specs.Rows.{IsRow}
use Rattle.cc_defs.specs.Runs.{Ask}
use Rattle.cc_defs.specs.Signatures.{Signature}
use Rattle.cc_form.specs.Forms.{section_refusal}
use Rattle.cc_form.specs.Places.{position_sizes}

-- the first horizon that is tried, and the last one
abbrev pub first_at : PlainGroundQuery → Option Key → ℕ
first_at query None = query.lo
first_at query (Some key) = key.horizon

abbrev pub last_at : PlainGroundQuery → Option Key → ℕ
last_at query None = query.hi
last_at query (Some key) = key.horizon

-- a key is a row of one of the query's horizons, and the query has no claim
pub record Fits (signature : Signature) (query : PlainGroundQuery) (key : Key) : Type 0 where
  pub least : query.lo ≤ key.horizon
  pub most : key.horizon ≤ query.hi
  pub claim : IsNone query.claim
  pub row : IsRow (position_sizes signature key.horizon) key.row

-- the same of a description with this signature
pub record FitsIn (d : Description) (query : PlainGroundQuery) (key : Key) : Type 0 where
  pub least : query.lo ≤ key.horizon
  pub most : key.horizon ≤ query.hi
  pub claim : IsNone query.claim
  pub row : IsRow (sizes_at d key.horizon) key.row

-- the first limit that the rules or the clause list of a section pass
abbrev pub refusal_at : Description → Query → ℕ → (with_claim : Bool) → Option Key → Option Refusal
refusal_at d q horizon with_claim key = section_refusal d q horizon with_claim key

abbrev pub opening_refusal : Description → Query → Ask → ℕ → (conditions : Bool) → Option Refusal
opening_refusal d q ask horizon conditions = refusal_at d q horizon (not conditions) ask.after
