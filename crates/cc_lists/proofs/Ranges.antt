-- The horizons of a query, by its ground form and by the query that it stands for.
use Rattle.std.proofs.Common.{◌≡◌, ◌∙◌, ℕ, ◌≤◌, Option, Some, None, refl, sym, ap, arith}
use Rattle.std.specs.Prelude.{IfSome, unwrap_or}
use Rattle.cc_defs.specs.declared.lists.Key.{Key}
use Rattle.cc_defs.specs.Description.{Description}
use Rattle.cc_defs.specs.GroundLaws.{PlainGroundQuery, StandsForQuery}
use Rattle.cc_defs.specs.Resolved.{Query}
use Rattle.cc_defs.specs.Runs.{first_horizon, last_horizon, range_of}
use Rattle.cc_defs.specs.Signatures.{Signature}
use Rattle.cc_lists.specs.Horizons.{Fits, first_at, last_at}

range_is_of : (d : Description) (q : Query) (query : PlainGroundQuery) → StandsForQuery query d q → (query.lo ≡ (range_of q).0) × (query.hi ≡ (range_of q).1)
range_is_of d q query (range, range_is, is) = (
  ap (λ (made : PlainGroundQuery). made.lo) is ∙ sym (ap (λ (r : Option (ℕ × ℕ)). (unwrap_or r (1, 0)).0) range_is),
  ap (λ (made : PlainGroundQuery). made.hi) is ∙ sym (ap (λ (r : Option (ℕ × ℕ)). (unwrap_or r (1, 0)).1) range_is),
)

pub first_is : (d : Description) (q : Query) (query : PlainGroundQuery) (after : Option Key) → StandsForQuery query d q → first_at query after ≡ first_horizon q after
first_is d q query None stands = (range_is_of d q query stands).0
first_is d q query (Some key) stands = refl

pub last_is : (d : Description) (q : Query) (query : PlainGroundQuery) (after : Option Key) → StandsForQuery query d q → last_at query after ≡ last_horizon q after
last_is d q query None stands = (range_is_of d q query stands).1
last_is d q query (Some key) stands = refl

pub within_range : (signature : Signature) (query : PlainGroundQuery) (after : Option Key) (horizon : ℕ) → IfSome after (Fits signature query) →
    first_at query after ≤ horizon → horizon ≤ last_at query after → (query.lo ≤ horizon) × (horizon ≤ query.hi)
within_range signature query None horizon key low most = (low, most)
within_range signature query (Some key) horizon fits low most = let least = fits.least in let last = fits.most in (omega arith, omega arith)

pub last_low : (signature : Signature) (query : PlainGroundQuery) (after : Option Key) → query.hi ≤ 1000 → IfSome after (Fits signature query) → last_at query after ≤ 1000
last_low signature query None most fits = most
last_low signature query (Some key) most fits = let within = fits.most in omega arith
