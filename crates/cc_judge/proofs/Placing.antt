-- The section that comes next, by a query and by its description.
use Rattle.std.proofs.Common.{◌≡◌, ◌∙◌, ℕ, ◌≤◌, Bool, not, ◌&&◌, List, Option, Some, None, Bor, refl, sym, subst, ap, arith}
use Rattle.std.specs.Prelude.{IfSome, is_some, option_map, unwrap_or}
use Rattle.cc_arena.specs.declared.ground_laws.GroundLaw.{GroundLaw}
use Rattle.cc_defs.specs.declared.lists.Key.{Key}
use Rattle.cc_defs.specs.Description.{Description}
use Rattle.cc_defs.specs.GroundLaws.{PlainGroundQuery, StandsForQuery, ground_condition}
use Rattle.cc_defs.specs.Logs.{SectionText, Standing, IsNext}
use Rattle.cc_defs.specs.Resolved.{Condition, Query}
use Rattle.cc_defs.specs.Runs.{first_horizon, last_horizon}
use Rattle.cc_defs.specs.Signatures.{Signature}
use Rattle.cc_form.specs.Forms.{TellsHistories, asked, form_of}
use Rattle.cc_form.specs.Queries.{IsQueryAt}
use Rattle.cc_lists.specs.Horizons.{Fits, first_at, last_at}
use Rattle.cc_lists.specs.Subjects.{subject_of}
use Rattle.cc_theory.specs.Theories.{AreLawsOf}
use Rattle.cc_judge.specs.Standings.{Scope, IsPlaced, row_of, scope_of}

-- ---- a query that stands for one of a description

module _ (query : PlainGroundQuery) (d : Description) (q : Query) (stands : StandsForQuery query d q) where
  lows : query.lo ≡ (unwrap_or q.range (1, 0)).0
  lows = ap (λ (p : PlainGroundQuery). p.lo) stands.2 ∙ sym (ap (λ (r : Option (ℕ × ℕ)). (unwrap_or r (1, 0)).0) stands.1)

  highs : query.hi ≡ (unwrap_or q.range (1, 0)).1
  highs = ap (λ (p : PlainGroundQuery). p.hi) stands.2 ∙ sym (ap (λ (r : Option (ℕ × ℕ)). (unwrap_or r (1, 0)).1) stands.1)

  pub first_is : (key : Option Key) → first_at query key ≡ first_horizon q key
  first_is None = lows
  first_is (Some key) = refl

  pub last_is : (key : Option Key) → last_at query key ≡ last_horizon q key
  last_is None = highs
  last_is (Some key) = refl

  claimed : (claim : Option Condition) → is_some (option_map (ground_condition d.universe) claim) ≡ is_some claim
  claimed None = refl
  claimed (Some condition) = refl

  claim_is : is_some query.claim ≡ is_some q.claim
  claim_is = ap (λ (p : PlainGroundQuery). is_some p.claim) stands.2 ∙ claimed q.claim

  pub next_of : (key : Option Key) (standing : Standing) (section : SectionText) → IsPlaced query key standing section.conditions section.horizon →
      IsNext (subject_of d q key) standing section
  next_of key standing section placed = record {
    conditions = placed.0 ∙ ap (λ (b : Bool). b && not standing.middle) claim_is;
    horizon = placed.1;
    within = subst (λ (n : ℕ). standing.horizon ≤ n) (last_is key) placed.2;
  }

-- ---- the horizon of a section in its place is one of the query's, or the key's

pub within_range : (signature : Signature) (query : PlainGroundQuery) (after : Option Key) (horizon : ℕ) → IfSome after (Fits signature query) →
    first_at query after ≤ horizon → horizon ≤ last_at query after → (query.lo ≤ horizon) × (horizon ≤ query.hi)
within_range signature query None horizon key low most = (low, most)
within_range signature query (Some key) horizon fits low most = let least = fits.least in let last = fits.most in (omega arith, omega arith)

abbrev key_of : Option (Bor Key) → Option Key
key_of after = option_map (λ (key : Bor Key). key.now) after

lent : (P : Key → Type 0) (after : Option (Bor Key)) → IfSome after (λ (key : Bor Key). P key.now) → IfSome (key_of after) P
lent P None holds = tt
lent P (Some key) holds = holds

pub query_at : (signature : Signature) (query : PlainGroundQuery) (after : Option (Bor Key)) (standing : Standing) (conditions : Bool) (place horizon : ℕ) →
    ((h : ℕ) → query.lo ≤ h → h ≤ query.hi → IsQueryAt signature h query) → IfSome after (λ (key : Bor Key). Fits signature query key.now) →
    first_at query (key_of after) ≤ standing.horizon → IsPlaced query (key_of after) standing conditions place → horizon ≡ place → IsQueryAt signature horizon query
query_at signature query after standing conditions place horizon steps fits low placed is =
    let range = within_range signature query (key_of after) standing.horizon (lent (Fits signature query) after fits) low placed.2 in
    subst (λ (h : ℕ). IsQueryAt signature h query) (sym (is ∙ placed.1)) (steps standing.horizon range.0 range.1)

rows_of_keys : (after : Option (Bor Key)) → option_map (λ (key : Bor Key). key.now.row) after ≡ row_of (option_map (λ (key : Bor Key). key.now) after)
rows_of_keys None = refl
rows_of_keys (Some key) = refl

pub tells_rows : (d : Description) (q : Query) (horizon : ℕ) (with_claim : Bool) (after : Option (Bor Key)) →
    TellsHistories d (asked with_claim q) horizon (option_map (λ (key : Bor Key). key.now.row) after) (form_of d q horizon with_claim (option_map (λ (key : Bor Key). key.now) after)) →
    TellsHistories d (asked with_claim q) horizon (row_of (option_map (λ (key : Bor Key). key.now) after)) (form_of d q horizon with_claim (option_map (λ (key : Bor Key). key.now) after))
tells_rows d q horizon with_claim after tells =
    subst (λ (rows : Option (List ℕ)). TellsHistories d (asked with_claim q) horizon rows (form_of d q horizon with_claim (option_map (λ (key : Bor Key). key.now) after)))
    (rows_of_keys after) tells

-- ---- what a call may be for

-- a description and its query that stand for what a call was given
pub record Asked (signature : Signature) (laws : List GroundLaw) (query : PlainGroundQuery) : Type 0 where
  pub description : Description
  pub query_of : Query
  pub of : AreLawsOf signature laws description
  pub stands : StandsForQuery query description query_of

module _ (signature : Signature) (laws : List GroundLaw) (query : PlainGroundQuery) (key : Option Key) where
  abbrev pub scope_asked : Asked signature laws query → Scope
  scope_asked asked = scope_of asked.description asked.query_of key
