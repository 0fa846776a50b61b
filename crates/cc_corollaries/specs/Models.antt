-- What the answers of general mode mean: what is listed are models, by the definition of a model.
use Rattle.std.specs.Prelude.{◌≡◌, ◌≢◌, ◌≤◌, ◌<◌, ℕ, List, [], length, Some}
use Rattle.cc_corollaries.specs.Corollaries.{asked_text, listing_text}
use Rattle.cc_corollaries.specs.Ran.{AskedGenerally, IsTried}
use Rattle.cc_defs.specs.Histories.{AreAllOf, AreFirstOf}
use Rattle.cc_defs.specs.Resolved.{Query}
use Rattle.cc_defs.specs.Runs.{range_of}
use Rattle.cc_ports.specs.Contents.{Contents}
use Rattle.cc_tell.specs.declared.status.Status.TheVariants as statuses
use Rattle.cc_wide.specs.WideLaws.{WideDescription, frame}
use Rattle.cc_wide.specs.WideRules.{IsGeneral}

-- no model of this horizon meets the query
abbrev pub NoModel : WideDescription → Query → ℕ → Type 0
NoModel w q horizon = (row : List ℕ) → IsGeneral w q horizon row → ⊥

abbrev pub NoModelBelow : WideDescription → Query → ℕ → Type 0
NoModelBelow w q horizon = (other : ℕ) → (range_of q).0 ≤ other → other < horizon → NoModel w q other

-- Code 0: what is printed is all models of the theory of the first horizon that has one which meets the query, ascending, each once.
abbrev pub CompleteMeansAllModels : Type 0
CompleteMeansAllModels = (w : WideDescription) (q : Query) (after : Contents) → AskedGenerally w q statuses.Right after →
    (horizon : ℕ) × (rows : List (List ℕ)) × IsTried q horizon × NoModelBelow w q horizon × AreAllOf (IsGeneral w q horizon) rows × (rows ≢ [])
    × (after.out ≡ listing_text (frame w) q horizon rows)

-- As many were listed as were asked for: what is printed is the first so many.
abbrev pub AskedMeansTheFirstModels : Type 0
AskedMeansTheFirstModels = (w : WideDescription) (q : Query) (after : Contents) → (asked : AskedGenerally w q statuses.Asked after) →
    (horizon : ℕ) × (rows : List (List ℕ)) × IsTried q horizon × NoModelBelow w q horizon × AreFirstOf (IsGeneral w q horizon) rows
    × (asked.generally.count ≡ Some (length rows)) × (after.out ≡ asked_text (frame w) q horizon rows)

-- Code 1: no model of a horizon of the range meets the query.
abbrev pub NoHistoryMeansNoModel : Type 0
NoHistoryMeansNoModel = (w : WideDescription) (q : Query) (after : Contents) → AskedGenerally w q statuses.Not after →
    (horizon : ℕ) → IsTried q horizon → NoModel w q horizon
