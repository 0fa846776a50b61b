-- What the answer of a run means, in the words of paths alone. The words of the log are not needed to read it.
use Rattle.std.specs.Prelude.{◌≡◌, ◌≢◌, ◌+◌, ◌-◌, ◌<◌, ◌≤◌, ℕ, IsTrue, IsNone, IsSome, IfSome, List, [], ◌∷◌, ◌++◌, codes, decimal, flat_map, length, None, Some}
use Rattle.std.specs.List.{list_all}
use Rattle.cc_corollaries.specs.Ran.{AskedForEver, IsTried, Listed}
use Rattle.cc_defs.specs.Declarations.{upto}
use Rattle.cc_defs.specs.Description.{Description}
use Rattle.cc_defs.specs.Events.{of_horizon}
use Rattle.cc_defs.specs.Histories.{AreFirst, IsListing, condition_holds}
use Rattle.cc_defs.specs.Paths.{IsPath}
use Rattle.cc_defs.specs.Resolved.{Query}
use Rattle.cc_defs.specs.Runs.{HasNone, range_of}
use Rattle.cc_defs.specs.Texts.{history_text, key_line}
use Rattle.cc_ports.specs.Contents.{Contents}
use Rattle.cc_tell.specs.declared.status.Status.TheVariants as statuses

-- ---- what is said of a length

-- a path of this length that meets the conditions
abbrev pub MeetsThem : Description → Query → (horizon : ℕ) → (row : List ℕ) → Type 0
MeetsThem d q horizon row = IsPath d horizon row × IsTrue (list_all (condition_holds d horizon row) q.conditions)

abbrev pub NoneMeetsThem : Description → Query → ℕ → Type 0
NoneMeetsThem d q horizon = (row : List ℕ) → MeetsThem d q horizon row → ⊥

-- each of them meets the claim
abbrev pub AllMeetIt : Description → Query → ℕ → Type 0
AllMeetIt d q horizon = (row : List ℕ) → MeetsThem d q horizon row → IfSome q.claim (λ claim. IsTrue (condition_holds d horizon row claim))

-- ---- plans

-- no horizon of the range below this one has a history
abbrev pub NoneBelow : Description → Query → ℕ → Type 0
NoneBelow d q horizon = (other : ℕ) → (range_of q).0 ≤ other → other < horizon → HasNone d q other

-- Code 1 without a claim: no path of a length of the range meets the conditions.
abbrev pub NoHistoryMeansNone : Type 0
NoHistoryMeansNone = (d : Description) (q : Query) (after : Contents) → IsNone q.claim → Listed d q statuses.Not after →
    (horizon : ℕ) → IsTried q horizon → NoneMeetsThem d q horizon

-- the histories of a horizon, numbered from this number on, each with its key
abbrev pub numbered : Description → (horizon number : ℕ) → List (List ℕ) → List ℕ
numbered d horizon number [] = []
numbered d horizon number (row ∷ rows) =
    of_horizon horizon (codes "history " ++ decimal number) ++ history_text d horizon row ++ key_line horizon row ++ numbered d horizon (number + 1) rows

-- a line for each horizon of the range below this one
abbrev pub none_text : Query → (horizon : ℕ) → List ℕ
none_text q horizon = flat_map (λ step. of_horizon ((range_of q).0 + step) (codes "no history")) (upto (horizon - (range_of q).0))

-- what is printed of a whole listing: the horizons without a history, the histories of the next one, and that they are all
abbrev pub listing_text : Description → Query → (horizon : ℕ) → List (List ℕ) → List ℕ
listing_text d q horizon rows =
    none_text q horizon ++ numbered d horizon 1 rows ++ of_horizon horizon (codes "complete, " ++ decimal (length rows) ++ codes " listed")

-- Code 0 without a claim: what is printed is all histories of the first horizon that has one, ascending, each once.
abbrev pub CompleteMeansAll : Type 0
CompleteMeansAll = (d : Description) (q : Query) (after : Contents) → IsNone q.claim → Listed d q statuses.Right after →
    (horizon : ℕ) × (rows : List (List ℕ)) × IsTried q horizon × NoneBelow d q horizon × IsListing d q horizon None rows × (rows ≢ [])
    × (after.out ≡ listing_text d q horizon rows)

-- what is printed where as many were listed as were asked for
abbrev pub asked_text : Description → Query → (horizon : ℕ) → List (List ℕ) → List ℕ
asked_text d q horizon rows =
    none_text q horizon ++ numbered d horizon 1 rows ++ of_horizon horizon (codes "asked number reached, " ++ decimal (length rows) ++ codes " listed")

-- As many histories were listed as were asked for: what is printed is the first so many of the first horizon that has one.
abbrev pub AskedMeansTheFirst : Type 0
AskedMeansTheFirst = (d : Description) (q : Query) (after : Contents) → IsNone q.claim → (listed : Listed d q statuses.Asked after) →
    (horizon : ℕ) × (rows : List (List ℕ)) × IsTried q horizon × NoneBelow d q horizon × AreFirst d q horizon None rows
    × (listed.listing.count ≡ Some (length rows)) × (after.out ≡ asked_text d q horizon rows)

-- ---- claims

-- Code 0 with a claim: every path of a length of the range that meets the conditions meets the claim.
abbrev pub ClaimHoldsMeansAllMeetIt : Type 0
ClaimHoldsMeansAllMeetIt = (d : Description) (q : Query) (after : Contents) → IsSome q.claim → Listed d q statuses.Right after →
    (horizon : ℕ) → IsTried q horizon → AllMeetIt d q horizon

-- Code 1 with a claim: at the first horizon where some path meets the conditions and not the claim, the least such path is found.
abbrev pub ClaimFailsMeansOneDoesNot : Type 0
ClaimFailsMeansOneDoesNot = (d : Description) (q : Query) (after : Contents) → IsSome q.claim → Listed d q statuses.Not after →
    (horizon : ℕ) × (row : List ℕ) × IsTried q horizon × NoneBelow d q horizon × AreFirst d q horizon None (row ∷ [])

-- ---- every horizon

-- Forever mode, code 0 with a claim: every path that meets the conditions meets the claim, of whatever length from the least one on.
abbrev pub ForeverMeansAlways : Type 0
ForeverMeansAlways = (d : Description) (q : Query) (after : Contents) → IsSome q.claim → AskedForEver d q statuses.Right after →
    (horizon : ℕ) → (range_of q).0 ≤ horizon → AllMeetIt d q horizon

-- Forever mode, code 1 without a claim: no path meets the conditions, of whatever length from the least one on.
abbrev pub ForeverMeansNoPlan : Type 0
ForeverMeansNoPlan = (d : Description) (q : Query) (after : Contents) → IsNone q.claim → AskedForEver d q statuses.Not after →
    (horizon : ℕ) → (range_of q).0 ≤ horizon → NoneMeetsThem d q horizon

-- Forever mode, code 0 without a claim: there is a first horizon that has a history, and this is its least one.
abbrev pub ForeverFindsTheFirst : Type 0
ForeverFindsTheFirst = (d : Description) (q : Query) (after : Contents) → IsNone q.claim → AskedForEver d q statuses.Right after →
    (horizon : ℕ) × (row : List ℕ) × ((range_of q).0 ≤ horizon) × NoneBelow d q horizon × AreFirst d q horizon None (row ∷ [])

-- Forever mode, code 1 with a claim: there is a first horizon where some path meets the conditions and not the claim, and this is the least.
abbrev pub ForeverFailsMeansOneDoesNot : Type 0
ForeverFailsMeansOneDoesNot = (d : Description) (q : Query) (after : Contents) → IsSome q.claim → AskedForEver d q statuses.Not after →
    (horizon : ℕ) × (row : List ℕ) × ((range_of q).0 ≤ horizon) × NoneBelow d q horizon × AreFirst d q horizon None (row ∷ [])
