-- The corollaries, each from the run that a listing, or a run over every horizon, told.
use Rattle.std.proofs.Common.{◌≡◌, ◌≢◌, ◌∙◌, refl, ap, ℕ, ◌<◌, ◌≤◌, List, [], ◌∷◌, length, Option, Some, None, arith}
use Rattle.std.specs.Prelude.{IsNone, IsSome, is_some}
use Rattle.cc_corollaries.specs.Corollaries.{AskedMeansTheFirst, ClaimFailsMeansOneDoesNot, ClaimHoldsMeansAllMeetIt, CompleteMeansAll, ForeverFailsMeansOneDoesNot, ForeverFindsTheFirst, ForeverMeansAlways, ForeverMeansNoPlan, NoHistoryMeansNone, NoneBelow}
use Rattle.cc_corollaries.proofs.Ended.{IsFirstOf, listed_run, proved_run}
use Rattle.cc_corollaries.proofs.Nones.{asked_at, claim_met, complete_at, first_failure, here, none_below, none_meets, none_of_claim, none_of_claimless}
use Rattle.cc_corollaries.proofs.Printed.{listing_out}
use Rattle.cc_defs.specs.declared.event.Ending.TheVariants as endings
use Rattle.cc_defs.specs.Description.{Description}
use Rattle.cc_defs.specs.Histories.{AreFirst}
use Rattle.cc_defs.specs.Resolved.{Condition, Query}
use Rattle.cc_defs.specs.Runs.{Section, range_of}
use Rattle.cc_describe.specs.Places.{OneListOfPlaces}
use Rattle.cc_forever.specs.ForeverRuns.{ForeverEnding, Met, Proved, Spent, Unsettled}
use Rattle.cc_run.specs.Modes.Proving.{proving_status}
use Rattle.cc_tell.specs.declared.status.Status.TheVariants as statuses

-- ---- list mode

pub no_history : OneListOfPlaces → NoHistoryMeansNone
no_history one d q after no_claim listed horizon tried =
    let ran = listed_run one d q statuses.Not after tt listed in
    none_meets d q horizon no_claim (none_of_claimless d q listed.listing.count ran.budget ran.run ran.fair ran.ending ran.ends ran.status_is no_claim horizon tried)

pub claim_holds : OneListOfPlaces → ClaimHoldsMeansAllMeetIt
claim_holds one d q after claim listed horizon tried =
    let ran = listed_run one d q statuses.Right after tt listed in
    claim_met d q horizon (none_of_claim d q listed.listing.count ran.budget ran.run ran.fair ran.ending ran.ends ran.status_is claim horizon tried)

pub claim_fails : OneListOfPlaces → ClaimFailsMeansOneDoesNot
claim_fails one d q after claim listed =
    let ran = listed_run one d q statuses.Not after tt listed in
    let (tried, row, first) = first_failure d q listed.listing.count ran.budget ran.run ran.fair ran.ending ran.ends ran.status_is claim in
    (here d q listed.listing.count ran.budget ran.run ran.fair, row, tried, none_below d q listed.listing.count ran.budget ran.run ran.fair, first)

not_empty : (rows : List (List ℕ)) → 0 < length rows → rows ≢ []
not_empty rows some none = let few : length rows ≡ 0 = ap length none in omega arith

pub complete : OneListOfPlaces → CompleteMeansAll
complete one d q after no_claim listed =
    let ran = listed_run one d q statuses.Right after tt listed in
    let last = complete_at d q listed.listing.count ran.budget ran.run ran.fair ran.ending ran.ends ran.status_is no_claim in
    let section = last.ends.section in (
      here d q listed.listing.count ran.budget ran.run ran.fair,
      _,
      last.tried,
      none_below d q listed.listing.count ran.budget ran.run ran.fair,
      last.ends.listing,
      not_empty _ last.ends.some,
      ran.out_is ∙ listing_out d q listed.listing.count ran.budget no_claim ran.run ran.fair.done section (last.next_is ∙ ap Some last.ends.told_is)
          (endings.Complete _ _) (ran.ends ∙ ap Some last.ends.ending_is),
    )

pub first_so_many : OneListOfPlaces → AskedMeansTheFirst
first_so_many one d q after no_claim listed =
    let ran = listed_run one d q statuses.Asked after tt listed in
    let last = asked_at d q listed.listing.count ran.budget ran.run ran.fair ran.ending ran.ends ran.status_is in
    let section = last.ends.section in (
      here d q listed.listing.count ran.budget ran.run ran.fair,
      _,
      last.tried,
      none_below d q listed.listing.count ran.budget ran.run ran.fair,
      last.ends.first,
      last.ends.count_is,
      ran.out_is ∙ listing_out d q listed.listing.count ran.budget no_claim ran.run ran.fair.done section (last.next_is ∙ ap Some last.ends.told_is)
          (endings.Asked _ _) (ran.ends ∙ ap Some last.ends.ending_is),
    )

-- ---- forever mode

right_proved : {A : Type 0} (claim : Option Condition) (ending : ForeverEnding) → IsSome claim → statuses.Right ≡ proving_status (is_some claim) ending →
    ((section : Section) → ending ≡ Proved section → A) → A
right_proved None ending some code proved = absurd cc
right_proved (Some claim) (Proved section) some code proved = proved section refl
right_proved (Some claim) (Met row) some code proved = absurd cc
right_proved (Some claim) Unsettled some code proved = absurd cc
right_proved (Some claim) (Spent section) some code proved = absurd cc

not_proved : {A : Type 0} (claim : Option Condition) (ending : ForeverEnding) → IsNone claim → statuses.Not ≡ proving_status (is_some claim) ending →
    ((section : Section) → ending ≡ Proved section → A) → A
not_proved (Some claim) ending none code proved = absurd cc
not_proved None (Proved section) none code proved = proved section refl
not_proved None (Met row) none code proved = absurd cc
not_proved None Unsettled none code proved = absurd cc
not_proved None (Spent section) none code proved = absurd cc

right_met : {A : Type 0} (claim : Option Condition) (ending : ForeverEnding) → IsNone claim → statuses.Right ≡ proving_status (is_some claim) ending →
    ((row : List ℕ) → ending ≡ Met row → A) → A
right_met (Some claim) ending none code met = absurd cc
right_met None (Proved section) none code met = absurd cc
right_met None (Met row) none code met = met row refl
right_met None Unsettled none code met = absurd cc
right_met None (Spent section) none code met = absurd cc

not_met : {A : Type 0} (claim : Option Condition) (ending : ForeverEnding) → IsSome claim → statuses.Not ≡ proving_status (is_some claim) ending →
    ((row : List ℕ) → ending ≡ Met row → A) → A
not_met None ending some code met = absurd cc
not_met (Some claim) (Proved section) some code met = absurd cc
not_met (Some claim) (Met row) some code met = met row refl
not_met (Some claim) Unsettled some code met = absurd cc
not_met (Some claim) (Spent section) some code met = absurd cc

pub always : OneListOfPlaces → ForeverMeansAlways
always one d q after claim asked horizon least =
    let ran = proved_run one d q statuses.Right after tt asked in
    claim_met d q horizon (right_proved q.claim ran.ending claim ran.status_is ran.never horizon least)

pub no_plan : OneListOfPlaces → ForeverMeansNoPlan
no_plan one d q after no_claim asked horizon least =
    let ran = proved_run one d q statuses.Not after tt asked in
    none_meets d q horizon no_claim (not_proved q.claim ran.ending no_claim ran.status_is ran.never horizon least)

-- the first horizon that has a history, and its least one
found : (d : Description) (q : Query) (row : List ℕ) → IsFirstOf d q row →
    (horizon : ℕ) × (row : List ℕ) × ((range_of q).0 ≤ horizon) × NoneBelow d q horizon × AreFirst d q horizon None (row ∷ [])
found d q row is = (is.horizon, row, is.least, is.none, is.first)

pub finds_first : OneListOfPlaces → ForeverFindsTheFirst
finds_first one d q after no_claim asked =
    let ran = proved_run one d q statuses.Right after tt asked in
    right_met q.claim ran.ending no_claim ran.status_is (λ row met. found d q row (ran.first row met))

pub one_fails : OneListOfPlaces → ForeverFailsMeansOneDoesNot
one_fails one d q after claim asked =
    let ran = proved_run one d q statuses.Not after tt asked in
    not_met q.claim ran.ending claim ran.status_is (λ row met. found d q row (ran.first row met))
