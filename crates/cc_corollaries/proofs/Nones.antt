-- Which horizons have no history, by what a fair run told of them and by how it ended.
use Rattle.std.proofs.Common.{◌≡◌, refl, sym, subst, ℕ, ◌+◌, ◌<◌, ◌≤◌, Bool, true, false, List, [], ◌∷◌, length, Option, Some, None, inl, inr, arith}
use Rattle.std.specs.Prelude.{◌⊎◌, Contains, IfSome, IsFalse, IsNone, IsSome, IsTrue}
use Rattle.std.proofs.lemmas.Bool.{cases_lt}
use Rattle.cc_corollaries.specs.Corollaries.{AllMeetIt, NoneBelow, NoneMeetsThem}
use Rattle.cc_corollaries.specs.Ran.{IsTried}
use Rattle.cc_corollaries.proofs.Ended.{all_within}
use Rattle.cc_defs.specs.declared.event.Ending.{Ending}
use Rattle.cc_defs.specs.declared.event.Ending.TheVariants as endings
use Rattle.cc_defs.specs.Description.{Description}
use Rattle.cc_defs.specs.Histories.{AreFirst, IsListing, condition_holds}
use Rattle.cc_defs.specs.Resolved.{Condition, Query}
use Rattle.cc_defs.specs.Runs.{Ask, AreDone, Claim, Conditions, Failure, HasNone, Histories, Horizon, IsExhausted, IsFairRun, IsTrueOf, MayEnd, MayEndBehind, MayEndWithin, Run, Section, horizon_at, range_of, rows_of, without_claim}
use Rattle.cc_tell.specs.declared.status.Status.TheVariants as statuses
use Rattle.cc_tell.specs.Statuses.{status_of}

-- ---- claims

pub clash : {A B : Type 0} (claim : Option A) → IsNone claim → IsSome claim → B
clash None none some = absurd cc
clash (Some x) none some = absurd cc

-- where no path meets the conditions, none meets them and fails the claim
none_of_conditions : (d : Description) (q : Query) (horizon : ℕ) → HasNone d (without_claim q) horizon → HasNone d q horizon
none_of_conditions d q horizon none = record {
  ascending = none.ascending;
  members = λ row. (
    λ (k, below, is). absurd (omega arith),
    λ history. (none.members row).1 (record {
      path = history.path;
      meets = record { conditions = history.meets.conditions; claim = tt };
      after = history.after;
    }),
  );
}

true_unless : (b : Bool) → (IsFalse b → ⊥) → IsTrue b
true_unless true not_false = refl
true_unless false not_false = absurd (not_false refl)

claim_unless : (holds : Condition → Bool) (claim : Option Condition) → (IfSome claim (λ claim. IsFalse (holds claim)) → ⊥) → IfSome claim (λ claim. IsTrue (holds claim))
claim_unless holds None fails = tt
claim_unless holds (Some claim) fails = true_unless (holds claim) fails

pub in_none : (row : List ℕ) → Contains [] row → ⊥
in_none row (k, below, is) = omega arith

-- where a horizon has no history, each path that meets the conditions meets the claim
pub claim_met : (d : Description) (q : Query) (horizon : ℕ) → HasNone d q horizon → AllMeetIt d q horizon
claim_met d q horizon none row (path, conditions) = claim_unless (condition_holds d horizon row) q.claim
    (λ fails. in_none row ((none.members row).1 (record { path = path; meets = record { conditions = conditions; claim = fails }; after = tt })))

pub unclaimed : (P : Condition → Type 0) (claim : Option Condition) → IsNone claim → IfSome claim P
unclaimed P None none = tt
unclaimed P (Some claim) none = absurd cc

-- and where there is no claim, no path meets the conditions
pub none_meets : (d : Description) (q : Query) (horizon : ℕ) → IsNone q.claim → HasNone d q horizon → NoneMeetsThem d q horizon
none_meets d q horizon no_claim none row (path, conditions) = in_none row ((none.members row).1 (record {
  path = path;
  meets = record { conditions = conditions; claim = unclaimed (λ claim. IsFalse (condition_holds d horizon row claim)) q.claim no_claim };
  after = tt;
}))

-- ---- horizons that are done with

module _ (d : Description) (q : Query) (count : Option ℕ) (budget : ℕ) where
  abbrev ask : Ask
  ask = all_within count budget

  none_of : (horizon : ℕ) (told : Horizon) → IsTrueOf d q ask horizon told → IsExhausted ask told → HasNone d q horizon
  none_of horizon (Histories section) (no_claim, tells) (empty, none, no_key) = subst (IsListing d q horizon None) none (tells.all_told empty)
  none_of horizon (Conditions section) (claim, looks) empty = none_of_conditions d q horizon (looks.none empty)
  none_of horizon (Claim conditions section) (claim, looked, found, looks) empty = looks.none empty
  none_of horizon (Failure conditions section row) is exhausted = absurd exhausted

  none_done : (first : ℕ) (done : List Horizon) → AreDone d q ask first done → (horizon : ℕ) → first ≤ horizon → horizon < first + length done → HasNone d q horizon
  none_done first [] are horizon least below = absurd (omega arith)
  none_done first (told ∷ others) (is, exhausted, are) horizon least below = elim (cases_lt first horizon) [
    | inl later ↦ none_done (first + 1) others are horizon (omega arith) (omega arith)
    | inr here ↦ subst (HasNone d q) (let e : first ≡ horizon = omega arith in e) (none_of first told is exhausted)
  ]

  -- ---- how a run ends within a horizon

  -- with code 1: a path meets the conditions and not the claim
  pub fails_within : (horizon : ℕ) (told : Horizon) (ending : Ending) → MayEndWithin ask horizon told ending → statuses.Not ≡ status_of ending →
      IsTrueOf d q ask horizon told → IsSome q.claim × (row : List ℕ) × AreFirst d q horizon None (row ∷ [])
  fails_within horizon told (endings.Complete at listed) may code is = absurd cc
  fails_within horizon told (endings.Asked at listed) may code is = absurd cc
  fails_within horizon told (endings.Spent at listed) may code is = absurd cc
  fails_within horizon told endings.ClaimHolds may code is = absurd cc
  fails_within horizon told endings.ClaimEmpty may code is = absurd cc
  fails_within horizon (Histories section) endings.NoHistory may code is = absurd may
  fails_within horizon (Conditions section) endings.NoHistory may code is = absurd may
  fails_within horizon (Claim conditions section) endings.NoHistory may code is = absurd may
  fails_within horizon (Failure conditions section row) endings.NoHistory may code is = absurd may
  fails_within horizon (Histories section) endings.ClaimFails may code is = absurd may
  fails_within horizon (Conditions section) endings.ClaimFails may code is = absurd may
  fails_within horizon (Claim conditions section) endings.ClaimFails may code is = absurd may
  fails_within horizon (Failure conditions section row) endings.ClaimFails may code (claim, looked, found, looks, some, first) = (claim, row, first)

  -- with code 0: its histories were listed
  pub record EndsComplete (horizon : ℕ) (told : Horizon) (ending : Ending) : Type 0 where
    pub no_claim : IsNone q.claim
    pub section : Section
    pub told_is : told ≡ Histories section
    pub ending_is : ending ≡ endings.Complete horizon (length (rows_of section))
    pub some : 0 < length (rows_of section)
    pub listing : IsListing d q horizon None (rows_of section)

  pub completes_within : (horizon : ℕ) (told : Horizon) (ending : Ending) → MayEndWithin ask horizon told ending → statuses.Right ≡ status_of ending →
      IsTrueOf d q ask horizon told → EndsComplete horizon told ending
  completes_within horizon told (endings.Asked at listed) may code is = absurd cc
  completes_within horizon told (endings.Spent at listed) may code is = absurd cc
  completes_within horizon told endings.NoHistory may code is = absurd cc
  completes_within horizon told endings.ClaimFails may code is = absurd cc
  completes_within horizon (Histories section) (endings.Complete at listed) (same, all, empty, some) code (no_claim, tells) = record {
    no_claim = no_claim;
    section = section;
    told_is = refl;
    ending_is = λ i. endings.Complete (same i) (all i);
    some = elim some [ inl more ↦ more | inr key ↦ absurd cc ];
    listing = tells.all_told empty;
  }
  completes_within horizon (Conditions section) (endings.Complete at listed) may code is = absurd may
  completes_within horizon (Claim conditions section) (endings.Complete at listed) may code is = absurd may
  completes_within horizon (Failure conditions section row) (endings.Complete at listed) may code is = absurd may
  completes_within horizon (Histories section) endings.ClaimHolds may code is = absurd may
  completes_within horizon (Conditions section) endings.ClaimHolds may code is = absurd may
  completes_within horizon (Claim conditions section) endings.ClaimHolds may code is = absurd may
  completes_within horizon (Failure conditions section row) endings.ClaimHolds may code is = absurd may
  completes_within horizon (Histories section) endings.ClaimEmpty may code is = absurd may
  completes_within horizon (Conditions section) endings.ClaimEmpty may code is = absurd may
  completes_within horizon (Claim conditions section) endings.ClaimEmpty may code is = absurd may
  completes_within horizon (Failure conditions section row) endings.ClaimEmpty may code is = absurd may

  -- with as many as were asked for: its first so many histories were listed
  pub record EndsAsked (horizon : ℕ) (told : Horizon) (ending : Ending) : Type 0 where
    pub section : Section
    pub told_is : told ≡ Histories section
    pub ending_is : ending ≡ endings.Asked horizon (length (rows_of section))
    pub first : AreFirst d q horizon None (rows_of section)
    pub count_is : count ≡ Some (length (rows_of section))

  is_asked : (ending : Ending) → statuses.Asked ≡ status_of ending → (at listed : ℕ) × (ending ≡ endings.Asked at listed)
  is_asked (endings.Complete at listed) code = absurd cc
  is_asked (endings.Asked at listed) code = (at, listed, refl)
  is_asked (endings.Spent at listed) code = absurd cc
  is_asked endings.NoHistory code = absurd cc
  is_asked endings.ClaimHolds code = absurd cc
  is_asked endings.ClaimEmpty code = absurd cc
  is_asked endings.ClaimFails code = absurd cc

  asked_within : (horizon : ℕ) (told : Horizon) (at listed : ℕ) → MayEndWithin ask horizon told (endings.Asked at listed) → IsTrueOf d q ask horizon told →
      EndsAsked horizon told (endings.Asked at listed)
  asked_within horizon (Histories section) at listed (same, all, found) (no_claim, tells) = record {
    section = section;
    told_is = refl;
    ending_is = λ i. endings.Asked (same i) (all i);
    first = tells.first;
    count_is = tells.enough found;
  }
  asked_within horizon (Conditions section) at listed may is = absurd may
  asked_within horizon (Claim conditions section) at listed may is = absurd may
  asked_within horizon (Failure conditions section row) at listed may is = absurd may

  -- ---- how it ends behind the last one

  fails_behind : (done : List Horizon) (ending : Ending) → MayEndBehind q ask done ending → statuses.Not ≡ status_of ending → IsNone q.claim
  fails_behind done (endings.Complete at listed) may code = absurd may
  fails_behind done (endings.Asked at listed) may code = absurd may
  fails_behind done (endings.Spent at listed) may code = absurd may
  fails_behind done endings.NoHistory may code = may.0
  fails_behind done endings.ClaimHolds may code = absurd cc
  fails_behind done endings.ClaimEmpty may code = absurd cc
  fails_behind done endings.ClaimFails may code = absurd may

  holds_behind : (done : List Horizon) (ending : Ending) → MayEndBehind q ask done ending → statuses.Right ≡ status_of ending → IsSome q.claim
  holds_behind done (endings.Complete at listed) may code = absurd may
  holds_behind done (endings.Asked at listed) may code = absurd may
  holds_behind done (endings.Spent at listed) may code = absurd may
  holds_behind done endings.NoHistory may code = absurd cc
  holds_behind done endings.ClaimHolds may code = may.0
  holds_behind done endings.ClaimEmpty may code = may.0
  holds_behind done endings.ClaimFails may code = absurd may

  -- ---- whole runs

  module _ (run : Run) (fair : IsFairRun d q ask run) where
    abbrev pub here : ℕ
    here = horizon_at (range_of q).0 run

    pub none_below : NoneBelow d q here
    none_below other least below = none_done (range_of q).0 run.done fair.done other least below

    -- a run that is behind the last horizon
    none_tried : here ≡ (range_of q).1 + 1 → (horizon : ℕ) → IsTried q horizon → HasNone d q horizon
    none_tried behind horizon (least, most) = none_below horizon least (let e : here ≡ (range_of q).1 + 1 = behind in omega arith)

    abbrev IsNext : Option Horizon → Type 0
    IsNext next = IfSome next (λ next. (here ≤ (range_of q).1) × IsTrueOf d q ask here next)

    -- within the range
    tried_here : here ≤ (range_of q).1 → IsTried q here
    tried_here most = (omega arith, most)

    -- with code 1: it is behind the last horizon of a query without a claim, or some path meets the conditions and not the claim
    fails_at : (ending : Ending) → statuses.Not ≡ status_of ending → (next : Option Horizon) → MayEnd q ask here run next ending → IsNext next →
        (IsNone q.claim × (here ≡ (range_of q).1 + 1)) ⊎ (IsSome q.claim × IsTried q here × (row : List ℕ) × AreFirst d q here None (row ∷ []))
    fails_at ending code None (behind, may) is = inl (fails_behind run.done ending may code, behind)
    fails_at ending code (Some told) may (most, is) =
        let (claim, row, first) = fails_within here told ending may code is in
        inr (claim, tried_here most, row, first)

    -- it is within a horizon of the range, where it ends so
    pub record EndsHere (Ends : ℕ → Horizon → Ending → Type 0) (ending : Ending) (next : Option Horizon) : Type 0 where
      pub told : Horizon
      pub next_is : next ≡ Some told
      pub tried : IsTried q here
      pub ends : Ends here told ending

    -- with code 0: it is behind the last horizon of a query with a claim, or the histories of this horizon are listed
    holds_at : (ending : Ending) → statuses.Right ≡ status_of ending → (next : Option Horizon) → MayEnd q ask here run next ending → IsNext next →
        (IsSome q.claim × (here ≡ (range_of q).1 + 1)) ⊎ EndsHere EndsComplete ending next
    holds_at ending code None (behind, may) is = inl (holds_behind run.done ending may code, behind)
    holds_at ending code (Some told) may (most, is) = inr (record { told = told; next_is = refl; tried = tried_here most; ends = completes_within here told ending may code is })

    asked_here : (at listed : ℕ) (next : Option Horizon) → MayEnd q ask here run next (endings.Asked at listed) → IsNext next → EndsHere EndsAsked (endings.Asked at listed) next
    asked_here at listed None (behind, may) is = absurd may
    asked_here at listed (Some told) may (most, is) = record { told = told; next_is = refl; tried = tried_here most; ends = asked_within here told at listed may is }

    module _ (ending : Ending) (ends : run.ending ≡ Some ending) where
      may_end : MayEnd q ask here run run.next ending
      may_end = subst (λ (o : Option Ending). IfSome o (MayEnd q ask here run run.next)) ends fair.ending

      pub none_of_claimless : statuses.Not ≡ status_of ending → IsNone q.claim → (horizon : ℕ) → IsTried q horizon → HasNone d q horizon
      none_of_claimless code no_claim = elim (fails_at ending code run.next may_end fair.next) [
        | inl (none, behind) ↦ none_tried behind
        | inr (claim, tried, row, first) ↦ clash q.claim no_claim claim
      ]

      pub first_failure : statuses.Not ≡ status_of ending → IsSome q.claim → IsTried q here × (row : List ℕ) × AreFirst d q here None (row ∷ [])
      first_failure code claim = elim (fails_at ending code run.next may_end fair.next) [
        | inl (none, behind) ↦ clash q.claim none claim
        | inr (some, tried, row, first) ↦ (tried, row, first)
      ]

      pub none_of_claim : statuses.Right ≡ status_of ending → IsSome q.claim → (horizon : ℕ) → IsTried q horizon → HasNone d q horizon
      none_of_claim code claim = elim (holds_at ending code run.next may_end fair.next) [
        | inl (some, behind) ↦ none_tried behind
        | inr complete ↦ clash q.claim complete.ends.no_claim claim
      ]

      pub complete_at : statuses.Right ≡ status_of ending → IsNone q.claim → EndsHere EndsComplete ending run.next
      complete_at code no_claim = elim (holds_at ending code run.next may_end fair.next) [
        | inl (claim, behind) ↦ clash q.claim no_claim claim
        | inr complete ↦ complete
      ]

      pub asked_at : statuses.Asked ≡ status_of ending → EndsHere EndsAsked ending run.next
      asked_at code =
          let (at, listed, asked) = is_asked ending code in
          subst (λ (ending : Ending). EndsHere EndsAsked ending run.next) (sym asked)
          (asked_here at listed run.next (subst (MayEnd q ask here run run.next) asked may_end) fair.next)
