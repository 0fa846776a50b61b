-- A query without a claim, and what is refused where it has one.
use Rattle.std.proofs.Common.{◌≡◌, ◌∙◌, refl, sym, ap, subst, Bool, true, false, cond, List, map, Option, Some, None, IfSome, inl, inr, option_map}
use Rattle.std.specs.Prelude.{IsNone, IsSome, is_some}
use Rattle.cc_arena.specs.GroundViews.{plain_ground_query}
use Rattle.cc_arena.specs.declared.ground_laws.GroundQuery.{GroundQuery}
use Rattle.cc_defs.specs.declared.refusal.Fault.{Fault}
use Rattle.cc_defs.specs.declared.refusal.Fault.TheVariants as faults
use Rattle.cc_defs.specs.declared.refusal.Refusal.{Refusal}
use Rattle.cc_defs.specs.Description.{Description}
use Rattle.cc_defs.specs.GroundLaws.{PlainGroundQuery, StandsForQuery}
use Rattle.cc_defs.specs.Resolved.{Query, plain_query}
use Rattle.cc_describe.specs.declared.description.Described.{Described}
use Rattle.cc_describe.specs.declared.heads.Heads.TheVariants as heads
use Rattle.cc_describe.specs.FirstRefusal.{file_named}
use Rattle.cc_describe.specs.Places.{Files}
use Rattle.cc_list.proofs.Described.{IsRead}
use Rattle.cc_ports.specs.Contents.{Contents}
use Rattle.cc_list.specs.Asking.{IsFaultNamed}
use Rattle.cc_run.specs.Modes.Surely.{NamesUnclaimed, RefusesClaimed, claim_refusal}
use Rattle.cc_run.specs.Sures.{IsClaimFault, IsUnclaimed, claimed_named}
use Rattle.cc_list.specs.Tasks.{AreRead, Named, asked_refusal, description_in, query_named}
use Rattle.cc_words.specs.Words.{Text}
use Rattle.cc_list.proofs.Outcomes.{known}

-- ---- the claim

pub mapped_none : {A B C : Type 0} (f : A → C) (g : B → C) (a : Option A) (b : Option B) → option_map f a ≡ option_map g b → IsNone b → IsNone a
mapped_none f g None b same none = refl
mapped_none f g (Some x) None same none = absurd cc
mapped_none f g (Some x) (Some y) same none = absurd cc

-- the ground query has none where its query has none
pub ground_unclaimed : (made : GroundQuery) (d : Description) (q : Query) → StandsForQuery (plain_ground_query made) d q → IsNone q.claim → IsNone made.claim
ground_unclaimed made d q stands none = mapped_none _ _ made.claim q.claim (ap (λ (p : PlainGroundQuery). p.claim) stands.2) none

unless_so : {X : Type 0} (b : Bool) (x : X) → cond b (Some x) None ≡ None → b ≡ false
unless_so true x is = absurd cc
unless_so false x is = refl

so_is : {X : Type 0} (b : Bool) (x y : X) → cond b (Some x) None ≡ Some y → (b ≡ true) × (y ≡ x)
so_is true x y is = (refl, cc)
so_is false x y is = absurd cc

-- what is found of the claim of the query that is named
module _ (named : Option Query) (q : Query) (is : named ≡ Some q) where
  pub none_claimed : claimed_named named ≡ None → IsNone q.claim
  none_claimed none = unless_so (is_some q.claim) (claim_refusal q) (sym (ap claimed_named is) ∙ none)

  pub some_claimed : (refusal : Refusal) → claimed_named named ≡ Some refusal → IsSome q.claim × (refusal ≡ claim_refusal q)
  some_claimed refusal some = so_is (is_some q.claim) (claim_refusal q) refusal (sym (ap claimed_named is) ∙ some)

-- ---- faults

module _ (d : Description) (queries : List Query) (label : Option Text) where
  -- without a key none is refused for its key
  pub unkeyed_fault : (fault : Fault) → IsFaultNamed d queries label None fault → IsClaimFault d queries label fault
  unkeyed_fault faults.OutOfMemory is = tt
  unkeyed_fault (faults.Refused refusal) (inl refused) = inl refused
  unkeyed_fault (faults.Refused refusal) (inr (q, named, unrefused, no_key, same)) = absurd no_key

  pub claim_fault : (q : Query) (refusal : Refusal) → query_named label queries ≡ Some q → asked_refusal d (Some q) ≡ None →
      claimed_named (query_named label queries) ≡ Some refusal → IsClaimFault d queries label (faults.Refused refusal)
  claim_fault q refusal is unrefused some =
      let claim = some_claimed (query_named label queries) q is refusal some in
      inr (q, is, unrefused, claim.0, claim.1)

-- ---- by the places of a description

module _ (o : Option Contents) (by : Named) (described : Described) (of : IsRead heads.Definite o (λ files. files) by.file described) where
  names_of : (files : Files) (q : Query) → AreRead files by.file of.places → IsUnclaimed (description_in of.places) (map plain_query described.queries) by.query q →
      NamesUnclaimed files by (description_in of.places) q
  names_of files q read is = record {
    places = of.places;
    read = read;
    description = refl;
    query = subst (λ (queries : List Query). query_named by.query queries ≡ Some q) of.said.queries is.query;
    unrefused = is.unrefused;
    claim = is.claim;
  }

  -- what is named has no claim
  pub names_unclaimed : (q : Query) → IsUnclaimed (description_in of.places) (map plain_query described.queries) by.query q →
      IfSome o (λ before. NamesUnclaimed before.files by (description_in of.places) q)
  names_unclaimed q is =
      known o (λ before. AreRead before.files by.file of.places) (λ before. NamesUnclaimed before.files by (description_in of.places) q)
      (λ before read. names_of before.files q read is) of.read

  refuses_of : (files : Files) (refusal : Refusal) (file : Text) → AreRead files by.file of.places → file ≡ file_named described.files refusal →
      IsClaimFault (description_in of.places) (map plain_query described.queries) by.query (faults.Refused refusal) → RefusesClaimed files by refusal file
  refuses_of files refusal file read name (inl refused) = inr (inl (record {
    places = of.places;
    read = read;
    refused = subst (λ (queries : List Query). asked_refusal (description_in of.places) (query_named by.query queries) ≡ Some refusal) of.said.queries refused;
    name = name ∙ ap (λ names. file_named names refusal) of.said.names;
  }))
  refuses_of files refusal file read name (inr (q, named, unrefused, claim, same)) = inr (inr (record {
    places = of.places;
    read = read;
    query = q;
    named_is = subst (λ (queries : List Query). query_named by.query queries ≡ Some q) of.said.queries named;
    unrefused = unrefused;
    claim = claim;
    refused = same;
    name = name ∙ ap (λ names. file_named names refusal) of.said.names;
  }))

  refuses_claimed : (refusal : Refusal) (file : Text) → file ≡ file_named described.files refusal →
      IsClaimFault (description_in of.places) (map plain_query described.queries) by.query (faults.Refused refusal) →
      IfSome o (λ before. RefusesClaimed before.files by refusal file)
  refuses_claimed refusal file name fault =
      known o (λ before. AreRead before.files by.file of.places) (λ before. RefusesClaimed before.files by refusal file)
      (λ before read. refuses_of before.files refusal file read name fault) of.read

  pub claim_refuses : (fault : Fault) → IsClaimFault (description_in of.places) (map plain_query described.queries) by.query fault → (refusal : Refusal) → fault ≡ faults.Refused refusal →
      IfSome o (λ before. RefusesClaimed before.files by refusal (file_named described.files refusal))
  claim_refuses fault is refusal same =
      refuses_claimed refusal (file_named described.files refusal) refl (subst (IsClaimFault (description_in of.places) (map plain_query described.queries) by.query) same is)
