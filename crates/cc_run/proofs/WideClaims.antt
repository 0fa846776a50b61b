-- A query without a claim of a description whose laws may have heads of any form, and what is refused where it has one.
use Rattle.std.proofs.Common.{◌≡◌, ◌∙◌, refl, sym, ap, subst, ℕ, List, map, Option, Some, None, IfSome, Result, inl, inr, option_map}
use Rattle.std.specs.Prelude.{IfErr, IsErrAnd, IsNone}
use Rattle.std.specs.Option.{option_or}
use Rattle.cc_arena.specs.GroundViews.{plain_ground_query}
use Rattle.cc_arena.specs.declared.ground_laws.GroundQuery.{GroundQuery}
use Rattle.cc_list.specs.Descriptions.{IsDescriptionOf, IsWideDescriptionOf, description_of, ground_refusal_of, wide_description_of}
use Rattle.cc_defs.specs.declared.refusal.Fault.{Fault}
use Rattle.cc_defs.specs.declared.refusal.Fault.TheVariants as faults
use Rattle.cc_defs.specs.declared.refusal.Refusal.{Refusal}
use Rattle.cc_defs.specs.Description.{Description}
use Rattle.cc_defs.specs.GroundLaws.{PlainGroundQuery, StandsForQuery}
use Rattle.cc_defs.specs.Refusals.{IsRefusedBy}
use Rattle.cc_defs.specs.Resolved.{Query, plain_base_law, plain_query}
use Rattle.cc_defs.specs.Universe.{universe}
use Rattle.cc_describe.specs.declared.description.DescribedWide.{DescribedWide}
use Rattle.cc_describe.specs.declared.heads.Heads.TheVariants as heads
use Rattle.cc_describe.specs.Describing.{IsDescribedWide}
use Rattle.cc_describe.specs.FirstRefusal.{file_named}
use Rattle.cc_describe.specs.Places.{Files}
use Rattle.cc_laws.specs.Questions.{steps_refusal}
use Rattle.cc_list.proofs.Described.{IsReadBy}
use Rattle.cc_ports.specs.Contents.{Contents}
use Rattle.cc_run.specs.Generals.{IsWideFault, IsWideUnclaimed}
use Rattle.cc_run.specs.Modes.Generally.{NamesWide, RefusesGenerally, wide_asked_refusal, wide_in}
use Rattle.cc_run.specs.Sures.{claimed_named}
use Rattle.cc_list.specs.Tasks.{AreReadFor, Named, query_named, query_refusal}
use Rattle.cc_wide.specs.WideLaws.{WideDescription, frame, plain_wide_base}
use Rattle.cc_wide_ground.specs.WideGrounding.{wide_laws_refusal}
use Rattle.cc_words.specs.Words.{Text}
use Rattle.cc_run.proofs.Claims.{mapped_none, some_claimed}
use Rattle.cc_run.proofs.Exported.{handed_on}
use Rattle.cc_list.proofs.Outcomes.{known}

-- ---- the description without laws with heads of any form: a query of it is one of the frame

module _ (said : DescribedWide) (w : WideDescription) (is : IsWideDescriptionOf said w) where
  abbrev pub bare : Description
  bare = description_of is.declarations (map plain_base_law said.described.laws)

  pub bare_is : IsDescriptionOf said.described bare
  bare_is = record { declarations = is.declarations; table = is.table; signature = is.signature; is = refl }

  pub stands_framed : (made : PlainGroundQuery) (q : Query) → StandsForQuery made bare q → StandsForQuery made (frame w) q
  stands_framed made q stands = subst (λ (x : WideDescription). StandsForQuery made (frame x) q) (sym is.is) stands

  pub refusal_framed : (named : Option Query) → query_refusal bare named ≡ query_refusal (frame w) named
  refusal_framed named = subst (λ (x : WideDescription). query_refusal bare named ≡ query_refusal (frame x) named) (sym is.is) (same named)
    where
      nodes : (q : Query) (range : Option (ℕ × ℕ)) →
          ground_refusal_of bare q range ≡ ground_refusal_of (frame (wide_description_of is.declarations (map plain_wide_base said.wide))) q range
      nodes q None = refl
      nodes q (Some range) = refl

      same : (named : Option Query) → query_refusal bare named ≡ query_refusal (frame (wide_description_of is.declarations (map plain_wide_base said.wide))) named
      same None = refl
      same (Some q) = ap (λ r. option_or (steps_refusal (universe is.declarations).symbols q) r) (nodes q q.range)

-- ---- the claim

-- the ground query has none where its query has none
pub framed_unclaimed : (made : PlainGroundQuery) (w : WideDescription) (q : Query) → StandsForQuery made (frame w) q → IsNone q.claim → IsNone made.claim
framed_unclaimed made w q stands none = subst (λ (p : PlainGroundQuery). IsNone p.claim) (sym stands.2) (mapped _ q.claim none)
  where
    mapped : {A B : Type 0} (f : A → B) (a : Option A) → IsNone a → IsNone (option_map f a)
    mapped f None none = refl
    mapped f (Some x) none = absurd cc

pub made_unclaimed : (made : GroundQuery) → IsNone (plain_ground_query made).claim → IsNone made.claim
made_unclaimed made none = mapped_none _ (λ c. c) made.claim (plain_ground_query made).claim (mapped (plain_ground_query made).claim) none
  where
    mapped : {A : Type 0} (a : Option A) → a ≡ option_map (λ x. x) a
    mapped None = refl
    mapped (Some x) = refl

-- ---- faults

module _ (w : WideDescription) (queries : List Query) (label : Option Text) where
  abbrev named : Option Query
  named = query_named label queries

  pub laws_fault : {X : Type 0} (fault : Fault) (s : Result X Fault) → IsErrAnd s (λ e. e ≡ fault) → IsRefusedBy (wide_laws_refusal w.universe w.laws) fault →
      IfErr s (IsWideFault w queries label)
  laws_fault fault s err refused = handed_on (IsWideFault w queries label) fault s err (at fault refused)
    where
      at : (fault : Fault) → IsRefusedBy (wide_laws_refusal w.universe w.laws) fault → IsWideFault w queries label fault
      at faults.OutOfMemory is = tt
      at (faults.Refused refusal) is = inl (ap (λ r. option_or r (query_refusal (frame w) named)) is)

  pub query_fault : {X : Type 0} (fault : Fault) (s : Result X Fault) → IsErrAnd s (λ e. e ≡ fault) → wide_laws_refusal w.universe w.laws ≡ None →
      IsRefusedBy (query_refusal (frame w) named) fault → IfErr s (IsWideFault w queries label)
  query_fault fault s err none refused = handed_on (IsWideFault w queries label) fault s err (at fault refused)
    where
      at : (fault : Fault) → IsRefusedBy (query_refusal (frame w) named) fault → IsWideFault w queries label fault
      at faults.OutOfMemory is = tt
      at (faults.Refused refusal) is = inl (ap (λ r. option_or r (query_refusal (frame w) named)) none ∙ is)

  pub wide_unrefused : (q : Query) → wide_laws_refusal w.universe w.laws ≡ None → query_refusal (frame w) (Some q) ≡ None → wide_asked_refusal w (Some q) ≡ None
  wide_unrefused q none unrefused = ap (λ r. option_or r (query_refusal (frame w) (Some q))) none ∙ unrefused

  pub wide_claim_fault : (q : Query) (refusal : Refusal) → named ≡ Some q → wide_asked_refusal w (Some q) ≡ None → claimed_named named ≡ Some refusal →
      IsWideFault w queries label (faults.Refused refusal)
  wide_claim_fault q refusal is unrefused some =
      let claim = some_claimed named q is refusal some in
      inr (q, is, unrefused, claim.0, claim.1)

-- ---- by the places of a description

module _ (o : Option Contents) (by : Named) (said : DescribedWide) (of : IsReadBy heads.Any (IsDescribedWide heads.Any) o (λ files. files) by.file said) where
  -- what is named has no claim
  pub names_wide : (q : Query) → IsWideUnclaimed (wide_in of.places) (map plain_query said.described.queries) by.query q →
      IfSome o (λ before. NamesWide before.files by (wide_in of.places) q)
  names_wide q is =
      known o (λ before. AreReadFor heads.Any before.files by.file of.places) (λ before. NamesWide before.files by (wide_in of.places) q)
      (λ before read. record {
        places = of.places;
        read = read;
        description = refl;
        query = subst (λ (queries : List Query). query_named by.query queries ≡ Some q) of.said.described.queries is.query;
        unrefused = is.unrefused;
        claim = is.claim;
      }) of.read

  refuses_of : (files : Files) (refusal : Refusal) (file : Text) → AreReadFor heads.Any files by.file of.places → file ≡ file_named said.described.files refusal →
      IsWideFault (wide_in of.places) (map plain_query said.described.queries) by.query (faults.Refused refusal) → RefusesGenerally files by refusal file
  refuses_of files refusal file read name (inl refused) = inr (inl (record {
    places = of.places;
    read = read;
    refused = subst (λ (queries : List Query). wide_asked_refusal (wide_in of.places) (query_named by.query queries) ≡ Some refusal) of.said.described.queries refused;
    name = name ∙ ap (λ names. file_named names refusal) of.said.described.names;
  }))
  refuses_of files refusal file read name (inr (q, named, unrefused, claim, same)) = inr (inr (record {
    places = of.places;
    read = read;
    query = q;
    named_is = subst (λ (queries : List Query). query_named by.query queries ≡ Some q) of.said.described.queries named;
    unrefused = unrefused;
    claim = claim;
    refused = same;
    name = name ∙ ap (λ names. file_named names refusal) of.said.described.names;
  }))

  refuses_generally : (refusal : Refusal) (file : Text) → file ≡ file_named said.described.files refusal →
      IsWideFault (wide_in of.places) (map plain_query said.described.queries) by.query (faults.Refused refusal) →
      IfSome o (λ before. RefusesGenerally before.files by refusal file)
  refuses_generally refusal file name fault =
      known o (λ before. AreReadFor heads.Any before.files by.file of.places) (λ before. RefusesGenerally before.files by refusal file)
      (λ before read. refuses_of before.files refusal file read name fault) of.read

  pub wide_claim_refuses : (fault : Fault) → IsWideFault (wide_in of.places) (map plain_query said.described.queries) by.query fault → (refusal : Refusal) → fault ≡ faults.Refused refusal →
      IfSome o (λ before. RefusesGenerally before.files by refusal (file_named said.described.files refusal))
  wide_claim_refuses fault is refusal same =
      refuses_generally refusal (file_named said.described.files refusal) refl (subst (IsWideFault (wide_in of.places) (map plain_query said.described.queries) by.query) same is)
