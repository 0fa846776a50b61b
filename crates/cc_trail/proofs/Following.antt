-- A visit of what stands beside the literal that a step made false: it is made true.
use Rattle.std.proofs.Common.{◌≡◌, ◌∙◌, ℕ, ◌+◌, ◌<◌, ◌≤◌, suc, inl, inr, List, length, take, get_or, Some, refl, sym, subst, ap, arith}
use Rattle.std.specs.Prelude.{All, Contains, slice_get}
use Rattle.std.proofs.lemmas.List.{take_all}
use Rattle.std.proofs.lemmas.List.Elements.{All-weaker, All-contains_itself}
use Rattle.std.proofs.lemmas.Option.{slice_get_read, slice_get_within}
use Rattle.cc_defs.specs.Clauses.{Literal, opposite, IsIn}
use Rattle.cc_kernel.specs.Kernels.{KernelView, clauses_of}
use Rattle.cc_trail.specs.declared.entries.Step.{Step}
use Rattle.cc_trail.specs.declared.pairs.Other.{Other}
use Rattle.cc_trail.specs.Pairs.{PairsView, beside, IsPair, ArePaired, AreFollowed}
use Rattle.cc_trail.specs.Steps.{EntriesView}
use Rattle.cc_trail.specs.Watches.{IsTrueBy, IsFalseBy, HasReason}
use Rattle.cc_trail.specs.Trails.{IsFailedClause}
use Rattle.cc_trail.specs.Visits.{IsFalseBut, AreSound, AreGrown}
use Rattle.cc_trail.proofs.StepLists.{in_take}
use Rattle.cc_trail.proofs.Adding.{get_append}
use Rattle.cc_trail.proofs.Growing.{opposite_twice, grown_none, grown_then, grown_in, grown_but, followed_grown}
use Rattle.cc_trail.proofs.Visiting.{in_get, take_next, numbered_in, reason_then, true_to, failed_then}

-- the first so many of these are true, at a level not above that of the step at a place
pub record IsFollowing (kernel : KernelView) (items : List Other) (index place : ℕ) (old entries : EntriesView) : Type 0 where
  pub sound : AreSound kernel entries
  pub grown : AreGrown old entries
  pub done : (step : Step) → slice_get old.steps place ≡ Some step → (other : Other) → IsIn (take index items) other → IsTrueBy entries.steps other.lit step.level

pub following_begins : (kernel : KernelView) (items : List Other) (place : ℕ) (old : EntriesView) → AreSound kernel old → IsFollowing kernel items 0 place old old
following_begins kernel items place old sound = record {
  sound = sound;
  grown = grown_none old;
  done = λ step here other none. elim none [ ];
}

true_grown : (old new : EntriesView) → AreGrown old new → (literal : Literal) (level : ℕ) → IsTrueBy old.steps literal level → IsTrueBy new.steps literal level
true_grown old new grown literal level (step, here, is, low) = (step, grown_in old new grown step here, is, low)

pub item_in : (items : List Other) (index : ℕ) (other : Other) → index < length items → other ≡ get_or items index other → IsIn items other
item_in items index other low is = in_take (suc index) items other (in_get items index other (slice_get_read items (length items) index other refl low is))

module _ (kernel : KernelView) (pairs : PairsView) (place : ℕ) (step : Step) (old : EntriesView) (here : slice_get old.steps place ≡ Some step)
    (items : List Other) (items_are : items ≡ beside pairs (opposite step.lit)) (index : ℕ) (entries : EntriesView)
    (following : IsFollowing kernel items index place old entries) where
  same_here : (s : Step) → slice_get old.steps place ≡ Some s → step ≡ s
  same_here s s_here = some_same (sym here ∙ s_here)
    where
      some_same : Some step ≡ Some s → step ≡ s
      some_same e = cc

  step_in : IsIn entries.steps step
  step_in = grown_in old entries following.grown step (in_take (suc place) old.steps step (in_get old.steps place step here))

  -- the next one is made true

  module _ (paired : ArePaired (clauses_of kernel) pairs) (other : Other) (low : index < length items) (other_is : other ≡ get_or items index other)
      (new : EntriesView) (grown : AreGrown entries new)
      (makes : HasReason (clauses_of kernel) entries.steps other.lit other.number → AreSound kernel entries → AreSound kernel new) where
    pair : IsPair (clauses_of kernel) other.number (opposite step.lit) other.lit
    pair = paired (opposite step.lit) other (subst (λ (xs : List Other). IsIn xs other) items_are (item_in items index other low other_is))

    false_but : (literal : Literal) → Contains (pair.0) literal → IsFalseBut entries.steps other.lit step.level literal
    false_but literal there = elim (pair.4 literal there) [
      | inl is ↦ inr (step, step_in, sym (opposite_twice step.lit) ∙ ap opposite (sym is), omega arith)
      | inr is ↦ inl is
    ]

    others : All (IsFalseBut entries.steps other.lit step.level) (pair.0)
    others = All-weaker (Contains (pair.0)) (IsFalseBut entries.steps other.lit step.level) false_but (pair.0) (All-contains_itself (pair.0))

    among : Contains (clauses_of kernel) (pair.0)
    among = numbered_in (clauses_of kernel) other.number (pair.0) (pair.1)

    pub sound_then : AreSound kernel new
    sound_then = makes (reason_then kernel entries following.sound (pair.0) among other.lit (pair.3) step.level others other.number (pair.1)) following.sound

    others_then : All (IsFalseBut new.steps other.lit step.level) (pair.0)
    others_then = grown_but entries new grown other.lit step.level (pair.0) others

    pub failed_here : IsFalseBy new.steps other.lit → IsFailedClause (clauses_of kernel) new.steps other.number
    failed_here false_is = failed_then kernel new sound_then (pair.0) among other.lit (pair.3) step.level others_then other.number (pair.1) false_is

    pub following_on : IsTrueBy new.steps other.lit new.level_count → IsFollowing kernel items (index + 1) place old new
    following_on true_is = record {
      sound = sound_then;
      grown = grown_then old entries new following.grown grown;
      done = λ s s_here one one_in.
          let next : index + 1 ≡ suc index = omega arith in
          elim (take_next index items other one (slice_get_read items (length items) index other refl low other_is) (subst (λ (n : ℕ). IsIn (take n items) one) next one_in)) [
            | inl before ↦ true_grown entries new grown one.lit s.level (following.done s s_here one before)
            | inr same ↦
                subst (λ (o : Other). IsTrueBy new.steps o.lit s.level) same
                (subst (λ (t : Step). IsTrueBy new.steps other.lit t.level) (same_here s s_here)
                (true_to kernel new sound_then (pair.0) among other.lit (pair.3) step.level others_then true_is))
          ];
    }

  -- all are true

  module _ (followed : AreFollowed pairs (take place old.steps) old.steps) where
    place_low : place ≤ length old.steps
    place_low = let within = slice_get_within old.steps place step here in omega arith

    still_here : slice_get entries.steps place ≡ Some step
    still_here = subst (λ (steps : List Step). slice_get steps place ≡ Some step) (sym following.grown.steps) (get_append old.steps following.grown.more place step here)

    before : AreFollowed pairs (take place entries.steps) entries.steps
    before = followed_grown pairs place old entries following.grown place_low followed

    pub followed_next : length items ≤ index → AreFollowed pairs (take (place + 1) entries.steps) entries.steps
    followed_next past literal other there s s_in is =
        let next : place + 1 ≡ suc place = omega arith in
        elim (take_next place entries.steps step s still_here (subst (λ (n : ℕ). IsIn (take n entries.steps) s) next s_in)) [
          | inl sooner ↦ before literal other there s sooner is
          | inr same ↦
              let literal_is : literal ≡ opposite step.lit = sym (opposite_twice literal) ∙ ap opposite (sym is) ∙ ap (λ (t : Step). opposite t.lit) (sym same) in
              let member = subst (λ (xs : List Other). IsIn xs other) (sym items_are) (subst (λ (l : Literal). IsIn (beside pairs l) other) literal_is there) in
              subst (λ (t : Step). IsTrueBy entries.steps other.lit t.level) same
              (following.done step here other (subst (λ (xs : List Other). IsIn xs other) (sym (take_all index items past)) member))
        ]
