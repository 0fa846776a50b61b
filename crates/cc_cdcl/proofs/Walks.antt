-- The walk back over a trail, place by place: what holds of the clause at each front, and of the clause at its end.
use Rattle.std.proofs.Common.{◌≡◌, ◌≢◌, ◌∙◌, ℕ, ◌<◌, zero, suc, inl, inr, List, [], ◌∷◌, ◌++◌, length, map, take, drop, get_or, Option, Some, None, refl, sym, subst, ap, arith}
use Rattle.std.specs.Prelude.{◌⊎◌, Contains}
use Rattle.cc_defs.specs.Assignments.{IsFailed}
use Rattle.cc_defs.specs.Clauses.{Literal, opposite, Clash, IsIn, IsResolvent}
use Rattle.cc_trail.specs.declared.entries.Step.{Step}
use Rattle.cc_trail.specs.EntryParts.{literal_of_step}
use Rattle.cc_trail.specs.Steps.{AreApart, AreSteps, values_of}
use Rattle.cc_trail.specs.Trails.{IsSettledOver}
use Rattle.cc_trail.specs.Watches.{AreReasoned, HasReason, IsFalseBy}
use Rattle.cc_cdcl.specs.Analysis.{AreFalseBy, HasOneOf, HasTwoOf, IsLearned, IsWalking, MayResolve, OpenLevels, highest_but, level_count_in}
use Rattle.cc_cdcl.proofs.Counts.{learned_from, up_to_last}
use Rattle.cc_cdcl.proofs.Learning.{two_of_last}
use Rattle.cc_cdcl.proofs.Levels.{failed_false, false_failed}
use Rattle.cc_cdcl.proofs.Resolving.{behind_front, has_reason, no_decision, one_left}
use Rattle.cc_cdcl.proofs.Walking.{passed, reasoned_at, resolved}

-- ---- the step at a place

pub record IsPlace (steps : List Step) (place : ℕ) (last : Step) : Type 0 where
  pub split : steps ≡ take place steps ++ last ∷ drop (suc place) steps
  pub front : take (suc place) steps ≡ take place steps ++ last ∷ []
  pub literal : (d : Literal) → get_or (map literal_of_step steps) place d ≡ last.lit

pub step_at : (steps : List Step) (place : ℕ) → place < length steps → (last : Step) × IsPlace steps place last
step_at [] place low = absurd (omega arith)
step_at (first ∷ steps) zero low = (first, record { split = refl; front = refl; literal = λ d. refl })
step_at (first ∷ steps) (suc place) low =
    let (last, is) = step_at steps place (omega arith) in (
      last,
      record {
        split = ap (λ (rest : List Step). first ∷ rest) is.split;
        front = ap (λ (rest : List Step). first ∷ rest) is.front;
        literal = is.literal;
      },
    )

pub fresh_before : (front gone : List Step) (last : Step) → AreApart (front ++ last ∷ gone) → (other : Step) → IsIn front other → other.lit.variable ≢ last.lit.variable
fresh_before [] gone last apart other none = absurd none
fresh_before (first ∷ front) gone last apart other (inl same) =
    λ e. apart.0 last (behind_front front gone last) (sym e ∙ ap (λ (s : Step). s.lit.variable) (sym same))
fresh_before (first ∷ front) gone last apart other (inr here) = fresh_before front gone last apart.1 other here

in_take : (n : ℕ) (steps : List Step) (step : Step) → IsIn (take n steps) step → IsIn steps step
in_take zero steps step none = absurd none
in_take (suc n) [] step none = absurd none
in_take (suc n) (first ∷ steps) step (inl same) = inl same
in_take (suc n) (first ∷ steps) step (inr here) = inr (in_take n steps step here)

-- ---- the clause at each front

pub walk_ends : (steps : List Step) (level_count : ℕ) (clause : List Literal) → IsWalking steps level_count 0 clause → (level_count ≡ 0) × (clause ≡ [])
walk_ends steps level_count [] walking = elim (walking.left) [ inl zero_is ↦ (zero_is, refl) | inr (literal, (k, low, is), at) ↦ absurd (omega arith) ]
walk_ends steps level_count (first ∷ clause) walking = let (step, none, is) = walking.falsified first (0, omega arith, refl) in absurd none

one_if_two : (steps : List Step) (level_count : ℕ) (clause : List Literal) → MayResolve steps level_count clause → (level_count ≡ 0) ⊎ HasOneOf steps level_count clause
one_if_two steps level_count clause (inl zero_is) = inl zero_is
one_if_two steps level_count clause (inr (one, two, apart, one_in, two_in, one_at, two_at)) = inr (one, one_in, one_at)

module _ (variables : ℕ) (steps : List Step) (level_count : ℕ) (are : AreSteps variables steps level_count) where
  pub walk_begins : (clauses : List (List Literal)) (clause : List Literal) → IsSettledOver steps level_count clauses → Contains clauses clause →
      IsFailed (values_of steps) clause → MayResolve steps level_count clause × IsWalking steps level_count (length steps) clause
  walk_begins clauses clause settled here failed =
      let may = two_of_last variables steps level_count clauses clause are settled here failed in (
        may,
        record {
          falsified = subst (λ (ss : List Step). AreFalseBy ss clause) (sym (take_all steps)) (failed_false steps clause failed);
          left = one_if_two steps level_count clause may;
        },
      )
    where
      take_all : (xs : List Step) → take (length xs) xs ≡ xs
      take_all [] = refl
      take_all (x ∷ xs) = ap (λ (rest : List Step). x ∷ rest) (take_all xs)

  pub failed_front : (place : ℕ) (clause : List Literal) → AreFalseBy (take place steps) clause → IsFailed (values_of steps) clause
  failed_front place clause falsified = false_failed steps clause are.apart
      (λ literal here. let (step, inside, is) = falsified literal here in (step, in_take place steps step inside, is))

  pub learned_at : (clause : List Literal) → IsFailed (values_of steps) clause → 0 < level_count → level_count_in steps level_count clause ≡ 1 →
      IsLearned steps level_count clause (highest_but steps level_count clause)
  learned_at clause failed some one =
      learned_from steps level_count clause failed (up_to_last variables steps level_count clause are failed) some one

  module _ (place : ℕ) (last : Step) (is : IsPlace steps place last) (clause : List Literal) (walking : IsWalking steps level_count (suc place) clause) where
    falsified : AreFalseBy (take place steps ++ last ∷ []) clause
    falsified = subst (λ (ss : List Step). AreFalseBy ss clause) is.front walking.falsified

    pub walk_passes : (Contains clause (opposite last.lit) → ⊥) → IsWalking steps level_count place clause
    walk_passes lacks = record { falsified = passed (take place steps) last clause falsified lacks; left = walking.left }

    -- the step has a reason
    pub walk_reason : (clauses : List (List Literal)) → OpenLevels steps → AreReasoned clauses steps → MayResolve steps level_count clause →
        (number : ℕ) × (last.reason ≡ Some number) × HasReason clauses (take place steps) last.lit number
    walk_reason clauses opened reasoned may = by last.reason refl
      where
        some : last.reason ≢ None
        some = elim may [
          | inl zero_is ↦ no_decision variables (take place steps) last (drop (suc place) steps) level_count (subst (λ (ss : List Step). AreSteps variables ss level_count) is.split are)
              (subst OpenLevels is.split opened) zero_is
          | inr two ↦ has_reason variables (take place steps) last (drop (suc place) steps) level_count (subst (λ (ss : List Step). AreSteps variables ss level_count) is.split are)
              (subst OpenLevels is.split opened) clause falsified (subst (λ (ss : List Step). HasTwoOf ss level_count clause) is.split two)
        ]

        by : (reason : Option ℕ) → last.reason ≡ reason → (number : ℕ) × (last.reason ≡ Some number) × HasReason clauses (take place steps) last.lit number
        by None none = absurd (some none)
        by (Some number) reason_is = (
          number,
          reason_is,
          reasoned_at clauses [] (take place steps) last (drop (suc place) steps)
              (subst (λ (ss : List Step). AreReasoned clauses ss) is.split reasoned) number reason_is,
        )

    -- and the clause clashes with it
    pub walk_resolves : (reason : List Literal) → MayResolve steps level_count clause → Contains clause (opposite last.lit) → Contains reason last.lit →
        ((other : Literal) → Contains reason other → (other ≡ last.lit) ⊎ IsFalseBy (take place steps) other) →
        Clash clause reason last.lit.variable × ((resolvent : List Literal) → IsResolvent clause reason last.lit.variable resolvent → IsWalking steps level_count place resolvent)
    walk_resolves reason may here there others = (both.0, λ resolvent resolves. record { falsified = both.1 resolvent resolves; left = left_of may resolvent resolves })
      where
        both : Clash clause reason last.lit.variable × ((resolvent : List Literal) → IsResolvent clause reason last.lit.variable resolvent → AreFalseBy (take place steps) resolvent)
        both = resolved (take place steps) last clause reason (fresh_before (take place steps) (drop (suc place) steps) last (subst AreApart is.split are.apart)) falsified here there others

        left_of : MayResolve steps level_count clause → (resolvent : List Literal) → IsResolvent clause reason last.lit.variable resolvent →
            (level_count ≡ 0) ⊎ HasOneOf steps level_count resolvent
        left_of (inl zero_is) resolvent resolves = inl zero_is
        left_of (inr two) resolvent resolves =
            inr (one_left steps level_count clause reason last.lit.variable resolvent (failed_front (suc place) clause walking.falsified) two resolves)
