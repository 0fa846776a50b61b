-- Going back: steps of high levels are taken away one by one.
use Rattle.std.proofs.Common.{◌≡◌, ◌∙◌, ℕ, ◌<◌, ◌≤◌, inl, inr, List, [], ◌∷◌, ◌++◌, length, refl, sym, subst, ap, arith, append_assoc, append-nil, length-append}
use Rattle.cc_trail.specs.declared.entries.Step.{Step}
use Rattle.cc_defs.specs.Clauses.{IsIn}
use Rattle.cc_trail.specs.Steps.{EntriesView, steps_to, AreSteps}
use Rattle.cc_trail.specs.EntrySteps.{IsPopped, IsBack}
use Rattle.cc_trail.proofs.StepLists.{front_kept, levels_most}

pub record IsGoing (old now : EntriesView) (level : ℕ) : Type 0 where
  pub gone : List Step
  pub variables : now.variables ≡ old.variables
  pub front : old.steps ≡ now.steps ++ gone
  pub high : (step : Step) → IsIn gone step → level < step.level
  pub low : level ≤ now.level_count

pub going_begins : (old : EntriesView) (level : ℕ) → level ≤ old.level_count → IsGoing old old level
going_begins old level low = record {
  gone = [];
  variables = refl;
  front = sym (append-nil old.steps);
  high = λ step none. elim none [ ];
  low = low;
}

pub going_on : (old now next : EntriesView) (level : ℕ) → IsGoing old now level → level < now.level_count → IsPopped now next → IsGoing old next level
going_on old now next level going more popped = record {
  gone = popped.last ∷ going.gone;
  variables = popped.variables ∙ going.variables;
  front = going.front ∙ ap (λ (steps : List Step). steps ++ going.gone) popped.steps ∙ append_assoc next.steps (popped.last ∷ []) going.gone;
  high = λ step here. high_then step here;
  low = let by_one = popped.by_one in omega arith;
}
  where
    high_then : (step : Step) → IsIn (popped.last ∷ going.gone) step → level < step.level
    high_then step (inl same) = let is = popped.level in subst (λ (s : Step). level < s.level) same (omega arith)
    high_then step (inr here) = going.high step here

pub fewer : (now next : EntriesView) → IsPopped now next → length next.steps < length now.steps
fewer now next popped = let count = ap length popped.steps in omega (arith, count, length-append next.steps (popped.last ∷ []))

pub going_ends : (old now : EntriesView) (level : ℕ) → IsGoing old now level → now.level_count ≤ level → AreSteps now.variables now.steps now.level_count → IsBack old now level
going_ends old now level going done are =
    let low = going.low in
    let is : now.level_count ≡ level = omega arith in
    record {
      gone = going.gone;
      variables = going.variables;
      level_count = is;
      steps = front_kept level now.steps going.gone
          (λ step here. let most = levels_most 0 now.steps are.rising step here in let levels = are.levels in omega (arith, most)) going.high ∙
          ap (λ (steps : List Step). steps_to level steps) (sym going.front);
      front = going.front;
      high = going.high;
    }
