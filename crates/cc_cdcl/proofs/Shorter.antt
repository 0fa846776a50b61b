-- Behind the implication point: a step on a literal of a level below the last one leaves a clause that is false, and its one literal of
-- the last level.
use Rattle.std.proofs.Common.{◌≡◌, ◌≢◌, ◌∙◌, ℕ, ◌<◌, ◌≤◌, suc, inl, inr, Bool, not, true, false, List, [], ◌∷◌, ◌++◌, length, map, take, drop, get_or, Option, Some, option_and_then, refl, sym, subst, ap, arith, length-append, eq-eqb}
use Rattle.std.specs.Prelude.{◌⊎◌, Contains}
use Rattle.std.proofs.lemmas.Bool.{cases_lt, ltb-true}
use Rattle.std.proofs.lemmas.List.{length-map}
use Rattle.cc_defs.specs.Assignments.{IsFailed}
use Rattle.cc_defs.specs.Clauses.{Literal, Clash, IsIn, IsResolvent, opposite}
use Rattle.cc_kernel.specs.Kernels.{KernelView, ClashesWith, IsStepped, IsThere, clauses_of}
use Rattle.cc_trail.specs.declared.entries.Step.{Step}
use Rattle.cc_trail.specs.EntryParts.{literal_of_step}
use Rattle.cc_trail.specs.Steps.{AreApart, AreSteps, IsRising, step_of, values_of}
use Rattle.cc_trail.specs.Trails.{TrailView, Fits, reason_of_step}
use Rattle.cc_trail.specs.Watches.{AreReasoned, HasReason, IsFalseBy}
use Rattle.cc_cdcl.specs.Analysis.{IsFinal, OpenLevels, is_level, is_level_below, level_count_in, level_of}
use Rattle.cc_cdcl.specs.Derivations.{IsDeriving, IsShortening}
use Rattle.cc_cdcl.specs.Searches.{KeepsEntries}
use Rattle.cc_cdcl.proofs.Counts.{OneAlone, at_level, one_of, two_of}
use Rattle.cc_cdcl.proofs.Deriving.{found_last, numbered_there, one_clause, place_over, reason_last, some_same}
use Rattle.cc_cdcl.proofs.Learning.{level_is, one_level}
use Rattle.cc_cdcl.proofs.Levelling.{count_some}
use Rattle.cc_cdcl.proofs.Levels.{failed_false, false_failed, in_found}
use Rattle.cc_cdcl.proofs.Resolving.{in_front}
use Rattle.cc_cdcl.proofs.Walking.{opposite_twice, reasoned_at}
use Rattle.cc_cdcl.proofs.Walks.{IsPlace, failed_front, fresh_before, step_at}

-- ---- levels in front of a step

up_to_step : (level : ℕ) (front : List Step) (last : Step) (gone : List Step) → IsRising level (front ++ last ∷ gone) → level ≤ last.level
up_to_step level [] last gone rising = elim (rising.0) [ inl same ↦ omega (arith, same) | inr next ↦ omega (arith, next) ]
up_to_step level (first ∷ front) last gone rising =
    let rest = up_to_step first.level front last gone rising.1 in elim (rising.0) [ inl same ↦ omega (arith, same) | inr next ↦ omega (arith, next) ]

front_low : (level : ℕ) (front : List Step) (last : Step) (gone : List Step) → IsRising level (front ++ last ∷ gone) → (step : Step) → IsIn front step →
    step.level ≤ last.level
front_low level [] last gone rising step none = absurd none
front_low level (first ∷ front) last gone rising step (inl same) =
    subst (λ (s : Step). s.level ≤ last.level) same (up_to_step first.level front last gone rising.1)
front_low level (first ∷ front) last gone rising step (inr here) = front_low first.level front last gone rising.1 step here

level_there : (value : Option ℕ) (level other : ℕ) → is_level_below level value ≡ true → value ≡ Some other → other < level
level_there value level other is at = by (rw at at is)
  where
    by : is_level_below level (Some other) ≡ true → other < level
    by e = ltb-true other level e

module _ (variables : ℕ) (steps : List Step) (level_count : ℕ) (are : AreSteps variables steps level_count) (place : ℕ) (last : Step) (is : IsPlace steps place last)
    (clauses : List (List Literal)) (clause reason resolvent : List Literal) (failed : IsFailed (values_of steps) clause)
    (others : (other : Literal) → Contains reason other → (other ≡ last.lit) ⊎ IsFalseBy (take place steps) other)
    (resolved : IsResolvent clause reason last.lit.variable resolvent) where
  false_there : (literal : Literal) → IsFalseBy (take place steps) literal → IsFalseBy steps literal
  false_there literal (step, inside, at) =
      (step, subst (λ (ss : List Step). IsIn ss step) (sym is.split) (in_front (take place steps) (last ∷ drop (suc place) steps) step inside), at)

  -- the resolvent is false
  pub failed_still : IsFailed (values_of steps) resolvent
  failed_still = false_failed steps resolvent are.apart (λ literal here. by literal ((resolved.members literal).0 here))
    where
      by : (literal : Literal) → (Contains clause literal ⊎ Contains reason literal) × (literal.variable ≢ last.lit.variable) → IsFalseBy steps literal
      by literal (inl one, apart) = failed_false steps clause failed literal one
      by literal (inr two, apart) = elim (others literal two) [
        | inl same ↦ absurd (apart (ap (λ (l : Literal). l.variable) same))
        | inr before ↦ false_there literal before
      ]

  -- what is false in front of the step is of a level that is not above its own
  low_there : (literal : Literal) (level : ℕ) → IsFalseBy (take place steps) literal → level_of steps literal.variable ≡ Some level → level ≤ last.level
  low_there literal level (step, inside, at) level_at =
      let (_, there, lit_is) = false_there literal (step, inside, at) in
      let found : step_of steps literal.variable ≡ Some step =
      ap (step_of steps) (sym (ap (λ (l : Literal). l.variable) at)) ∙
      in_found steps are.apart step (subst (λ (ss : List Step). IsIn ss step) (sym is.split) (in_front (take place steps) (last ∷ drop (suc place) steps) step inside)) in
      let same = one_level step.level level (level_of steps literal.variable) (level_is steps literal.variable step found) level_at in
      let low = front_low 0 (take place steps) last (drop (suc place) steps) (subst (λ (ss : List Step). IsRising 0 ss) is.split are.rising) step inside in
      omega arith

  -- and keeps its one literal of a higher level
  module _ (level : ℕ) (below : last.level < level) (last_at : level_of steps last.lit.variable ≡ Some last.level) (one : level_count_in steps level clause ≡ 1) where
    only : (left : Literal) → ((literal : Literal) → Contains clause literal → (literal ≡ left) ⊎ (at_level steps level literal ≡ false)) →
        (literal : Literal) → Contains resolvent literal → level_of steps literal.variable ≡ Some level → literal ≡ left
    only left alone literal here at = by ((resolved.members literal).0 here)
      where
        differ : at_level steps level literal ≡ false → ⊥
        differ e =
            let is_true : is_level level (Some level) ≡ true = eq-eqb level level refl in
            let is_false : is_level level (Some level) ≡ false = ap (is_level level) (sym at) ∙ e in cc

        by : (Contains clause literal ⊎ Contains reason literal) × (literal.variable ≢ last.lit.variable) → literal ≡ left
        by (inl inside, apart) = elim (alone literal inside) [ inl same ↦ same | inr no_ ↦ absurd (differ no_) ]
        by (inr two, apart) = elim (others literal two) [
          | inl same ↦ absurd (apart (ap (λ (l : Literal). l.variable) same))
          | inr before ↦ let low = low_there literal level before at in absurd (omega arith)
        ]

    pub one_stays : level_count_in steps level resolvent ≡ 1
    one_stays = by (one_of steps level clause one)
      where
        by : OneAlone steps level clause → level_count_in steps level resolvent ≡ 1
        by (left, member, at, alone) =
            let stays : Contains resolvent left = (resolved.members left).1 (
              inl member,
              (λ e.
                  let same = one_level level last.level (level_of steps left.variable) at (ap (level_of steps) e ∙ last_at) in omega arith),
            ) in
            let some = count_some steps level resolvent (left, stays, at) in
            elim (cases_lt 1 (level_count_in steps level resolvent)) [
              | inr few ↦ omega arith
              | inl many ↦
                  let (first, second, apart, first_in, second_in, first_at, second_at) = two_of steps level resolvent resolved.clause many in
                  absurd (apart (only left alone first first_in first_at ∙ sym (only left alone second second_in second_at)))
            ]

-- ---- the staged clause

pub shortening_begins : (trail : TrailView) (kernel : KernelView) (place : ℕ) → AreSteps trail.variables trail.steps trail.level_count → (derivation : IsDeriving kernel trail place) →
    IsFinal trail.steps trail.level_count derivation.clause → IsShortening kernel trail place
shortening_begins trail kernel place are derivation final = record {
  clause = derivation.clause;
  staged = derivation.staged;
  failed = failed_front trail.variables trail.steps trail.level_count are place derivation.clause derivation.walking.falsified;
  final = final;
  within = derivation.within;
  short = derivation.short;
}

module _ (trail : TrailView) (kernel : KernelView) (start next : ℕ) (are : AreSteps trail.variables trail.steps trail.level_count) (fits : Fits trail kernel)
    (opened : OpenLevels trail.steps) (derivation : IsShortening kernel trail start) (before : next < start) where
  low : next < length trail.steps
  low = let within = derivation.within in omega arith

  pub step_before : (last : Step) × IsPlace trail.steps next last
  step_before = step_at trail.steps next low

  pub literal_before : (entries : List Literal) (literal : Literal) → entries ≡ map literal_of_step trail.steps → literal ≡ get_or entries next literal →
      literal ≡ step_before.0.lit
  literal_before entries literal entries_are literal_is =
      literal_is ∙ ap (λ (es : List Literal). get_or es next literal) entries_are ∙ step_before.1.literal literal

  module _ (literal : Literal) (literal_is : literal ≡ step_before.0.lit) where
    pub before_over : (1 ≤ literal.variable) × (literal.variable ≤ trail.variables)
    before_over =
        let over = place_over trail.variables trail.steps trail.level_count are (clauses_of kernel) opened fits.clauses.reasons next step_before.0 step_before.1 in
        let same = ap (λ (l : Literal). l.variable) literal_is in (omega (arith, over.0), omega (arith, over.1))

    reason_before : (id : ℕ) → option_and_then reason_of_step (step_of trail.steps literal.variable) ≡ Some id → HasReason (clauses_of kernel) (take next trail.steps) step_before.0.lit id
    reason_before id at =
        reasoned_at (clauses_of kernel) [] (take next trail.steps) step_before.0 (drop (suc next) trail.steps)
        (subst (λ (ss : List Step). AreReasoned (clauses_of kernel) ss) step_before.1.split fits.clauses.reasons) id
        (reason_last trail.variables trail.steps trail.level_count are (clauses_of kernel) opened fits.clauses.reasons next step_before.0 step_before.1 (Some id)
        (ap (λ (l : Literal). option_and_then reason_of_step (step_of trail.steps l.variable)) (sym literal_is) ∙ at))

    pub reason_there_before : (id : ℕ) → option_and_then reason_of_step (step_of trail.steps literal.variable) ≡ Some id → IsThere kernel id
    reason_there_before id at = let (clause, numbered, there, others) = reason_before id at in numbered_there kernel id clause numbered

    module _ (id : ℕ) (clause : List Literal) (at : option_and_then reason_of_step (step_of trail.steps literal.variable) ≡ Some id) (staged : kernel.staged ≡ Some clause) where
      not_before : (other : Literal) → other.variable ≡ step_before.0.lit.variable → IsFalseBy (take next trail.steps) other → ⊥
      not_before other same (step, inside, is) = fresh_before (take next trail.steps) (drop (suc next) trail.steps) step_before.0
          (subst AreApart step_before.1.split are.apart) step inside (ap (λ (l : Literal). l.variable) is ∙ same)

      -- a false clause does not have both signs
      not_both : (last : Literal) → Contains derivation.clause (opposite last) → Contains derivation.clause (opposite (opposite last)) → ⊥
      not_both last one other = by last.positive (values_of trail.steps last.variable) (derivation.failed (opposite last) one) (derivation.failed (opposite (opposite last)) other)
        where
          by : (sign : Bool) (value : Option Bool) → value ≡ Some (not (not sign)) → value ≡ Some (not (not (not sign))) → ⊥
          by true value is too = cc
          by false value is too = cc

      -- the staged clause clashes with the reason where it has the opposite of the step's literal
      pub clashes_before : Contains clause (opposite literal) → ClashesWith kernel literal.variable id
      clashes_before here = by (reason_before id at)
        where
          inside : Contains derivation.clause (opposite step_before.0.lit)
          inside = subst (λ (l : Literal). Contains derivation.clause (opposite l)) literal_is
              (subst (λ (c : List Literal). Contains c (opposite literal)) (some_same clause derivation.clause kernel.staged staged derivation.staged) here)

          not_itself : (sign : Bool) → not (not (not sign)) ≡ sign → ⊥
          not_itself true e = cc
          not_itself false e = cc

          by : HasReason (clauses_of kernel) (take next trail.steps) step_before.0.lit id → ClashesWith kernel literal.variable id
          by (reason, numbered, there, others) = (
            derivation.clause,
            reason,
            derivation.staged,
            numbered,
            subst (λ (l : Literal). Clash derivation.clause reason l.variable) (sym literal_is) (
              not step_before.0.lit.positive,
              (inside, not_both step_before.0.lit inside),
              (
                subst (λ (l : Literal). Contains reason l) (sym (opposite_twice step_before.0.lit)) there,
                (λ other. elim (others (opposite (opposite (opposite step_before.0.lit))) other) [
                  | inl same ↦ not_itself step_before.0.lit.positive (ap (λ (l : Literal). l.positive) same)
                  | inr fallen ↦ not_before (opposite (opposite (opposite step_before.0.lit))) refl fallen
                ]),
              ),
            ),
          )

    pub shortens : (new : KernelView) (id : ℕ) → option_and_then reason_of_step (step_of trail.steps literal.variable) ≡ Some id →
        is_level_below trail.level_count (level_of trail.steps literal.variable) ≡ true → IsStepped kernel new literal.variable id → IsShortening new trail next × KeepsEntries kernel new
    shortens new id at is_below (staged, other, resolvent, staged_is, numbered, resolved, new_is) = by (reason_before id at)
      where
        staged_same : staged ≡ derivation.clause
        staged_same = some_same staged derivation.clause kernel.staged staged_is derivation.staged

        last_at : level_of trail.steps step_before.0.lit.variable ≡ Some step_before.0.level
        last_at = level_is trail.steps step_before.0.lit.variable step_before.0
            (found_last trail.variables trail.steps trail.level_count are (clauses_of kernel) opened fits.clauses.reasons next step_before.0 step_before.1)

        last_low : step_before.0.level < trail.level_count
        last_low = level_there (level_of trail.steps step_before.0.lit.variable) trail.level_count step_before.0.level
            (ap (λ (l : Literal). is_level_below trail.level_count (level_of trail.steps l.variable)) (sym literal_is) ∙ is_below) last_at

        resolved_here : (reason : List Literal) → other ≡ reason → IsResolvent derivation.clause reason step_before.0.lit.variable resolvent
        resolved_here reason same = subst (λ (l : Literal). IsResolvent derivation.clause reason l.variable resolvent) literal_is
            (subst (λ (c : List Literal). IsResolvent derivation.clause c literal.variable resolvent) same
            (subst (λ (c : List Literal). IsResolvent c other literal.variable resolvent) staged_same resolved))

        by : HasReason (clauses_of kernel) (take next trail.steps) step_before.0.lit id → IsShortening new trail next × KeepsEntries kernel new
        by (reason, reason_is, there, others) = (
          record {
            clause = resolvent;
            staged = ap (λ (k : KernelView). k.staged) new_is;
            failed = failed_still trail.variables trail.steps trail.level_count are next step_before.0 step_before.1 (clauses_of kernel) derivation.clause reason resolvent
                derivation.failed others here;
            final = elim derivation.final [
              | inl (none, empty) ↦ let lower = last_low in absurd (omega arith)
              | inr (levels, one) ↦ inr (
                levels,
                one_stays trail.variables trail.steps trail.level_count are next step_before.0 step_before.1 (clauses_of kernel)
                    derivation.clause reason resolvent derivation.failed others here trail.level_count last_low last_at one,
              )
            ];
            within = let within = derivation.within in omega arith;
            short =
                let chain : length new.chain ≡ length (kernel.chain ++ literal.variable ∷ id ∷ []) = ap (λ (k : KernelView). length k.chain) new_is in
                let long = length-append kernel.chain (literal.variable ∷ id ∷ []) in
                let short = derivation.short in let more = before in omega arith;
          },
          record { variables = ap (λ (k : KernelView). k.variables) new_is; entries = ap (λ (k : KernelView). k.entries) new_is },
        )
          where
            here : IsResolvent derivation.clause reason step_before.0.lit.variable resolvent
            here = resolved_here reason (one_clause (clauses_of kernel) id other reason numbered reason_is)

-- an earlier place
pub place_within : (steps : List Step) (entries : List Literal) (next place : ℕ) → entries ≡ map literal_of_step steps → next < place → place ≤ length steps → next < length entries
place_within steps entries next place is low within = let count = ap length is ∙ length-map steps literal_of_step in omega arith

pub shortening_earlier : (kernel : KernelView) (trail : TrailView) (place next : ℕ) → next < place → IsShortening kernel trail place → IsShortening kernel trail next
shortening_earlier kernel trail place next low it = record {
  clause = it.clause;
  staged = it.staged;
  failed = it.failed;
  final = it.final;
  within = let within = it.within in omega arith;
  short = let short = it.short in omega arith;
}
