-- A clause that leaves one literal at the last level is attached, and that is true by it at once: the fit stays, and no step has to be visited again.
use Rattle.std.proofs.Common.{◌≡◌, ◌≢◌, ◌∙◌, ℕ, ◌+◌, ◌≤◌, inl, List, [], ◌∷◌, ◌++◌, take, Some, None, refl, sym, subst, ap, arith}
use Rattle.cc_defs.specs.Clauses.{Literal, opposite, IsNumbered, IsIn}
use Rattle.cc_kernel.specs.Kernels.{KernelView, clauses_of, IsThere}
use Rattle.cc_trail.specs.declared.entries.Step.{Step}
use Rattle.cc_trail.specs.Steps.{step_of, values_to}
use Rattle.cc_trail.specs.Watches.{IsTrueBy, IsWatched, HasReason}
use Rattle.cc_trail.specs.Trails.{TrailView, Fits, IsTrail, IsSettled, IsLongTrue}
use Rattle.cc_trail.specs.Visits.{IsFalseAt, IsLeft}
use Rattle.cc_trail.proofs.StepLists.{in_right, in_take, none_of, same_step}
use Rattle.cc_trail.proofs.Values.{closed_same, to_front, only_high, reasoned_push, true_more, watches_more, good_more, take_left, followed_more}
use Rattle.cc_trail.proofs.Attaching.{within, longs_then, watches_then, each_long}

-- a literal without a value is another one than one that is false
pub open_apart : (steps : List Step) (first second : Literal) (level : ℕ) → step_of steps first.variable ≡ None → IsFalseAt steps second level → second ≢ first
open_apart steps first second level open_yet (step, here, is, at) same =
    none_of steps first.variable open_yet step here (ap (λ (l : Literal). l.variable) is ∙ ap (λ (l : Literal). l.variable) same)

some_same : (a b : ℕ) → Some a ≡ Some b → a ≡ b
some_same a b e = cc

module _ (old new : TrailView) (number : ℕ) (first second : Literal) (long : IsLongTrue old new number first second) where
  abbrev last : Step
  last = record { lit = first; level = old.level_count; reason = Some number }

  pub settled_true : (kernel : KernelView) → IsSettled old kernel → IsSettled new kernel
  settled_true kernel settled = rw (long.steps, long.level_count) (λ level low.
      closed_same (values_to level old.steps) (values_to level (old.steps ++ last ∷ [])) (clauses_of kernel)
      (to_front level old.steps (last ∷ []) (only_high level last low)) (settled level low))

  module _ (kernel : KernelView) (fits : Fits old kernel) (trail : IsTrail old) (next : number ≡ old.attached + 1) (there : IsThere kernel number)
      (clause : List Literal) (numbered : IsNumbered (clauses_of kernel) number clause) (left : IsLeft old.steps old.level_count clause first second) where
    visited_are : take new.visited new.steps ≡ take old.visited old.steps
    visited_are = rw (long.visited, long.steps) (take_left old.visited old.steps (last ∷ []) trail.visited)

    old_in : (step : Step) → IsIn (take old.visited old.steps) step → IsIn old.steps step
    old_in step here = in_take old.visited old.steps step here

    first_true : (level : ℕ) → old.level_count ≤ level → IsTrueBy new.steps first level
    first_true level low = rw long.steps (last, in_right old.steps (last ∷ []) last (inl refl), refl, low)

    watches_old : (node : ℕ) → IsWatched (take old.visited old.steps) old.steps old.watched node → IsWatched (take old.visited old.steps) new.steps old.watched node
    watches_old node watches step here is = rw long.steps (true_more old.steps (last ∷ []) _ step.level (watches step here is))

    -- its second literal became false at the last level, at which the first is true
    watches_second : (step : Step) → IsIn (take old.visited old.steps) step → step.lit ≡ opposite second → IsTrueBy new.steps first step.level
    watches_second step here is =
        let (fallen, fallen_here, fallen_is, at) = left.fallen in
        let same = same_step old.steps trail.are_steps.apart step fallen (old_in step here) fallen_here (ap (λ (l : Literal). l.variable) (is ∙ sym fallen_is)) in
        let level : step.level ≡ old.level_count = ap (λ (s : Step). s.level) same ∙ at in
        first_true step.level (omega arith)

    pub fits_true : Fits new kernel
    fits_true = record {
      variables = long.variables ∙ fits.variables;
      clauses = record {
        attached = rw long.attached (within old new kernel fits number next there clause numbered);
        reasons = rw long.steps (reasoned_push (clauses_of kernel) [] old.steps last fits.clauses.reasons
            (λ other is. subst (λ (n : ℕ). HasReason (clauses_of kernel) old.steps first n) (some_same number other is) (clause, numbered, left.first_in, left.others)));
        shorts = rw long.shorts fits.clauses.shorts;
        met_few = rw (long.met, long.shorts) fits.clauses.met_few;
        met = rw (long.met, long.shorts, long.steps) (λ k here. good_more (clauses_of kernel) old.steps (last ∷ []) k (fits.clauses.met k here));
        longs = longs_then old new trail number first second long.longs long.watched (clauses_of kernel) clause numbered left.first_in left.second_in
            (λ same. open_apart old.steps first second old.level_count left.open_yet left.fallen (sym same))
            (λ node low. rw long.steps (watches_more (clauses_of kernel) old.steps (last ∷ []) _ old.watched node (fits.clauses.longs node low)));
        pairs = rw long.pairs fits.clauses.pairs;
        each = rw (long.attached, long.shorts, long.longs, long.pairs) (each_long old new kernel fits number next there clause numbered);
        watches = rw visited_are (watches_then old new trail number first second long.longs long.watched (take old.visited old.steps)
            (λ node low. watches_old node (fits.clauses.watches node low))
            (λ step here is. absurd (none_of old.steps first.variable left.open_yet step (old_in step here) (ap (λ (l : Literal). l.variable) is)))
            watches_second);
        followed = rw (long.pairs, long.visited, long.steps) (followed_more old.pairs old.visited old.steps (last ∷ []) trail.visited fits.clauses.followed);
      };
    }
