-- Propagation and decisions keep what is true of a search.
use Rattle.std.proofs.Common.{◌≡◌, ◌∙◌, ℕ, ◌+◌, List, [], ◌∷◌, ◌++◌, None, sym, subst, ap, append_assoc, append-nil}
use Rattle.std.specs.List.{AllByRecursion}
use Rattle.cc_defs.specs.Clauses.{Literal}
use Rattle.cc_kernel.specs.Kernels.{KernelView}
use Rattle.cc_trail.specs.declared.entries.Step.{Step}
use Rattle.cc_trail.specs.Steps.{AreSteps}
use Rattle.cc_trail.specs.Trails.{TrailView, Fits, IsPropagated, IsPropagatedAt, IsSettled, decided}
use Rattle.cc_cdcl.specs.declared.choice.Cursor.{Cursor}
use Rattle.cc_cdcl.specs.Analysis.{OpenLevels}
use Rattle.cc_cdcl.specs.Choices.{AreChosen}
use Rattle.cc_cdcl.specs.Cursors.{AreCursors, IsChoice}
use Rattle.cc_cdcl.specs.Searches.{IsSearching}
use Rattle.cc_cdcl.proofs.Leasts.{chosen_push}
use Rattle.cc_cdcl.proofs.Placing.{cursors_grow}
use Rattle.cc_cdcl.proofs.Resolving.{opens_decided, opens_push}

no_decision : (level : ℕ) (step : Step) → IsPropagatedAt level step → step.reason ≡ None → ⊥
no_decision level step (at, reason, is) none = cc

pub opens_more : (level : ℕ) (steps more : List Step) → AllByRecursion (IsPropagatedAt level) more → OpenLevels steps → OpenLevels (steps ++ more)
opens_more level steps [] each opened = subst OpenLevels (sym (append-nil steps)) opened
opens_more level steps (step ∷ more) each opened =
    subst OpenLevels (append_assoc steps (step ∷ []) more)
    (opens_more level (steps ++ step ∷ []) more each.1 (opens_push [] steps step opened (λ none. absurd (no_decision level step each.0 none))))

pub chosen_more : (sizes : List ℕ) (level : ℕ) (steps more : List Step) → AllByRecursion (IsPropagatedAt level) more → AreChosen sizes steps → AreChosen sizes (steps ++ more)
chosen_more sizes level steps [] each chosen = subst (AreChosen sizes) (sym (append-nil steps)) chosen
chosen_more sizes level steps (step ∷ more) each chosen =
    subst (AreChosen sizes) (append_assoc steps (step ∷ []) more)
    (chosen_more sizes level (steps ++ step ∷ []) more each.1 (chosen_push sizes [] steps step chosen (λ none. absurd (no_decision level step each.0 none))))

pub searching_propagated : (sizes : List ℕ) (kernel : KernelView) (old new : TrailView) (cursors : List Cursor) → IsSearching sizes kernel old cursors → IsPropagated old new →
    Fits new kernel → IsSettled new kernel → IsSearching sizes kernel new cursors
searching_propagated sizes kernel old new cursors is propagated fits settled = record {
  fits = fits;
  all = propagated.attached ∙ is.all;
  settled = settled;
  opened = subst OpenLevels (sym propagated.steps) (opens_more old.level_count old.steps propagated.more propagated.each is.opened);
  chosen = subst (AreChosen sizes) (sym propagated.steps) (chosen_more sizes old.level_count old.steps propagated.more propagated.each is.chosen);
  cursors = rw (propagated.variables, propagated.steps, propagated.level_count)
      (cursors_grow sizes old.variables old.steps old.level_count cursors is.cursors propagated.more);
}

pub searching_decided : (sizes : List ℕ) (kernel : KernelView) (old new : TrailView) (cursors others : List Cursor) (literal : Literal) → IsSearching sizes kernel old cursors →
    AreSteps old.variables old.steps old.level_count → IsChoice sizes old.variables old.steps literal → new ≡ decided old literal → Fits new kernel → IsSettled new kernel →
    AreCursors sizes new.variables new.steps new.level_count others → IsSearching sizes kernel new others
searching_decided sizes kernel old new cursors others literal is are choice new_is fits settled cursors_are = record {
  fits = fits;
  all = ap (λ (t : TrailView). t.attached) new_is ∙ is.all;
  settled = settled;
  opened = subst (λ (t : TrailView). OpenLevels t.steps) (sym new_is) (opens_decided old.variables old literal are is.opened);
  chosen = subst (λ (t : TrailView). AreChosen sizes t.steps) (sym new_is)
      (chosen_push sizes [] old.steps (record { lit = literal; level = old.level_count + 1; reason = None }) is.chosen (λ none. choice.next));
  cursors = cursors_are;
}
