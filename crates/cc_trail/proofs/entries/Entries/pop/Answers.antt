use Rattle.std.proofs.Common.{◌∙◌, ◌-◌, ◌<◌, ℕ, List, sym, subst, ap, take}
use Rattle.cc_trail.specs.declared.entries.Step.{Step}
use Rattle.cc_trail.specs.Steps.{level_after}
use Rattle.cc_trail.proofs.EntryViews.{pop_place, kept_popped, marked_popped, is_popped}
use Rattle.cc_trail.proofs.entries.Entries.pop.Goals as goal

pub index_mut-requires : goal.index_mut-requires
index_mut-requires c =
    subst (λ (n : ℕ). c.variable.result < n) (sym c.self.inside.places.ok.0)
    (pop_place c.self.inside c.args.self.now c.self.view_is c.self.invariant.kept c.requires c.index-step.result.now c.variable.result
    (c.variable.ensures ∙ ap (λ (s : Step). s.lit.variable) c.index-step.ensures))

pub index_mut-requires-2 : goal.index_mut-requires-2
index_mut-requires-2 c =
    subst (λ (n : ℕ). c.variable-2.result < n) (sym c.self.inside.marks.ok.0)
    (marked_popped c.self.inside c.args.self.now c.self.view_is c.self.invariant.kept c.requires c.index-step.result.now c.self.invariant.marked c.variable-2.result
    (c.variable-2.ensures ∙ ap (λ (s : Step). s.lit.variable) c.index-step.ensures)).0

pub invariant_of-self : goal.invariant_of-self
invariant_of-self c = record {
  kept = kept_popped c.self.inside c.args.self.now c.self.view_is c.self.invariant.kept c.requires c.index-step.result.now c.variable.result c.last_level-self-inside.result
      (c.variable.ensures ∙ ap (λ (s : Step). s.lit.variable) c.index-step.ensures)
      (c.last_level-self-inside.ensures ∙ ap (λ (steps : List Step). level_after 0 (take (c.self.inside.count - 1) steps)) c.deref.ensures.value);
  marked = (marked_popped c.self.inside c.args.self.now c.self.view_is c.self.invariant.kept c.requires c.index-step.result.now c.self.invariant.marked c.variable-2.result
      (c.variable-2.ensures ∙ ap (λ (s : Step). s.lit.variable) c.index-step.ensures)).1;
}

pub returns : goal.returns
returns c =
    is_popped c.self.inside c.args.self.now c.self.view_is c.self.invariant.kept c.requires c.index-step.result.now c.last_level-self-inside.result
    (c.last_level-self-inside.ensures ∙ ap (λ (steps : List Step). level_after 0 (take (c.self.inside.count - 1) steps)) c.deref.ensures.value)
