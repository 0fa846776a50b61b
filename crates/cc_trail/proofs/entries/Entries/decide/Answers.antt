use Rattle.std.proofs.Common.{◌∙◌, ◌*◌, Bool, ap, ◌+◌, ◌<◌, ℕ, inr, None, take, sym, subst, arith, ◌≤◌}
use Rattle.std.specs.Prelude.{if◌then◌else◌}
use Rattle.cc_trail.proofs.StepLists.{level_count_few}
use Rattle.cc_trail.proofs.Kept.{front_length}
use Rattle.cc_trail.proofs.EntryViews.{within_push, kept_then, marked_then, levels_few, pushed_here, view_pushed, level_is, mark_room, place_room}
use Rattle.cc_trail.proofs.entries.Entries.decide.Goals as goal

pub index_mut-requires : goal.index_mut-requires
index_mut-requires c =
    subst (λ (n : ℕ). c.self.inside.count < n) (sym c.self.inside.steps.ok.0)
    (within_push c.self.inside c.args.self.now c.self.view_is c.self.invariant.kept (record { lit = c.args.lit; level = c.self.inside.level_count + 1; reason = None })
    c.requires.over c.requires.open).1

pub index_mut-requires-2 : goal.index_mut-requires-2
index_mut-requires-2 c =
    subst (λ (n : ℕ). c.self.inside.count < n) (sym c.self.inside.literals.ok.0)
    (within_push c.self.inside c.args.self.now c.self.view_is c.self.invariant.kept (record { lit = c.args.lit; level = c.self.inside.level_count + 1; reason = None })
    c.requires.over c.requires.open).2

pub invariant_of-self : goal.invariant_of-self
invariant_of-self c = record {
  kept = kept_then c.self.inside c.args.self.now c.self.view_is c.self.invariant.kept (record { lit = c.args.lit; level = c.self.inside.level_count + 1; reason = None })
      c.requires.over c.requires.open c.variable.result (c.self.inside.count + 1) c.variable.ensures (omega arith) (inr (omega arith));
  marked = marked_then c.self.inside c.args.self.now c.self.view_is c.self.invariant.kept (record { lit = c.args.lit; level = c.self.inside.level_count + 1; reason = None })
      c.requires.over c.requires.open c.self.invariant.marked c.variable-2.result c.mark.result c.variable-2.ensures
      (c.mark.ensures ∙ ap (λ (b : Bool). 2 * (c.self.inside.level_count + 1 + 1) + (if b then 1 else 0)) c.is_positive.ensures);
}

pub returns : goal.returns
returns c =
    rw (← level_is c.self.inside c.args.self.now c.self.view_is c.self.invariant.kept)
    (view_pushed c.self.inside c.args.self.now c.self.view_is c.self.invariant.kept (record { lit = c.args.lit; level = c.self.inside.level_count + 1; reason = None }) (c.self.inside.level_count + 1)
    (pushed_here c.self.inside c.args.self.now c.self.view_is c.self.invariant.kept (record { lit = c.args.lit; level = c.self.inside.level_count + 1; reason = None }) c.requires.over c.requires.open))

pub overflow_add-step : goal.overflow_add-step
overflow_add-step c =
    let levels = level_count_few c.self.inside.variables c.self.inside.level_count (take c.self.inside.count c.self.inside.steps.items) c.self.invariant.kept.are_steps in
    let front = front_length c.self.inside.variables c.self.inside.count c.self.inside.steps.items c.self.inside.literals.items c.self.inside.places.items c.self.inside.level_count c.self.invariant.kept in
    let all = within_push c.self.inside c.args.self.now c.self.view_is c.self.invariant.kept (record { lit = c.args.lit; level = c.self.inside.level_count + 1; reason = None }) c.requires.over c.requires.open in
    let most = c.self.invariant.kept.are_steps.variables_few in
    omega (arith, all.0)

pub overflow_add-self-2 : goal.overflow_add-self-2
overflow_add-self-2 c =
    let levels = level_count_few c.self.inside.variables c.self.inside.level_count (take c.self.inside.count c.self.inside.steps.items) c.self.invariant.kept.are_steps in
    let front = front_length c.self.inside.variables c.self.inside.count c.self.inside.steps.items c.self.inside.literals.items c.self.inside.places.items c.self.inside.level_count c.self.invariant.kept in
    let all = within_push c.self.inside c.args.self.now c.self.view_is c.self.invariant.kept (record { lit = c.args.lit; level = c.self.inside.level_count + 1; reason = None }) c.requires.over c.requires.open in
    let most = c.self.invariant.kept.are_steps.variables_few in
    omega (arith, all.0)

pub mark-requires : goal.mark-requires
mark-requires c =
    let levels = levels_few c.self.inside c.args.self.now c.self.view_is c.self.invariant.kept in
    let all = within_push c.self.inside c.args.self.now c.self.view_is c.self.invariant.kept (record { lit = c.args.lit; level = c.self.inside.level_count + 1; reason = None }) c.requires.over c.requires.open in
    let most = c.self.invariant.kept.are_steps.variables_few in
    omega (arith, all.0)

pub overflow_add-self-inside-2 : goal.overflow_add-self-inside-2
overflow_add-self-inside-2 c =
    let levels = levels_few c.self.inside c.args.self.now c.self.view_is c.self.invariant.kept in
    let all = within_push c.self.inside c.args.self.now c.self.view_is c.self.invariant.kept (record { lit = c.args.lit; level = c.self.inside.level_count + 1; reason = None }) c.requires.over c.requires.open in
    let most = c.self.invariant.kept.are_steps.variables_few in
    omega (arith, all.0)

pub index_mut-requires-3 : goal.index_mut-requires-3
index_mut-requires-3 c =
    subst (λ (n : ℕ). c.variable.result < n) (sym c.self.inside.places.ok.0) (place_room c.self.inside c.args.self.now c.self.view_is c.self.invariant.kept c.variable.result (subst (λ (n : ℕ). n ≤ c.args.self.now.variables) (sym c.variable.ensures) c.requires.over.1))

pub index_mut-requires-4 : goal.index_mut-requires-4
index_mut-requires-4 c =
    subst (λ (n : ℕ). c.variable-2.result < n) (sym c.self.inside.marks.ok.0) (mark_room c.self.inside c.args.self.now c.self.view_is c.self.invariant.kept c.self.invariant.marked.count c.variable-2.result (subst (λ (n : ℕ). n ≤ c.args.self.now.variables) (sym c.variable-2.ensures) c.requires.over.1))
