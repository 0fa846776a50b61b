use Rattle.std.proofs.Common.{◌≡◌, ◌+◌, ◌-◌, ℕ, List, [], ◌∷◌, ◌++◌, Some, slice_get, refl, sym, subst}
use Rattle.cc_defs.specs.declared.node.Node.{Node}
use Rattle.cc_defs.specs.declared.node.Node.TheVariants as nodes
use Rattle.cc_form.specs.Machine.{run}
use Rattle.cc_form.specs.Making.{key_part, nodes_above}
use Rattle.cc_form.proofs.Parts.{front_rises, next_runs, runs_err, runs_step}
use Rattle.cc_form.proofs.Running.{past_more}
use Rattle.cc_form.proofs.section.step_part.Goals as goal

pub returns-in_err-step_above-clause-runs : goal.returns-in_err-step_above-clause-runs
returns-in_err-step_above-clause-runs c =
    let b = c.args.writer.now in
    let count = c.args.size - (c.args.value + 1) in
    let front : List Node = nodes_above c.args.position c.args.value count ++ nodes.Any count ∷ [] in
    let tail : List Node = nodes.Atom c.args.position c.args.value ∷ [] in
    runs_err b c.step_above.new.writer c.from_residual.result (run b.places (key_part c.args.position c.args.size c.args.value) b.stack.items b.last) c.in_err-step_above.field-0.0 c.from_residual.ensures.1
    (past_more (run b.places front b.stack.items b.last).last (run b.places (front ++ tail) b.stack.items b.last).last c.in_err-step_above.field-0.0 (front_rises b.places front tail b.stack.items b.last) c.in_err-step_above.ensures.runs)

pub step_atom-requires-clause-fits : goal.step_atom-requires-clause-fits
step_atom-requires-clause-fits c = (
  c.args.size,
  subst (λ (p : List ℕ). slice_get p c.args.position ≡ Some c.args.size) (sym c.in_ok-step_above.ensures.runs.built.places) c.requires.size,
  c.requires.value,
)

pub returns-clause-runs : goal.returns-clause-runs
returns-clause-runs c =
    let b = c.args.writer.now in
    let m = c.step_above.new.writer in
    let count = c.args.size - (c.args.value + 1) in
    next_runs b.places b m c.step_atom.new.self (nodes_above c.args.position c.args.value count ++ nodes.Any count ∷ []) (nodes.Atom c.args.position c.args.value ∷ []) b.stack.items b.last c.step_atom.result refl
    c.in_ok-step_above.ensures.runs
    (runs_step m.places m c.step_atom.new.self (nodes.Atom c.args.position c.args.value) m.stack.items m.last c.step_atom.result c.step_atom.ensures.ran c.step_atom.ensures.refused)
