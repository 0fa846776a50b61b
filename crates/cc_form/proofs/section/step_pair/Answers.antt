use Rattle.std.proofs.Common.{[], ◌∷◌, refl}
use Rattle.cc_defs.specs.declared.node.Node.TheVariants as nodes
use Rattle.cc_form.proofs.Parts.{next_runs, runs_step, step_is_run}
use Rattle.cc_form.proofs.section.step_pair.Goals as goal

pub returns-clause-runs : goal.returns-clause-runs
returns-clause-runs c =
    let b = c.args.writer.now in
    let m = c.step.new.self in
    next_runs b.places b m c.step-2.new.self (nodes.All 2 ∷ []) (nodes.Any 2 ∷ []) b.stack.items b.last c.step-2.result refl
    (step_is_run b.places b m (nodes.All 2) b.stack.items b.last c.in_ok-step.ensures.ran)
    (runs_step m.places m c.step-2.new.self (nodes.Any 2) m.stack.items m.last c.step-2.result c.step-2.ensures.ran c.step-2.ensures.refused)
