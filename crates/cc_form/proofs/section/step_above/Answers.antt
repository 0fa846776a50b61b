use Rattle.std.proofs.Common.{◌≡◌, ◌+◌, ◌-◌, ℕ, List, [], ◌∷◌, Some, slice_get, length, refl, sym, ap, subst, arith}
use Rattle.cc_defs.specs.declared.node.Node.{Node}
use Rattle.cc_defs.specs.declared.node.Node.TheVariants as nodes
use Rattle.cc_form.specs.Machine.{IsRan, run}
use Rattle.cc_form.specs.Making.{nodes_above}
use Rattle.cc_form.proofs.Parts.{above_more, next_runs, ran_part, runs_step, step_is_run, step_long}
use Rattle.cc_form.proofs.section.step_above.Goals as goal

pub step_atom-requires-clause-fits : goal.step_atom-requires-clause-fits
step_atom-requires-clause-fits c = (
  c.args.size,
  subst (λ (p : List ℕ). slice_get p c.args.position ≡ Some c.args.size) (sym c.loop-more.invariant.ran.built.places) c.requires.size,
  c.loop-more-test.true,
)

pub loop-more-preserved : goal.loop-more-preserved
loop-more-preserved c =
    let b = c.args.writer.now in
    let m = c.loop-more.writer in
    let node : Node = nodes.Atom c.args.position c.loop-more.more in
    let least = c.loop-more.auto.more in
    record {
      ran = ran_part b m c.step_atom.new.self (nodes_above c.args.position c.args.value (c.loop-more.more - (c.args.value + 1))) (node ∷ []) _ (above_more c.args.position c.args.value c.loop-more.more least)
          c.loop-more.invariant.ran (step_is_run m.places m c.step_atom.new.self node m.stack.items m.last c.in_ok-step_atom.ensures.ran);
      long =
          (let long = c.loop-more.invariant.long in
          let step = step_long m.places node m.stack.items m.last (omega arith) in
          let stack = ap length c.in_ok-step_atom.ensures.ran.stack in
          omega arith);
    }

pub returns-clause-runs : goal.returns-clause-runs
returns-clause-runs c =
    let b = c.args.writer.now in
    let m = c.loop-more.writer in
    let count = c.args.size - (c.args.value + 1) in
    let end : c.loop-more.more - (c.args.value + 1) ≡ count = (let least = c.loop-more-test.false in let most = c.loop-more.auto.more-end in let less = c.requires.value in omega arith) in
    next_runs b.places b m c.step.new.self (nodes_above c.args.position c.args.value count) (nodes.Any count ∷ []) b.stack.items b.last c.step.result refl
    (subst (λ (n : ℕ). IsRan b m (run b.places (nodes_above c.args.position c.args.value n) b.stack.items b.last)) end c.loop-more.invariant.ran)
    (runs_step m.places m c.step.new.self (nodes.Any count) m.stack.items m.last c.step.result c.step.ensures.ran c.step.ensures.refused)
