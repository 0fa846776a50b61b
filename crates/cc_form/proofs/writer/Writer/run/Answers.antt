use Rattle.std.proofs.Common.{◌+◌, ◌≤◌, ℕ, List, drop, get_or, subst, sym, length}
use Rattle.cc_defs.specs.declared.node.Node.TheVariants as nodes
use Rattle.cc_defs.specs.Terms.{Fits}
use Rattle.cc_form.specs.Machine.{moved_node, moved_nodes}
use Rattle.cc_form.proofs.Running.{RunsOn, arity_moved, err_past, front_mapped, none_left, run_begins, run_ends, run_fails, run_step}
use Rattle.cc_form.proofs.writer.Writer.run.Goals as goal

pub loop-node-init : goal.loop-node-init
loop-node-init c = run_begins c.args.self.now (moved_nodes c.args.offset c.args.term.now) c.requires.last c.requires.fits c.requires.ready

pub step-requires-clause-fits : goal.step-requires-clause-fits
step-requires-clause-fits c =
    let so = subst (RunsOn c.args.self.now c.loop-node.self (moved_nodes c.args.offset c.args.term.now)) (front_mapped (moved_node c.args.offset) c.args.term.now c.loop-node.node-index nodes.True c.loop-node-test.true) c.loop-node.invariant in
    subst (λ (p : List ℕ). Fits p (moved_node c.args.offset (get_or c.args.term.now c.loop-node.node-index nodes.True))) (sym so.places) so.fits.0

pub step-requires-clause-operands : goal.step-requires-clause-operands
step-requires-clause-operands c =
    let so = subst (RunsOn c.args.self.now c.loop-node.self (moved_nodes c.args.offset c.args.term.now)) (front_mapped (moved_node c.args.offset) c.args.term.now c.loop-node.node-index nodes.True c.loop-node-test.true) c.loop-node.invariant in
    subst (λ (n : ℕ). n ≤ length c.loop-node.self.stack.items) (arity_moved c.args.offset (get_or c.args.term.now c.loop-node.node-index nodes.True)) so.ready.0

pub returns-in_err-step-clause-refused : goal.returns-in_err-step-clause-refused
returns-in_err-step-clause-refused c =
    let so = subst (RunsOn c.args.self.now c.loop-node.self (moved_nodes c.args.offset c.args.term.now)) (front_mapped (moved_node c.args.offset) c.args.term.now c.loop-node.node-index nodes.True c.loop-node-test.true) c.loop-node.invariant in
    let f = run_fails c.args.self.now c.loop-node.self (moved_nodes c.args.offset c.args.term.now) (drop (c.loop-node.node-index + 1) (moved_nodes c.args.offset c.args.term.now)) (moved_node c.args.offset (get_or c.args.term.now c.loop-node.node-index nodes.True)) c.in_err-step.field-0.0 so c.in_err-step.ensures.refused in
    err_past c.from_residual.result _ c.in_err-step.field-0.0 c.from_residual.ensures.1 f

pub loop-node-preserved : goal.loop-node-preserved
loop-node-preserved c =
    let so = subst (RunsOn c.args.self.now c.loop-node.self (moved_nodes c.args.offset c.args.term.now)) (front_mapped (moved_node c.args.offset) c.args.term.now c.loop-node.node-index nodes.True c.loop-node-test.true) c.loop-node.invariant in
    run_step c.args.self.now c.loop-node.self c.step.new.self (moved_nodes c.args.offset c.args.term.now) (drop (c.loop-node.node-index + 1) (moved_nodes c.args.offset c.args.term.now)) (moved_node c.args.offset (get_or c.args.term.now c.loop-node.node-index nodes.True)) so c.in_ok-step.ensures.ran

pub returns-clause-ran : goal.returns-clause-ran
returns-clause-ran c =
    run_ends c.args.self.now c.loop-node.self (moved_nodes c.args.offset c.args.term.now)
    (subst (RunsOn c.args.self.now c.loop-node.self (moved_nodes c.args.offset c.args.term.now)) (none_left (moved_node c.args.offset) c.args.term.now c.loop-node.node-index c.loop-node-test.false) c.loop-node.invariant)
