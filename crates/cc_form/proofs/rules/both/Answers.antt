use Rattle.std.proofs.Common.{◌≡◌, ◌∙◌, ◌+◌, ℕ, List, [], ◌∷◌, ◌++◌, refl, sym, ap, subst, length, arith}
use Rattle.std.specs.List.{AllByRecursion}
use Rattle.cc_defs.specs.declared.node.Node.{Node}
use Rattle.cc_defs.specs.declared.node.Node.TheVariants as nodes
use Rattle.cc_defs.specs.Terms.{Fits, IsTermOver}
use Rattle.cc_form.specs.Machine.{IsPast, IsRan, made_nodes, moved_nodes, run}
use Rattle.cc_form.specs.Making.{part_nodes}
use Rattle.cc_form.proofs.Parts.{begun, begun_past, front_past, made_from, makes_err, next_past, ran_more, ready_at, run_long, step_is_run}
use Rattle.cc_form.proofs.rules.both.Goals as goal

pub run-requires-clause-fits : goal.run-requires-clause-fits
run-requires-clause-fits c =
    subst (λ (p : List ℕ). AllByRecursion (Fits p) (moved_nodes c.offset_of.result c.args.now.nodes.now)) (sym c.begin.ensures.places)
    (subst (λ (n : ℕ). AllByRecursion (Fits c.args.writer.now.places) (moved_nodes n c.args.now.nodes.now)) (sym c.offset_of.ensures.value) c.requires.now.fits)

pub run-requires-clause-ready : goal.run-requires-clause-ready
run-requires-clause-ready c =
    ready_at c.args.writer.now.places (moved_nodes c.offset_of.result c.args.now.nodes.now) (length c.begin.new.self.stack.items)
    (subst (λ (n : ℕ). IsTermOver c.args.writer.now.places (moved_nodes n c.args.now.nodes.now)) (sym c.offset_of.ensures.value) c.requires.now)

pub run-requires-2-clause-fits : goal.run-requires-2-clause-fits
run-requires-2-clause-fits c =
    subst (λ (p : List ℕ). AllByRecursion (Fits p) (moved_nodes c.offset_of-2.result c.args.before.nodes.now)) (sym (c.in_ok-run.ensures.ran.built.places ∙ c.begin.ensures.places))
    (subst (λ (n : ℕ). AllByRecursion (Fits c.args.writer.now.places) (moved_nodes n c.args.before.nodes.now)) (sym c.offset_of-2.ensures.value) c.requires.before.fits)

pub run-requires-2-clause-ready : goal.run-requires-2-clause-ready
run-requires-2-clause-ready c =
    ready_at c.args.writer.now.places (moved_nodes c.offset_of-2.result c.args.before.nodes.now) (length c.run.new.self.stack.items)
    (subst (λ (n : ℕ). IsTermOver c.args.writer.now.places (moved_nodes n c.args.before.nodes.now)) (sym c.offset_of-2.ensures.value) c.requires.before)

pub returns-in_err-run : goal.returns-in_err-run
returns-in_err-run c =
    let b = c.args.writer.now in
    let A = part_nodes c.args.stride c.args.now in
    let B = part_nodes c.args.stride c.args.before in
    let N : List Node = nodes.All 2 ∷ [] in
    makes_err b c.run.new.self c.from_residual.result (made_nodes b.places b.last (A ++ B ++ N)) c.in_err-run.field-0.0 c.from_residual.ensures.1
    (front_past b.places (A ++ B) N b.last c.in_err-run.field-0.0 (front_past b.places A B b.last c.in_err-run.field-0.0
    (begun_past b c.begin.new.self A c.in_err-run.field-0.0 c.begin.ensures.places c.begin.ensures.last c.begin.ensures.stack
    (subst (λ (n : ℕ). IsPast (run c.begin.new.self.places (moved_nodes n c.args.now.nodes.now) c.begin.new.self.stack.items c.begin.new.self.last).last c.in_err-run.field-0.0) c.offset_of.ensures.value c.in_err-run.ensures.refused))))

pub returns-in_err-run-2 : goal.returns-in_err-run-2
returns-in_err-run-2 c =
    let b = c.args.writer.now in
    let A = part_nodes c.args.stride c.args.now in
    let B = part_nodes c.args.stride c.args.before in
    let N : List Node = nodes.All 2 ∷ [] in
    let one : IsRan b c.run.new.self (run b.places A [] b.last) = begun b c.begin.new.self c.run.new.self A c.begin.ensures.places c.begin.ensures.last c.begin.ensures.kept c.begin.ensures.stack
    (subst (λ (n : ℕ). IsRan c.begin.new.self c.run.new.self (run c.begin.new.self.places (moved_nodes n c.args.now.nodes.now) c.begin.new.self.stack.items c.begin.new.self.last)) c.offset_of.ensures.value c.in_ok-run.ensures.ran) in
    makes_err b c.run-2.new.self c.from_residual-in_err-run-2.result (made_nodes b.places b.last (A ++ B ++ N)) c.in_err-run-2.field-0.0 c.from_residual-in_err-run-2.ensures.1
    (front_past b.places (A ++ B) N b.last c.in_err-run-2.field-0.0 (next_past b c.run.new.self A B c.in_err-run-2.field-0.0 one
    (subst (λ (n : ℕ). IsPast (run c.run.new.self.places (moved_nodes n c.args.before.nodes.now) c.run.new.self.stack.items c.run.new.self.last).last c.in_err-run-2.field-0.0) c.offset_of-2.ensures.value c.in_err-run-2.ensures.refused)))

pub step-requires-clause-operands : goal.step-requires-clause-operands
step-requires-clause-operands c =
    let b = c.args.writer.now in
    let A = part_nodes c.args.stride c.args.now in
    let B = part_nodes c.args.stride c.args.before in
    let N : List Node = nodes.All 2 ∷ [] in
    let one : IsRan b c.run.new.self (run b.places A [] b.last) = begun b c.begin.new.self c.run.new.self A c.begin.ensures.places c.begin.ensures.last c.begin.ensures.kept c.begin.ensures.stack
    (subst (λ (n : ℕ). IsRan c.begin.new.self c.run.new.self (run c.begin.new.self.places (moved_nodes n c.args.now.nodes.now) c.begin.new.self.stack.items c.begin.new.self.last)) c.offset_of.ensures.value c.in_ok-run.ensures.ran) in
    let first = ap length one.stack ∙ run_long b.places A [] b.last c.requires.now in
    let places : c.run.new.self.places ≡ b.places = one.built.places in
    let second : length c.run-2.new.self.stack.items ≡ length c.run.new.self.stack.items + 1 =
    ap length c.in_ok-run-2.ensures.ran.stack
    ∙ run_long c.run.new.self.places (moved_nodes c.offset_of-2.result c.args.before.nodes.now) c.run.new.self.stack.items c.run.new.self.last
    (subst (λ (p : List ℕ). IsTermOver p (moved_nodes c.offset_of-2.result c.args.before.nodes.now)) (sym places)
    (subst (λ (n : ℕ). IsTermOver b.places (moved_nodes n c.args.before.nodes.now)) (sym c.offset_of-2.ensures.value) c.requires.before)) in
    omega arith

pub returns-in_err-step : goal.returns-in_err-step
returns-in_err-step c =
    let b = c.args.writer.now in
    let A = part_nodes c.args.stride c.args.now in
    let B = part_nodes c.args.stride c.args.before in
    let N : List Node = nodes.All 2 ∷ [] in
    let one : IsRan b c.run.new.self (run b.places A [] b.last) = begun b c.begin.new.self c.run.new.self A c.begin.ensures.places c.begin.ensures.last c.begin.ensures.kept c.begin.ensures.stack
    (subst (λ (n : ℕ). IsRan c.begin.new.self c.run.new.self (run c.begin.new.self.places (moved_nodes n c.args.now.nodes.now) c.begin.new.self.stack.items c.begin.new.self.last)) c.offset_of.ensures.value c.in_ok-run.ensures.ran) in
    let two : IsRan b c.run-2.new.self (run b.places (A ++ B) [] b.last) = ran_more b.places b c.run.new.self c.run-2.new.self A B [] b.last refl one
    (subst (λ (n : ℕ). IsRan c.run.new.self c.run-2.new.self (run c.run.new.self.places (moved_nodes n c.args.before.nodes.now) c.run.new.self.stack.items c.run.new.self.last)) c.offset_of-2.ensures.value c.in_ok-run-2.ensures.ran) in
    makes_err b c.step.new.self c.from_residual-in_err-step.result (made_nodes b.places b.last (A ++ B ++ N)) c.in_err-step.field-0.0 c.from_residual-in_err-step.ensures.1
    (next_past b c.run-2.new.self (A ++ B) N c.in_err-step.field-0.0 two c.in_err-step.ensures.refused)

pub returns : goal.returns
returns c =
    let b = c.args.writer.now in
    let A = part_nodes c.args.stride c.args.now in
    let B = part_nodes c.args.stride c.args.before in
    let N : List Node = nodes.All 2 ∷ [] in
    let one : IsRan b c.run.new.self (run b.places A [] b.last) = begun b c.begin.new.self c.run.new.self A c.begin.ensures.places c.begin.ensures.last c.begin.ensures.kept c.begin.ensures.stack
    (subst (λ (n : ℕ). IsRan c.begin.new.self c.run.new.self (run c.begin.new.self.places (moved_nodes n c.args.now.nodes.now) c.begin.new.self.stack.items c.begin.new.self.last)) c.offset_of.ensures.value c.in_ok-run.ensures.ran) in
    let two : IsRan b c.run-2.new.self (run b.places (A ++ B) [] b.last) = ran_more b.places b c.run.new.self c.run-2.new.self A B [] b.last refl one
    (subst (λ (n : ℕ). IsRan c.run.new.self c.run-2.new.self (run c.run.new.self.places (moved_nodes n c.args.before.nodes.now) c.run.new.self.stack.items c.run.new.self.last)) c.offset_of-2.ensures.value c.in_ok-run-2.ensures.ran) in
    let three = ran_more b.places b c.run-2.new.self c.step.new.self (A ++ B) N [] b.last refl two
    (step_is_run c.run-2.new.self.places c.run-2.new.self c.step.new.self (nodes.All 2) c.run-2.new.self.stack.items c.run-2.new.self.last c.in_ok-step.ensures.ran) in
    made_from b c.step.new.self c.end.result (A ++ B ++ N) c.end.ensures three
