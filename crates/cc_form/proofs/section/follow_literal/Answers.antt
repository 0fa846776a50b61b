use Rattle.std.proofs.Common.{◌∙◌, ℕ, List, [], ◌∷◌, ◌++◌, length, refl, ap, subst, arith}
use Rattle.cc_defs.specs.declared.node.Node.{Node}
use Rattle.cc_defs.specs.declared.node.Node.TheVariants as nodes
use Rattle.cc_form.specs.Machine.{IsPast, IsRan, made_nodes, run}
use Rattle.cc_form.specs.Making.{key_down, key_up}
use Rattle.cc_form.proofs.KeySteps.{key_long}
use Rattle.cc_form.proofs.Parts.{begun, begun_past, front_past, made_from, makes_err, next_past, ran_more, step_is_run}
use Rattle.cc_form.proofs.section.follow_literal.Goals as goal

pub returns-in_err-step_down : goal.returns-in_err-step_down
returns-in_err-step_down c =
    let b = c.args.writer.now in
    let row = c.args.row.now in
    let D = key_down b.places row (length row) in
    let F : List Node = nodes.False ∷ [] in
    let U = key_up (length row) in
    let g = c.begin.new.self in
    makes_err b c.step_down.new.writer c.from_residual.result (made_nodes b.places b.last (D ++ F ++ U)) c.in_err-step_down.field-0.0 c.from_residual.ensures.1
    (front_past b.places (D ++ F) U b.last c.in_err-step_down.field-0.0 (front_past b.places D F b.last c.in_err-step_down.field-0.0
    (begun_past b g D c.in_err-step_down.field-0.0 c.begin.ensures.places c.begin.ensures.last c.begin.ensures.stack
    (subst (λ (p : List ℕ). IsPast (run g.places (key_down p row (length row)) g.stack.items g.last).last c.in_err-step_down.field-0.0) c.begin.ensures.places c.in_err-step_down.ensures.runs))))

pub returns-in_err-step_up : goal.returns-in_err-step_up
returns-in_err-step_up c =
    let b = c.args.writer.now in
    let row = c.args.row.now in
    let D = key_down b.places row (length row) in
    let F : List Node = nodes.False ∷ [] in
    let U = key_up (length row) in
    let g = c.begin.new.self in
    let d = c.step_down.new.writer in
    let s = c.step.new.self in
    let one : IsRan b d (run b.places D [] b.last) = begun b g d D c.begin.ensures.places c.begin.ensures.last c.begin.ensures.kept c.begin.ensures.stack
    (subst (λ (p : List ℕ). IsRan g d (run g.places (key_down p row (length row)) g.stack.items g.last)) c.begin.ensures.places c.in_ok-step_down.ensures.runs) in
    let two : IsRan b s (run b.places (D ++ F) [] b.last) = ran_more b.places b d s D F [] b.last refl one (step_is_run d.places d s nodes.False d.stack.items d.last c.in_ok-step.ensures.ran) in
    makes_err b c.step_up.new.writer c.from_residual-in_err-step_up.result (made_nodes b.places b.last (D ++ F ++ U)) c.in_err-step_up.field-0.0 c.from_residual-in_err-step_up.ensures.1
    (next_past b s (D ++ F) U c.in_err-step_up.field-0.0 two c.in_err-step_up.ensures)

pub end-requires : goal.end-requires
end-requires c =
    let b = c.args.writer.now in
    let row = c.args.row.now in
    let D = key_down b.places row (length row) in
    let F : List Node = nodes.False ∷ [] in
    let U = key_up (length row) in
    let g = c.begin.new.self in
    let d = c.step_down.new.writer in
    let s = c.step.new.self in
    let one : IsRan b d (run b.places D [] b.last) = begun b g d D c.begin.ensures.places c.begin.ensures.last c.begin.ensures.kept c.begin.ensures.stack
    (subst (λ (p : List ℕ). IsRan g d (run g.places (key_down p row (length row)) g.stack.items g.last)) c.begin.ensures.places c.in_ok-step_down.ensures.runs) in
    let two : IsRan b s (run b.places (D ++ F) [] b.last) = ran_more b.places b d s D F [] b.last refl one (step_is_run d.places d s nodes.False d.stack.items d.last c.in_ok-step.ensures.ran) in
    let three = ran_more b.places b s c.step_up.new.writer (D ++ F) U [] b.last refl two c.in_ok-step_up.ensures in
    let long = ap length three.stack ∙ key_long b.places row b.last c.requires.row in
    omega arith

pub returns : goal.returns
returns c =
    let b = c.args.writer.now in
    let row = c.args.row.now in
    let D = key_down b.places row (length row) in
    let F : List Node = nodes.False ∷ [] in
    let U = key_up (length row) in
    let g = c.begin.new.self in
    let d = c.step_down.new.writer in
    let s = c.step.new.self in
    let one : IsRan b d (run b.places D [] b.last) = begun b g d D c.begin.ensures.places c.begin.ensures.last c.begin.ensures.kept c.begin.ensures.stack
    (subst (λ (p : List ℕ). IsRan g d (run g.places (key_down p row (length row)) g.stack.items g.last)) c.begin.ensures.places c.in_ok-step_down.ensures.runs) in
    let two : IsRan b s (run b.places (D ++ F) [] b.last) = ran_more b.places b d s D F [] b.last refl one (step_is_run d.places d s nodes.False d.stack.items d.last c.in_ok-step.ensures.ran) in
    let three = ran_more b.places b s c.step_up.new.writer (D ++ F) U [] b.last refl two c.in_ok-step_up.ensures in
    made_from b c.step_up.new.writer c.end.result (D ++ F ++ U) c.end.ensures three
