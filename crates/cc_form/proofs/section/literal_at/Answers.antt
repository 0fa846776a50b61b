use Rattle.std.proofs.Common.{◌∙◌, ◌*◌, ℕ, ap, subst}
use Rattle.cc_form.specs.Machine.{Makes, made_nodes, moved_nodes}
use Rattle.cc_form.proofs.Parts.{makes_of}
use Rattle.cc_form.proofs.section.literal_at.Goals as goal

pub returns : goal.returns
returns c =
    let b = c.args.writer.now in
    subst (λ (n : ℕ). Makes b c.literal.new.self c.literal.result (made_nodes b.places b.last (moved_nodes n c.args.condition.nodes.now))) (c.offset_of.ensures.value ∙ ap (λ (n : ℕ). n * c.args.stride) c.step_of-step.ensures)
    (makes_of b c.literal.new.self c.literal.result (made_nodes b.places b.last (moved_nodes c.offset_of.result c.args.condition.nodes.now)) c.literal.ensures.literal c.literal.ensures.built c.literal.ensures.refused)
