use Rattle.std.proofs.Common.{◌∙◌, ℕ, List, sym, ap, subst, ◌*◌}
use Rattle.cc_defs.specs.declared.node.Node.{Node}
use Rattle.cc_form.specs.Machine.{Makes, made_nodes, moved_nodes}
use Rattle.cc_form.specs.Making.{part_nodes}
use Rattle.cc_form.proofs.Parts.{joined_both, joined_first, joined_second, makes_of, truth_moved}
use Rattle.cc_form.proofs.rules.joined.Goals as goal

pub returns-then-is_truth : goal.returns-then-is_truth
returns-then-is_truth c =
    let b = c.args.writer.now in
    subst (λ (t : List Node). Makes b c.literal.new.self c.literal.result (made_nodes b.places b.last t))
    (ap (λ (n : ℕ). moved_nodes n c.args.before.nodes.now) c.offset_of.ensures.value
    ∙ sym (joined_first (part_nodes c.args.stride c.args.now) (part_nodes c.args.stride c.args.before)
    (truth_moved (c.args.now.step * c.args.stride) c.args.now.nodes.now ∙ sym c.is_truth.ensures ∙ c.if-is_truth.true)))
    (makes_of b c.literal.new.self c.literal.result (made_nodes b.places b.last (moved_nodes c.offset_of.result c.args.before.nodes.now)) c.literal.ensures.literal c.literal.ensures.built c.literal.ensures.refused)

pub returns-then-is_truth-2 : goal.returns-then-is_truth-2
returns-then-is_truth-2 c =
    let b = c.args.writer.now in
    subst (λ (t : List Node). Makes b c.literal-then-is_truth-2.new.self c.literal-then-is_truth-2.result (made_nodes b.places b.last t))
    (ap (λ (n : ℕ). moved_nodes n c.args.now.nodes.now) c.offset_of-then-is_truth-2.ensures.value
    ∙ sym (joined_second (part_nodes c.args.stride c.args.now) (part_nodes c.args.stride c.args.before)
    (truth_moved (c.args.now.step * c.args.stride) c.args.now.nodes.now ∙ sym c.is_truth.ensures ∙ c.if-is_truth.false)
    (truth_moved (c.args.before.step * c.args.stride) c.args.before.nodes.now ∙ sym c.is_truth-2.ensures ∙ c.if-is_truth-2.true)))
    (makes_of b c.literal-then-is_truth-2.new.self c.literal-then-is_truth-2.result (made_nodes b.places b.last (moved_nodes c.offset_of-then-is_truth-2.result c.args.now.nodes.now))
    c.literal-then-is_truth-2.ensures.literal c.literal-then-is_truth-2.ensures.built c.literal-then-is_truth-2.ensures.refused)

pub returns : goal.returns
returns c =
    let b = c.args.writer.now in
    subst (λ (t : List Node). Makes b c.both.new.writer c.both.result (made_nodes b.places b.last t))
    (sym (joined_both (part_nodes c.args.stride c.args.now) (part_nodes c.args.stride c.args.before)
    (truth_moved (c.args.now.step * c.args.stride) c.args.now.nodes.now ∙ sym c.is_truth.ensures ∙ c.if-is_truth.false)
    (truth_moved (c.args.before.step * c.args.stride) c.args.before.nodes.now ∙ sym c.is_truth-2.ensures ∙ c.if-is_truth-2.false)))
    c.both.ensures
