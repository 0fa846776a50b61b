use Rattle.std.proofs.Common.{◌∙◌, ap, map, min, subst, sym}
use Rattle.cc_arena.specs.GroundViews.{plain_ground_laws}
use Rattle.cc_defs.specs.Universe.{universe}
use Rattle.cc_wide.specs.WideForms.{AreWideGroundLaws}
use Rattle.cc_wide.specs.WideGrounds.{plain_wide_ground}
use Rattle.cc_wide.specs.WideLaws.{frame_base, plain_wide_base}
use Rattle.cc_wide_ground.specs.WideGrounding.{head_base, wide_laws_refusal, wide_nodes_in}
use Rattle.cc_wide_ground.proofs.Copied.{nothing_made, nothing_told}
use Rattle.cc_wide_ground.proofs.WideCounts.{err_refused, few_nodes, heads_refused, many_nodes, parts_refused}
use Rattle.cc_wide_ground.proofs.WideFits.{all_fit}
use Rattle.cc_wide_ground.proofs.Zipped.{all_made}
use Rattle.cc_wide_ground.proofs.grounding.ground_wide.Goals as goal

pub returns-clause-made : goal.returns-clause-made
returns-clause-made c = λ declarations is of.
    ap (map plain_wide_ground) c.of.ensures
    ∙ c.in_ok-made.ensures
    ∙ all_made (universe declarations) c.heads_there_are_ground.ensures (map plain_wide_base c.args.laws.now) _ _ _ _ _
    (c.in_ok-frames.ensures ∙ ap (λ laws. map frame_base (map plain_wide_base laws)) c.items.ensures)
    (c.in_ok-told.ensures ∙ ap (λ laws. map head_base (map plain_wide_base laws)) c.items-2.ensures)
    (ap plain_ground_laws c.laws.ensures ∙ c.in_ok-parts.ensures.made declarations is of)
    (ap plain_ground_laws c.laws-2.ensures ∙ c.in_ok-heads.ensures.made declarations is of)
    c.in_ok-falsehood.ensures

pub returns-clause-fits : goal.returns-clause-fits
returns-clause-fits c = λ declarations is of forms.
    let u = universe declarations in
    subst (AreWideGroundLaws u) (sym (returns-clause-made c declarations is of))
    (all_fit u c.fluent_terms_fit.ensures c.ground_laws_fit.ensures (c.declared_have_their_kinds.ensures declarations)
    (c.declared_have_their_values.ensures declarations is.known) 0 (map plain_wide_base c.args.laws.now) forms)

pub returns-in_err-parts-clause-made : goal.returns-in_err-parts-clause-made
returns-in_err-parts-clause-made c = λ declarations is of. nothing_made _ c.from_residual-in_err-parts.result _ c.from_residual-in_err-parts.ensures.1

pub returns-in_err-parts-clause-fits : goal.returns-in_err-parts-clause-fits
returns-in_err-parts-clause-fits c = λ declarations is of forms. nothing_made _ c.from_residual-in_err-parts.result _ c.from_residual-in_err-parts.ensures.1

pub returns-in_err-heads-clause-made : goal.returns-in_err-heads-clause-made
returns-in_err-heads-clause-made c = λ declarations is of. nothing_made _ c.from_residual-in_err-heads.result _ c.from_residual-in_err-heads.ensures.1

pub returns-in_err-heads-clause-fits : goal.returns-in_err-heads-clause-fits
returns-in_err-heads-clause-fits c = λ declarations is of forms. nothing_made _ c.from_residual-in_err-heads.result _ c.from_residual-in_err-heads.ensures.1

pub returns-in_err-falsehood-clause-made : goal.returns-in_err-falsehood-clause-made
returns-in_err-falsehood-clause-made c = λ declarations is of. nothing_made _ c.from_residual-in_err-falsehood.result _ c.from_residual-in_err-falsehood.ensures.1

pub returns-in_err-falsehood-clause-fits : goal.returns-in_err-falsehood-clause-fits
returns-in_err-falsehood-clause-fits c = λ declarations is of forms. nothing_made _ c.from_residual-in_err-falsehood.result _ c.from_residual-in_err-falsehood.ensures.1

pub returns-in_err-made-clause-made : goal.returns-in_err-made-clause-made
returns-in_err-made-clause-made c = λ declarations is of. nothing_made _ c.from_residual-in_err-made.result _ c.from_residual-in_err-made.ensures.1

pub returns-in_err-made-clause-fits : goal.returns-in_err-made-clause-fits
returns-in_err-made-clause-fits c = λ declarations is of forms. nothing_made _ c.from_residual-in_err-made.result _ c.from_residual-in_err-made.ensures.1

pub returns-in_err-parts-clause-unrefused : goal.returns-in_err-parts-clause-unrefused
returns-in_err-parts-clause-unrefused c = λ declarations is of. nothing_told _ c.from_residual-in_err-parts.result _ c.from_residual-in_err-parts.ensures.1

pub returns-in_err-heads-clause-unrefused : goal.returns-in_err-heads-clause-unrefused
returns-in_err-heads-clause-unrefused c = λ declarations is of. nothing_told _ c.from_residual-in_err-heads.result _ c.from_residual-in_err-heads.ensures.1

pub returns-in_err-falsehood-clause-unrefused : goal.returns-in_err-falsehood-clause-unrefused
returns-in_err-falsehood-clause-unrefused c = λ declarations is of. nothing_told _ c.from_residual-in_err-falsehood.result _ c.from_residual-in_err-falsehood.ensures.1

pub returns-in_err-made-clause-unrefused : goal.returns-in_err-made-clause-unrefused
returns-in_err-made-clause-unrefused c = λ declarations is of. nothing_told _ c.from_residual-in_err-made.result _ c.from_residual-in_err-made.ensures.1

pub returns-in_err-parts-clause-refused : goal.returns-in_err-parts-clause-refused
returns-in_err-parts-clause-refused c = λ declarations is of.
    let u = universe declarations in
    let laws = map plain_wide_base c.args.laws.now in
    let framed = c.in_ok-frames.ensures ∙ ap (λ laws. map frame_base (map plain_wide_base laws)) c.items.ensures in
    let headed = c.in_ok-told.ensures ∙ ap (λ laws. map head_base (map plain_wide_base laws)) c.items-2.ensures in
    err_refused (wide_laws_refusal u laws) c.from_residual-in_err-parts.result _ c.from_residual-in_err-parts.ensures.1
    (parts_refused u laws _ _ framed headed (c.in_ok-within_counts.ensures.unrefused declarations is of) _ (c.in_err-parts.ensures.refused declarations is of))

pub returns-in_err-heads-clause-refused : goal.returns-in_err-heads-clause-refused
returns-in_err-heads-clause-refused c = λ declarations is of.
    let u = universe declarations in
    let laws = map plain_wide_base c.args.laws.now in
    let framed = c.in_ok-frames.ensures ∙ ap (λ laws. map frame_base (map plain_wide_base laws)) c.items.ensures in
    let headed = c.in_ok-told.ensures ∙ ap (λ laws. map head_base (map plain_wide_base laws)) c.items-2.ensures in
    err_refused (wide_laws_refusal u laws) c.from_residual-in_err-heads.result _ c.from_residual-in_err-heads.ensures.1
    (heads_refused u laws _ _ framed headed (c.in_ok-within_counts.ensures.unrefused declarations is of) _ (c.in_err-heads.ensures.refused declarations is of))

pub returns-then-node_count-number-clause-refused : goal.returns-then-node_count-number-clause-refused
returns-then-node_count-number-clause-refused c = λ declarations is of.
    let u = universe declarations in
    let laws = map plain_wide_base c.args.laws.now in
    let framed = c.in_ok-frames.ensures ∙ ap (λ laws. map frame_base (map plain_wide_base laws)) c.items.ensures in
    let headed = c.in_ok-told.ensures ∙ ap (λ laws. map head_base (map plain_wide_base laws)) c.items-2.ensures in
    many_nodes u laws _ _ framed headed (c.in_ok-within_counts.ensures.unrefused declarations is of) _ c.node_count.result c.number.result
    (c.in_ok-made.ensures
    ∙ all_made u c.heads_there_are_ground.ensures laws _ _ _ _ _ framed headed
    (ap plain_ground_laws c.laws.ensures ∙ c.in_ok-parts.ensures.made declarations is of)
    (ap plain_ground_laws c.laws-2.ensures ∙ c.in_ok-heads.ensures.made declarations is of)
    c.in_ok-falsehood.ensures)
    (c.node_count.ensures ∙ ap (λ made. min (wide_nodes_in (map plain_wide_ground made)) 16000001) c.deref.ensures.value) c.number.ensures
    c.past.result c.if-node_count-number.true c.past.ensures

pub returns-clause-unrefused : goal.returns-clause-unrefused
returns-clause-unrefused c = λ declarations is of.
    let u = universe declarations in
    let laws = map plain_wide_base c.args.laws.now in
    let framed = c.in_ok-frames.ensures ∙ ap (λ laws. map frame_base (map plain_wide_base laws)) c.items.ensures in
    let headed = c.in_ok-told.ensures ∙ ap (λ laws. map head_base (map plain_wide_base laws)) c.items-2.ensures in
    few_nodes u laws _ _ framed headed (c.in_ok-within_counts.ensures.unrefused declarations is of) _ c.node_count.result c.number.result
    (c.in_ok-made.ensures
    ∙ all_made u c.heads_there_are_ground.ensures laws _ _ _ _ _ framed headed
    (ap plain_ground_laws c.laws.ensures ∙ c.in_ok-parts.ensures.made declarations is of)
    (ap plain_ground_laws c.laws-2.ensures ∙ c.in_ok-heads.ensures.made declarations is of)
    c.in_ok-falsehood.ensures)
    (c.node_count.ensures ∙ ap (λ made. min (wide_nodes_in (map plain_wide_ground made)) 16000001) c.deref.ensures.value) c.number.ensures
    c.if-node_count-number.false
