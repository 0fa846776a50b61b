use Rattle.std.proofs.Common.{◌≡◌, ◌∙◌, IfErr, None, ap, map, subst, sym}
use Rattle.cc_arena.specs.GroundViews.{plain_ground_law, plain_ground_laws}
use Rattle.cc_defs.specs.GroundLaws.{ground_laws}
use Rattle.cc_defs.specs.Refusals.{IsRefusedBy}
use Rattle.cc_defs.specs.Resolved.{plain_base_law}
use Rattle.cc_defs.specs.Universe.{Universe, boolean_actions}
use Rattle.cc_ground.specs.Counting.{node_refusal, nodes_in}
use Rattle.cc_ground.specs.Views.{fault_by, universe_in}
use Rattle.cc_ground.proofs.FromDeclarations.{maker_universe}
use Rattle.cc_ground.proofs.Ranging.{made_within, refused_within, unrefused_within}
use Rattle.cc_ground.proofs.instances.laws_within.Goals as goal

pub add_all-requires-clause-actions : goal.add_all-requires-clause-actions
add_all-requires-clause-actions c =
    let maker = c.new-maker in
    c.requires ∙ ap boolean_actions (sym (maker_universe maker.result c.args.table.now c.args.sig.now maker.ensures.table maker.ensures.sig))

pub returns-clause-made : goal.returns-clause-made
returns-clause-made c =
    let maker = c.new-maker in
    let laws = map plain_base_law c.args.laws.now in
    subst (λ (u : Universe). plain_ground_laws c.of.result ≡ ground_laws u laws) (maker_universe maker.result c.args.table.now c.args.sig.now maker.ensures.table maker.ensures.sig)
    (made_within maker.result _ (ground_laws (universe_in maker.result) laws) _ _ c.of.result c.new-made.ensures.items c.in_ok-add_all.ensures.made (ap (map plain_ground_law) c.of.ensures))

pub returns-clause-unrefused : goal.returns-clause-unrefused
returns-clause-unrefused c =
    let maker = c.new-maker in
    let laws = map plain_base_law c.args.laws.now in
    subst (λ (u : Universe). node_refusal (nodes_in (ground_laws u laws)) ≡ None) (maker_universe maker.result c.args.table.now c.args.sig.now maker.ensures.table maker.ensures.sig)
    (unrefused_within maker.result _ (ground_laws (universe_in maker.result) laws) _ _ (maker.ensures.room ∙ c.number.ensures) c.in_ok-add_all.ensures.made)

pub returns-in_err-add_all-clause-refused : goal.returns-in_err-add_all-clause-refused
returns-in_err-add_all-clause-refused c =
    let maker = c.new-maker in
    let laws = map plain_base_law c.args.laws.now in
    subst (λ (u : Universe). IfErr c.from_residual.result (λ halt. IsRefusedBy (node_refusal (nodes_in (ground_laws u laws))) (fault_by halt))) (maker_universe maker.result c.args.table.now c.args.sig.now maker.ensures.table maker.ensures.sig)
    (refused_within (nodes_in (ground_laws (universe_in maker.result) laws)) maker.result.room _ c.from_residual.result (maker.ensures.room ∙ c.number.ensures) c.in_err-add_all.ensures.full c.from_residual.ensures.1)
