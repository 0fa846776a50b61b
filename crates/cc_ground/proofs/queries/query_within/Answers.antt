use Rattle.std.proofs.Common.{◌≡◌, ◌∙◌, ◌≤◌, IfErr, IfOk, OnOk, subst}
use Rattle.cc_arena.specs.GroundViews.{plain_ground_query}
use Rattle.cc_defs.specs.GroundLaws.{ground_query}
use Rattle.cc_defs.specs.Resolved.{plain_query}
use Rattle.cc_defs.specs.Universe.{Universe}
use Rattle.cc_ground.specs.Counting.{nodes_in_query}
use Rattle.cc_ground.specs.Views.{LacksRoom}
use Rattle.cc_ground.proofs.FromDeclarations.{maker_universe}
use Rattle.cc_ground.proofs.Querying.{few_nodes, many_nodes, on_ok}
use Rattle.cc_ground.proofs.queries.query_within.Goals as goal

pub returns-clause-made : goal.returns-clause-made
returns-clause-made c =
    let maker = c.new-maker in
    subst (λ (u : Universe). IfOk c.query.result (λ made. plain_ground_query made ≡ ground_query u c.args.range (plain_query c.args.query.now)))
    (maker_universe maker.result c.args.table.now c.args.sig.now maker.ensures.table maker.ensures.sig) c.query.ensures.made

pub returns-clause-unrefused : goal.returns-clause-unrefused
returns-clause-unrefused c =
    let maker = c.new-maker in
    on_ok c.query.result (λ within. few_nodes _ maker.result.room within (maker.ensures.room ∙ c.number.ensures))
    (subst (λ (u : Universe). OnOk c.query.result (nodes_in_query (ground_query u c.args.range (plain_query c.args.query.now)) ≤ maker.result.room))
    (maker_universe maker.result c.args.table.now c.args.sig.now maker.ensures.table maker.ensures.sig) c.query.ensures.within)

pub returns-clause-refused : goal.returns-clause-refused
returns-clause-refused c =
    let maker = c.new-maker in
    many_nodes _ maker.result.room c.query.result
    (subst (λ (u : Universe). IfErr c.query.result (LacksRoom (nodes_in_query (ground_query u c.args.range (plain_query c.args.query.now))) maker.result.room))
    (maker_universe maker.result c.args.table.now c.args.sig.now maker.ensures.table maker.ensures.sig) c.query.ensures.full)
    (maker.ensures.room ∙ c.number.ensures)
