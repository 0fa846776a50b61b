use Rattle.std.proofs.Common.{map}
use Rattle.std.proofs.lemmas.Result.{IfErr-weaker}
use Rattle.cc_arena.specs.GroundViews.{plain_ground_query}
use Rattle.cc_defs.specs.Declarations.{symbols}
use Rattle.cc_defs.specs.Refusals.{IsRefusedBy}
use Rattle.cc_defs.specs.Resolved.{plain_query}
use Rattle.cc_laws.specs.Laws.{HasFormulas}
use Rattle.cc_words.specs.Views.{plain_text}
use Rattle.cc_run.specs.Modes.Exporting.{horizon_refusal}
use Rattle.cc_list.specs.Tasks.{query_named}
use Rattle.cc_run.proofs.Exported.{asked_at, at_horizon, few_steps, handed_on, refused_inside, refused_tried}
use Rattle.cc_list.proofs.Named.{in_named, refused_nodes, symbols_of}
use Rattle.cc_run.proofs.modes.export.query_at.Goals as goal

pub returns-in_err-query-clause-refused : goal.returns-in_err-query-clause-refused
returns-in_err-query-clause-refused c = λ d of.
    let named = query_named (plain_text c.args.label) (map plain_query c.args.described.now.queries) in
    handed_on (IsRefusedBy (horizon_refusal d named c.args.horizon)) c.in_err-query.field-0.0 c.from_residual.result c.from_residual.ensures.1
    (refused_tried d _ named c.args.horizon c.in_err-query.field-0.0 (symbols_of c.args.described.now d of) c.in_err-query.ensures.refused)

pub query_of-requires-clause-formulas : goal.query_of-requires-clause-formulas
query_of-requires-clause-formulas c = λ declarations is.
    in_named (HasFormulas (symbols declarations)) (plain_text c.args.label) (map plain_query c.args.described.now.queries) (plain_query c.in_ok-query.query.now)
    c.in_ok-query.ensures.named (c.requires.formulas declarations is)

pub returns-clause-most : goal.returns-clause-most
returns-clause-most c =
    few_steps plain_ground_query c.requires.of.0 (plain_query c.in_ok-query.query.now) c.args.horizon c.in_ok-query.ensures.inside c.query_of.result
    (c.query_of.ensures.stands c.requires.of.0 c.requires.of.1) c.query_of.ensures.range

pub returns-clause-at : goal.returns-clause-at
returns-clause-at c =
    at_horizon plain_ground_query c.requires.of.0 (plain_query c.in_ok-query.query.now) c.args.horizon c.in_ok-query.ensures.inside c.args.described.now.sig c.query_of.result
    (c.query_of.ensures.stands c.requires.of.0 c.requires.of.1) c.query_of.ensures.asked

pub returns-clause-named : goal.returns-clause-named
returns-clause-named c = λ d of.
    asked_at plain_ground_query d _ (map plain_query c.args.described.now.queries) (plain_text c.args.label) c.args.horizon (plain_query c.in_ok-query.query.now) c.query_of.result
    (symbols_of c.args.described.now d of) c.in_ok-query.ensures.named c.in_ok-query.ensures.inside c.in_ok-query.ensures.steps (c.query_of.ensures.unrefused d of)
    (c.query_of.ensures.stands d of)

pub returns-clause-refused : goal.returns-clause-refused
returns-clause-refused c = λ d of.
    let named = query_named (plain_text c.args.label) (map plain_query c.args.described.now.queries) in
    let query = plain_query c.in_ok-query.query.now in
    IfErr-weaker c.query_of.result _ _
    (λ fault is. refused_inside d named query c.args.horizon fault c.in_ok-query.ensures.named c.in_ok-query.ensures.inside
    (refused_nodes d _ named query fault (symbols_of c.args.described.now d of) c.in_ok-query.ensures.named c.in_ok-query.ensures.steps is))
    (c.query_of.ensures.refused d of)
