use Rattle.std.proofs.Common.{◌≡◌, subst, sym, map, None, OnOk, IfErr}
use Rattle.std.proofs.lemmas.Result.{IfOk-weaker}
use Rattle.cc_arena.specs.GroundViews.{plain_ground_query}
use Rattle.cc_defs.specs.Description.{Description}
use Rattle.cc_defs.specs.GroundLaws.{StandsForQuery}
use Rattle.cc_defs.specs.Refusals.{IsRefusedBy}
use Rattle.cc_defs.specs.Resolved.{plain_base_law, plain_query}
use Rattle.cc_list.specs.Descriptions.{description_of, ground_refusal}
use Rattle.cc_list.proofs.Grounded.{nodes_are, query_made, range_made, steps_are}
use Rattle.cc_list.proofs.asked.query_of.Goals as goal

pub returns-clause-range : goal.returns-clause-range
returns-clause-range c =
    let declarations = c.requires.signature.0 in
    let query = plain_query c.args.query.now in
    let steps = steps_are c.args.described.now.table declarations query c.requires.signature.1 c.steps_fit.ensures (c.requires.formulas declarations c.requires.signature.1) c.requires.steps in
    IfOk-weaker c.ground_query.result _ _
    (λ made is. range_made declarations query (plain_ground_query made) steps is)
    (c.ground_query.ensures.made declarations steps.range c.requires.signature.1 c.requires.signature.2 steps.is)

pub returns-clause-asked : goal.returns-clause-asked
returns-clause-asked c =
    let declarations = c.requires.signature.0 in
    let query = plain_query c.args.query.now in
    let steps = steps_are c.args.described.now.table declarations query c.requires.signature.1 c.steps_fit.ensures (c.requires.formulas declarations c.requires.signature.1) c.requires.steps in
    IfOk-weaker c.ground_query.result _ _
    (λ made is horizon above below. query_made c.args.described.now.sig declarations query (plain_ground_query made) steps c.requires.signature.2 c.fluent_terms_fit.ensures
    c.ground_queries_fit.ensures (c.declared_have_their_kinds.ensures declarations) is horizon above)
    (c.ground_query.ensures.made declarations steps.range c.requires.signature.1 c.requires.signature.2 steps.is)

pub returns-clause-stands : goal.returns-clause-stands
returns-clause-stands c = λ d of.
    let query = plain_query c.args.query.now in
    let steps = steps_are c.args.described.now.table of.declarations query of.table c.steps_fit.ensures (c.requires.formulas of.declarations of.table) c.requires.steps in
    IfOk-weaker c.ground_query.result _ _
    (λ made is. subst (λ (x : Description). StandsForQuery (plain_ground_query made) x query) (sym of.is) (steps.range, steps.is, is))
    (c.ground_query.ensures.made of.declarations steps.range of.table of.signature steps.is)

pub returns-clause-unrefused : goal.returns-clause-unrefused
returns-clause-unrefused c = λ d of.
    let query = plain_query c.args.query.now in
    let steps = steps_are c.args.described.now.table of.declarations query of.table c.steps_fit.ensures (c.requires.formulas of.declarations of.table) c.requires.steps in
    subst (λ (x : Description). OnOk c.ground_query.result (ground_refusal x query ≡ None)) (sym of.is)
    (subst (λ r. OnOk c.ground_query.result (r ≡ None)) (nodes_are query (description_of of.declarations (map plain_base_law c.args.described.now.laws)) steps.range steps.is)
    (c.ground_query.ensures.unrefused of.declarations steps.range of.table of.signature steps.is))

pub returns-clause-refused : goal.returns-clause-refused
returns-clause-refused c = λ d of.
    let query = plain_query c.args.query.now in
    let steps = steps_are c.args.described.now.table of.declarations query of.table c.steps_fit.ensures (c.requires.formulas of.declarations of.table) c.requires.steps in
    subst (λ (x : Description). IfErr c.ground_query.result (IsRefusedBy (ground_refusal x query))) (sym of.is)
    (subst (λ r. IfErr c.ground_query.result (IsRefusedBy r)) (nodes_are query (description_of of.declarations (map plain_base_law c.args.described.now.laws)) steps.range steps.is)
    (c.ground_query.ensures.refused of.declarations steps.range of.table of.signature steps.is))
