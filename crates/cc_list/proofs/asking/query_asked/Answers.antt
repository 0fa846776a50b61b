use Rattle.std.proofs.Common.{map}
use Rattle.std.proofs.lemmas.Result.{IfErr-weaker}
use Rattle.cc_arena.specs.GroundViews.{plain_ground_query}
use Rattle.cc_defs.specs.Declarations.{symbols}
use Rattle.cc_defs.specs.Resolved.{plain_query}
use Rattle.cc_laws.specs.Laws.{HasFormulas}
use Rattle.cc_words.specs.Views.{plain_text}
use Rattle.cc_list.specs.Tasks.{query_named}
use Rattle.cc_list.proofs.Named.{asked_ok, exit_found, in_named, refused_nodes, symbols_of}
use Rattle.cc_list.proofs.asking.query_asked.Goals as goal

pub returns-in_err-query-clause-refused : goal.returns-in_err-query-clause-refused
returns-in_err-query-clause-refused c = λ d of.
    exit_found d _ (query_named (plain_text c.args.label) (map plain_query c.args.described.now.queries)) c.in_err-query.field-0.0 c.from_residual.result
    c.from_residual.ensures.1 (symbols_of c.args.described.now d of) c.in_err-query.ensures.refused

pub query_of-requires-clause-formulas : goal.query_of-requires-clause-formulas
query_of-requires-clause-formulas c = λ declarations is.
    in_named (HasFormulas (symbols declarations)) (plain_text c.args.label) (map plain_query c.args.described.now.queries) (plain_query c.in_ok-query.query.now)
    c.in_ok-query.ensures.named (c.requires.formulas declarations is)

pub returns-clause-named : goal.returns-clause-named
returns-clause-named c = λ d of.
    asked_ok plain_ground_query d _ (map plain_query c.args.described.now.queries) (plain_text c.args.label) (plain_query c.in_ok-query.query.now) c.query_of.result
    (symbols_of c.args.described.now d of) c.in_ok-query.ensures.named c.in_ok-query.ensures.steps (c.query_of.ensures.unrefused d of) (c.query_of.ensures.stands d of)

pub returns-clause-refused : goal.returns-clause-refused
returns-clause-refused c = λ d of.
    IfErr-weaker c.query_of.result _ _
    (λ fault is. refused_nodes d _ (query_named (plain_text c.args.label) (map plain_query c.args.described.now.queries)) (plain_query c.in_ok-query.query.now) fault
    (symbols_of c.args.described.now d of) c.in_ok-query.ensures.named c.in_ok-query.ensures.steps is)
    (c.query_of.ensures.refused d of)
