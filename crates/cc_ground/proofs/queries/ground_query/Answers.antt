use Rattle.std.proofs.Common.{◌≡◌, ◌∙◌, arith, subst, sym}
use Rattle.cc_defs.specs.declared.refusal.Fault.{Fault}
use Rattle.cc_defs.specs.declared.refusal.LimitAt.TheVariants as limits
use Rattle.cc_defs.specs.Resolved.{plain_query}
use Rattle.cc_ground.specs.Counting.{choice_refusal, choices_of_query, node_refusal, nodes_in_query}
use Rattle.cc_defs.specs.GroundLaws.{PlainGroundQuery, ground_query}
use Rattle.cc_ground.specs.Views.{universe_of}
use Rattle.cc_arena.specs.Meanings.{MeansQuery}
use Rattle.cc_defs.specs.Conditions.{IsGroundQuery}
use Rattle.cc_defs.specs.Universe.{Universe, universe}
use Rattle.cc_defs.specs.Refusals.{IsRefusedBy, past}
use Rattle.std.specs.Prelude.{None, Some}
use Rattle.cc_ground.proofs.FromDeclarations.{universe_is}
use Rattle.cc_ground.proofs.Querying.{asked_is, both_unrefused, choices_refused, few_choices, many_choices, nodes_refused}
use Rattle.cc_ground.proofs.queries.ground_query.Goals as goal

pub returns-in-Ok-clause-made : goal.returns-in-Ok-clause-made
returns-in-Ok-clause-made c = λ declarations range is of e. c.in-Ok.ensures.made ∙ asked_is c.args.table.now c.args.sig.now declarations c.args.query.now.range c.unwrap_or-range.result range (plain_query c.args.query.now) is of c.unwrap_or-range.ensures e

pub returns-in-Ok-clause-unrefused : goal.returns-in-Ok-clause-unrefused
returns-in-Ok-clause-unrefused c = λ declarations range is of e.
    let query = plain_query c.args.query.now in
    both_unrefused (choices_of_query (universe declarations) query) _
    (subst (λ (u : Universe). choice_refusal (choices_of_query u query) ≡ None) (universe_is c.args.table.now declarations c.args.sig.now is of)
    (few_choices _ c.in_ok-choices_of_asked.field-0 c.number.result c.in_ok-choices_of_asked.ensures (omega arith) c.number.ensures))
    (subst (λ (q : PlainGroundQuery). node_refusal (nodes_in_query q) ≡ None) (asked_is c.args.table.now c.args.sig.now declarations c.args.query.now.range c.unwrap_or-range.result range (plain_query c.args.query.now) is of c.unwrap_or-range.ensures e) c.in-Ok.ensures.unrefused)

pub returns-then-branch-number-clause-refused : goal.returns-then-branch-number-clause-refused
returns-then-branch-number-clause-refused c = λ declarations range is of e.
    let query = plain_query c.args.query.now in
    choices_refused (choices_of_query (universe declarations) query) _ c.past.result
    (subst (λ (u : Universe). choice_refusal (choices_of_query u query) ≡ Some (past limits.Choices)) (universe_is c.args.table.now declarations c.args.sig.now is of)
    (many_choices _ c.in_ok-choices_of_asked.field-0 c.number.result c.in_ok-choices_of_asked.ensures c.if-branch-number.true c.number.ensures))
    c.past.ensures

pub returns-in-Err-clause-refused : goal.returns-in-Err-clause-refused
returns-in-Err-clause-refused c = λ declarations range is of e.
    let query = plain_query c.args.query.now in
    nodes_refused (choices_of_query (universe declarations) query) _ c.fault_of.result
    (subst (λ (u : Universe). choice_refusal (choices_of_query u query) ≡ None) (universe_is c.args.table.now declarations c.args.sig.now is of)
    (few_choices _ c.in_ok-choices_of_asked.field-0 c.number.result c.in_ok-choices_of_asked.ensures (omega arith) c.number.ensures))
    (subst (λ (q : PlainGroundQuery). IsRefusedBy (node_refusal (nodes_in_query q)) c.fault_of.result) (asked_is c.args.table.now c.args.sig.now declarations c.args.query.now.range c.unwrap_or-range.result range (plain_query c.args.query.now) is of c.unwrap_or-range.ensures e)
    (subst (λ (fault : Fault). IsRefusedBy (node_refusal (nodes_in_query (ground_query (universe_of c.args.table.now c.args.sig.now) c.unwrap_or-range.result query))) fault) (sym c.fault_of.ensures) c.in-Err.ensures.refused))

pub returns-in-Ok-clause-meant : goal.returns-in-Ok-clause-meant
returns-in-Ok-clause-meant c = λ declarations range is of e.
    subst (MeansQuery (universe declarations) (plain_query c.args.query.now)) (sym (c.in-Ok.ensures.made ∙ asked_is c.args.table.now c.args.sig.now declarations c.args.query.now.range c.unwrap_or-range.result range (plain_query c.args.query.now) is of c.unwrap_or-range.ensures e))
    (c.ground_queries_mean_queries.ensures (universe declarations) (c.declared_have_own_values.ensures declarations of.2) range (plain_query c.args.query.now))

pub returns-in-Ok-clause-fits : goal.returns-in-Ok-clause-fits
returns-in-Ok-clause-fits c = λ declarations range is of e.
    subst (IsGroundQuery (universe declarations)) (sym (c.in-Ok.ensures.made ∙ asked_is c.args.table.now c.args.sig.now declarations c.args.query.now.range c.unwrap_or-range.result range (plain_query c.args.query.now) is of c.unwrap_or-range.ensures e)) (c.ground_queries_fit.ensures (universe declarations) range (plain_query c.args.query.now))
