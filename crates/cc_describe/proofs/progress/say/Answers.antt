use Rattle.std.proofs.Common.{ap, map, subst, sym, IfErr, ◌∙◌}
use Rattle.std.proofs.lemmas.Result.{on_ok_weaker}
use Rattle.cc_defs.specs.Refusals.{IsRefusedBy}
use Rattle.cc_defs.specs.Trees.{Query, plain_part, plain_query_item, plain_statement}
use Rattle.cc_laws.specs.Vocabulary.{vocabulary}
use Rattle.cc_describe.specs.FirstRefusal.{declared_in, law_refusal_of, statement_refusal}
use Rattle.cc_describe.proofs.ProgressLemmas.{says_law, says_include}
use Rattle.cc_describe.proofs.progress.say.Goals as goal

pub returns-in-Law-clause-said : goal.returns-in-Law-clause-said
returns-in-Law-clause-said c = λ which before is.
    on_ok_weaker c.add_laws.result
    (λ made. says_law which before c.args.file c.args.progress.now.around.items (plain_statement c.args.statement.now) _ _ c.args.progress.now c.add_laws.new.progress (ap plain_part (sym c.deref.ensures ∙ c.in-Law.is)) is made.0 made.1 c.add_laws.ensures.rest)
    (c.add_laws.ensures.expanded (declared_in before) is.table)

pub returns-in-Include-clause-said : goal.returns-in-Include-clause-said
returns-in-Include-clause-said c = λ which before is.
    on_ok_weaker c.include.result
    (λ made. says_include which before c.args.file c.args.progress.now.around.items (plain_statement c.args.statement.now) _ c.args.progress.now (ap plain_part (sym c.deref.ensures ∙ c.in-Include.is)) is made)
    c.include.ensures.included

pub returns-in-Law-clause-refused : goal.returns-in-Law-clause-refused
returns-in-Law-clause-refused c = λ which before is.
    subst (λ p. IfErr c.add_laws.result (IsRefusedBy (statement_refusal which before c.args.file c.args.progress.now.around.items (plain_statement c.args.statement.now) p))) (sym (ap plain_part (sym c.deref.ensures ∙ c.in-Law.is)))
    (subst (λ heads. IfErr c.add_laws.result (IsRefusedBy (law_refusal_of heads c.args.file (vocabulary (declared_in before)) (plain_statement c.args.statement.now)))) is.heads (c.add_laws.ensures.refused (declared_in before) is.table))

pub returns-in-Include-clause-refused : goal.returns-in-Include-clause-refused
returns-in-Include-clause-refused c = λ which before is.
    subst (λ p. IfErr c.include.result (IsRefusedBy (statement_refusal which before c.args.file c.args.progress.now.around.items (plain_statement c.args.statement.now) p))) (sym (ap plain_part (sym c.deref.ensures ∙ c.in-Include.is))) c.include.ensures.refused

pub returns-in-Query-clause-refused : goal.returns-in-Query-clause-refused
returns-in-Query-clause-refused c = λ which before is.
    subst (λ p. IfErr c.ask.result (IsRefusedBy (statement_refusal which before c.args.file c.args.progress.now.around.items (plain_statement c.args.statement.now) p))) (sym (ap plain_part (sym c.deref.ensures ∙ c.in-Query.is))) (c.ask.ensures.refused which before is)

pub ask-requires : goal.ask-requires
ask-requires c = ap plain_part (sym c.deref.ensures ∙ c.in-Query.is) ∙ ap (λ l. Query (map plain_query_item l)) (sym c.items.ensures)
