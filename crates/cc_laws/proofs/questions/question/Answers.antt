use Rattle.std.proofs.Common.{map, ap, ◌∙◌}
use Rattle.cc_defs.specs.declared.tree.Part.{Part}
use Rattle.cc_defs.specs.Resolved.{plain_query}
use Rattle.cc_defs.specs.Trees.{plain_part, plain_query_item, plain_statement}
use Rattle.cc_laws.specs.Questions.{items_of}
use Rattle.cc_laws.proofs.Asking.{asked_so, asked_refused}
use Rattle.cc_laws.proofs.questions.question.Goals as goal

pub returns-clause-refused : goal.returns-clause-refused
returns-clause-refused c = λ left is.
    asked_refused c.args.file c.args.table.now left (plain_statement c.args.statement.now) (map plain_query_item c.items_of-items.result.now) c.ask.result is
    (c.items_of-items.ensures ∙ ap (λ (part : Part). items_of (plain_part part)) c.deref.ensures) c.ask.ensures.refused

pub returns-clause-asked : goal.returns-clause-asked
returns-clause-asked c = λ left is.
    asked_so plain_query c.args.file c.args.table.now left (plain_statement c.args.statement.now) (map plain_query_item c.items_of-items.result.now) c.ask.result is
    (c.items_of-items.ensures ∙ ap (λ (part : Part). items_of (plain_part part)) c.deref.ensures) c.ask.ensures.checked c.ask.ensures.asked
