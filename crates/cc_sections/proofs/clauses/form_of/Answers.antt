use Rattle.cc_arena.specs.GroundViews.{plain_ground_query}
use Rattle.cc_sections.proofs.Items.{asked_of}
use Rattle.cc_sections.proofs.clauses.form_of.Goals as goal

pub clauses-requires-clause-query : goal.clauses-requires-clause-query
clauses-requires-clause-query c =
    asked_of c.args.sig.now c.in_ok-theory.theory.signature c.args.horizon c.in_ok-theory.theory.horizon (plain_ground_query c.args.query.now)
    c.in_ok-theory.ensures.signature c.in_ok-theory.ensures.horizon
    (c.requires.steps c.args.horizon c.if-horizon-query.false c.if-horizon-query-2.false)

pub from_template-requires-clause-query : goal.from_template-requires-clause-query
from_template-requires-clause-query c = c.requires.steps c.args.horizon c.if-horizon-query.false c.if-horizon-query-2.false
