use Rattle.cc_laws.specs.Vocabulary.{vocabulary_of}
use Rattle.cc_laws.proofs.JoinedNames.{by_first, by_second, by_left, by_right}
use Rattle.cc_laws.proofs.steps.+names_action.Goals as goal

pub returns-then-names_action : goal.returns-then-names_action
returns-then-names_action t c =
    by_first (vocabulary_of c.args.table.now).symbols c.args.formula.now c.in-Both.first c.in-Both.second _ _ c.in-Both.is c.deref-in-Both.ensures c.names_action-in-Both.ensures c.if-names_action.true

pub returns-else-names_action : goal.returns-else-names_action
returns-else-names_action t c =
    by_second (vocabulary_of c.args.table.now).symbols c.args.formula.now c.in-Both.first c.in-Both.second _ _ _ _ c.in-Both.is c.deref-in-Both.ensures c.names_action-in-Both.ensures c.if-names_action.false
    c.deref-else-names_action.ensures c.names_action-else-names_action.ensures

pub returns-then-term_names_action : goal.returns-then-term_names_action
returns-then-term_names_action t c = by_left (vocabulary_of c.args.table.now).symbols c.args.formula.now c.in-Equal.left c.in-Equal.right _ c.in-Equal.is c.term_names_action.ensures c.if-term_names_action.true

pub returns-else-term_names_action : goal.returns-else-term_names_action
returns-else-term_names_action t c =
    by_right (vocabulary_of c.args.table.now).symbols c.args.formula.now c.in-Equal.left c.in-Equal.right _ _ c.in-Equal.is c.term_names_action.ensures c.if-term_names_action.false c.term_names_action-else-term_names_action.ensures
