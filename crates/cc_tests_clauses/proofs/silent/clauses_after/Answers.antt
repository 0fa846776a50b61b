use Rattle.cc_tests_clauses.specs.Digits.{no_description, no_question}
use Rattle.cc_tests_clauses.proofs.Behind.{made_at, refused_at, refused_early}
use Rattle.cc_tests_clauses.proofs.silent.clauses_after.Goals as goal

pub returns-in_err-theory-clause-refused : goal.returns-in_err-theory-clause-refused
returns-in_err-theory-clause-refused c =
    refused_early c.from_residual.result c.in_err-theory.field-0.0 c.from_residual.ensures.1 (c.in_err-theory.ensures.refused no_description c.requires.of_laws)

pub returns-clause-made : goal.returns-clause-made
returns-clause-made c =
    made_at c.clauses.result c.in_ok-theory.theory.horizon c.args.key.now c.in_ok-theory.ensures.horizon c.requires.key
    (c.clauses.ensures.list no_description no_question (c.in_ok-theory.ensures.of no_description c.requires.of_laws) c.requires.stands)

pub returns-clause-refused : goal.returns-clause-refused
returns-clause-refused c =
    refused_at c.clauses.result c.in_ok-theory.theory.horizon c.args.key.now c.in_ok-theory.ensures.horizon c.requires.key
    (c.clauses.ensures.refused no_description no_question (c.in_ok-theory.ensures.of no_description c.requires.of_laws) c.requires.stands)
