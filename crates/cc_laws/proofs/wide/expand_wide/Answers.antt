use Rattle.std.proofs.Common.{ap}
use Rattle.cc_defs.specs.declared.tree.Part.{Part}
use Rattle.cc_defs.specs.Trees.{plain_part, plain_statement}
use Rattle.cc_laws.specs.Vocabulary.{vocabulary, vocabulary_of}
use Rattle.cc_laws.specs.Widening.{wide_laws, wide_part_fault, wide_refusal}
use Rattle.cc_wide.specs.WideLaws.{plain_wide_base}
use Rattle.cc_laws.proofs.Verdicts.{listed_so, listed_refused}
use Rattle.cc_laws.proofs.Widened.{wide_refused, widened_so}
use Rattle.cc_laws.proofs.wide.expand_wide.Goals as goal

pub returns-clause-expanded : goal.returns-clause-expanded
returns-clause-expanded c = λ left is.
    let table = c.args.table.now in
    let statement = plain_statement c.args.statement.now in
    let v = vocabulary_of table in
    listed_so plain_wide_base (wide_refusal c.args.file (vocabulary left) statement) c.args.file statement.line _ _ (wide_laws c.args.file (vocabulary left) statement.line statement.part) c.expand_wide_part.result c.listed.result c.listed.ensures
    (wide_refused c.args.file table left statement _ is (ap (λ (part : Part). wide_part_fault v (plain_part part)) c.deref.ensures))
    (widened_so c.args.file table left statement.line statement.part _ is (ap (λ (part : Part). wide_laws c.args.file v statement.line (plain_part part)) c.deref.ensures))
    c.expand_wide_part.ensures.checked c.expand_wide_part.ensures.expanded

pub returns-clause-refused : goal.returns-clause-refused
returns-clause-refused c = λ left is.
    let statement = plain_statement c.args.statement.now in
    listed_refused (wide_refusal c.args.file (vocabulary left) statement) c.args.file statement.line _ c.expand_wide_part.result c.listed.result c.listed.ensures
    (wide_refused c.args.file c.args.table.now left statement _ is (ap (λ (part : Part). wide_part_fault (vocabulary_of c.args.table.now) (plain_part part)) c.deref.ensures))
    c.expand_wide_part.ensures.refused
