use Rattle.std.proofs.Common.{ap}
use Rattle.cc_defs.specs.declared.tree.Part.{Part}
use Rattle.cc_defs.specs.Resolved.{plain_base_law}
use Rattle.cc_defs.specs.Trees.{plain_part, plain_statement}
use Rattle.cc_laws.specs.Expansion.{base_laws}
use Rattle.cc_laws.specs.LawFaults.{law_refusal, part_fault}
use Rattle.cc_laws.specs.Vocabulary.{vocabulary, vocabulary_of}
use Rattle.cc_laws.proofs.Expansions.{expanded_so}
use Rattle.cc_laws.proofs.Verdicts.{law_refused, listed_so, listed_refused}
use Rattle.cc_laws.proofs.expansion.expand.Goals as goal

pub returns-clause-expanded : goal.returns-clause-expanded
returns-clause-expanded c = λ left is.
    let table = c.args.table.now in
    let statement = plain_statement c.args.statement.now in
    let v = vocabulary_of table in
    listed_so plain_base_law (law_refusal c.args.file (vocabulary left) statement) c.args.file statement.line _ _ (base_laws c.args.file (vocabulary left) statement.line statement.part) c.expand_part.result c.listed.result c.listed.ensures
    (law_refused c.args.file table left statement _ is (ap (λ (part : Part). part_fault v (plain_part part)) c.deref.ensures))
    (expanded_so c.args.file table left statement.line statement.part _ is (ap (λ (part : Part). base_laws c.args.file v statement.line (plain_part part)) c.deref.ensures))
    c.expand_part.ensures.checked c.expand_part.ensures.expanded

pub returns-clause-refused : goal.returns-clause-refused
returns-clause-refused c = λ left is.
    let statement = plain_statement c.args.statement.now in
    listed_refused (law_refusal c.args.file (vocabulary left) statement) c.args.file statement.line _ c.expand_part.result c.listed.result c.listed.ensures
    (law_refused c.args.file c.args.table.now left statement _ is (ap (λ (part : Part). part_fault (vocabulary_of c.args.table.now) (plain_part part)) c.deref.ensures))
    c.expand_part.ensures.refused
