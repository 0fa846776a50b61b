use Rattle.std.specs.Option.{option_map}
use Rattle.cc_defs.specs.Trees.{boxed_tree}
use Rattle.cc_laws.specs.Vocabulary.{vocabulary_of}
use Rattle.cc_laws.proofs.Valued.{law_framed}
use Rattle.cc_laws.proofs.expansion.law_frame.Goals as goal

pub returns : goal.returns
returns c =
    let source = c.args.source.now in
    law_framed source.file source.line (vocabulary_of c.args.table.now) source.variables.now (option_map boxed_tree source.test.now) c.in_ok-names.names c.written_test.new.names c.in_ok-ranges.ranges c.in_ok-test.test
    c.in_ok-names.ensures.scope c.in_ok-names.ensures.next c.in_ok-ranges.ensures c.in_ok-test.ensures.made c.in_ok-test.ensures.kept c.in_ok-test.ensures.next
