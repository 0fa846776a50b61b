use Rattle.std.proofs.Common.{map, sym}
use Rattle.cc_defs.specs.Resolved.{plain_query}
use Rattle.cc_defs.specs.Trees.{plain_query_item, plain_statement}
use Rattle.cc_describe.specs.FirstRefusal.{declared_in}
use Rattle.cc_describe.proofs.ProgressLemmas.{says_query, new_label}
use Rattle.cc_describe.proofs.progress.ask.Goals as goal

pub returns-clause-said : goal.returns-clause-said
returns-clause-said c = λ which before is.
    let asked = c.in_ok-query.ensures.asked (declared_in before) is.table in
    let free = sym c.if-gives_taken_label.ensures in
    says_query before c.args.file c.args.progress.now.around.items (plain_statement c.args.statement.now) (map plain_query_item c.args.items.now) c.args.progress.now c.keep.new.self (plain_query c.in_ok-query.query)
    c.requires is free asked c.in_ok-keep.ensures.kept
    (c.in_ok-keep.ensures.labelled (new_label c.args.progress.now.labels (declared_in before) c.args.file (plain_statement c.args.statement.now) (map plain_query_item c.args.items.now) (plain_query c.in_ok-query.query) c.requires free asked))
    c.in_ok-keep.ensures.rest
