use Rattle.std.proofs.Common.{◌++◌}
use Rattle.std.proofs.lemmas.Result.{on_ok_weaker}
use Rattle.cc_defs.specs.Trees.{plain_statement}
use Rattle.cc_defs.specs.Declarations.{declarations_of}
use Rattle.cc_describe.specs.FirstRefusal.{declared_in}
use Rattle.cc_describe.proofs.ProgressLemmas.{says_declared}
use Rattle.cc_describe.proofs.progress.declare.Goals as goal

pub returns-clause-said : goal.returns-clause-said
returns-clause-said c = λ which before is.
    let statement = plain_statement c.args.statement.now in
    let declared = c.in_ok-declare.ensures.declared (declared_in before) is.table in
    on_ok_weaker c.add_laws.result
    (λ made. says_declared which before c.args.file c.args.progress.now.around.items statement c.args.progress.now c.add_laws.new.progress c.declare.new.self c.requires is declared c.add_laws.ensures.rest made.1)
    (c.add_laws.ensures.expanded (declared_in before ++ declarations_of c.args.file statement) declared.1)
