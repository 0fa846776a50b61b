use Rattle.cc_defs.specs.declared.log.Version.TheVariants.{First}
use Rattle.cc_check.specs.Readers.{literals_in, numbers_in}
use Rattle.cc_log.proofs.Lines.{derived_line, no_chain_derived, no_literals_derived}
use Rattle.cc_check.proofs.line.derived_of.Goals as goal

pub returns-in_default : goal.returns-in_default
returns-in_default c = no_literals_derived c.args.body.now c.in_default.ensures

pub returns-in_default-count_chain : goal.returns-in_default-count_chain
returns-in_default-count_chain c =
    no_chain_derived c.args.body.now c.in-Some.tail.now (literals_in First c.in-Some.count c.args.body.now) c.in-Some.ensures c.in_default-count_chain.ensures

pub returns : goal.returns
returns c =
    derived_line c.args.body.now c.in-Some.tail.now (numbers_in First c.in-Some-count_chain.links c.in-Some.tail.now) (literals_in First c.in-Some.count c.args.body.now)
    c.in-Some.ensures c.in-Some-count_chain.ensures.0 c.in-Some-count_chain.ensures.1
