use Rattle.cc_defs.specs.declared.log.Version.TheVariants.{First}
use Rattle.cc_check.specs.Readers.{numbers_in}
use Rattle.cc_log.proofs.Lines.{no_block, block_line}
use Rattle.cc_check.proofs.line.block_of.Goals as goal

pub returns-in_default : goal.returns-in_default
returns-in_default c = no_block c.args.body.now c.in_default.ensures

pub returns : goal.returns
returns c = block_line c.args.body.now (numbers_in First c.in-Some.count c.args.body.now) c.in-Some.ensures.numbers
