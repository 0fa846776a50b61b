use Rattle.cc_defs.specs.declared.log.Version.TheVariants.{Second}
use Rattle.cc_check.specs.Readers.{literals_in, numbers_in}
use Rattle.cc_check.proofs.EntryRead.{no_clause, no_pairs, no_chain, derived_read}
use Rattle.cc_check.proofs.entry.derived_in.Goals as goal

pub returns-in_default-behind_literals : goal.returns-in_default-behind_literals
returns-in_default-behind_literals c = no_clause c.args.body.now c.in-Some.count c.in-Some.clause.now c.in-Some.ensures c.in_default-behind_literals.ensures

pub returns-in_default-number_in : goal.returns-in_default-number_in
returns-in_default-number_in c =
    no_pairs c.args.body.now c.in-Some.count c.in-Some.clause.now (literals_in Second c.in-Some.count c.in-Some.clause.now) c.in-Some-behind_literals.behind.now
    c.in-Some.ensures c.in-Some-behind_literals.ensures c.in_default-number_in.ensures

pub returns-in_default-behind_numbers : goal.returns-in_default-behind_numbers
returns-in_default-behind_numbers c =
    no_chain c.args.body.now c.in-Some.count c.in-Some.clause.now (literals_in Second c.in-Some.count c.in-Some.clause.now) c.in-Some-behind_literals.behind.now
    c.in-Some.ensures c.in-Some-behind_literals.ensures c.in-Some-number_in.pairs c.in-Some-number_in.chain.now c.in-Some-number_in.ensures
    c.in_default-behind_numbers.ensures

pub returns : goal.returns
returns c =
    derived_read c.args.body.now c.in-Some.count c.in-Some.clause.now (literals_in Second c.in-Some.count c.in-Some.clause.now) c.in-Some-behind_literals.behind.now
    c.in-Some.ensures c.in-Some-behind_literals.ensures c.in-Some-number_in.pairs c.in-Some-number_in.chain.now c.in-Some-number_in.ensures
    (numbers_in Second _ c.in-Some-number_in.chain.now) c.in-Some-behind_numbers.rest.now c.in-Some-behind_numbers.ensures
