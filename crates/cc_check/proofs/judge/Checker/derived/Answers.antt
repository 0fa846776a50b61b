use Rattle.std.proofs.Common.{arith}
use Rattle.cc_check.specs.Readers.{chain_of, literals_of, numbers_of}
use Rattle.cc_check.proofs.Judged.{derived_passed, derived_wrong, left_alone, left_more}
use Rattle.cc_check.proofs.judge.Checker.derived.Goals as goal

pub returns-in_ok-add-in-None-clause-passed : goal.returns-in_ok-add-in-None-clause-passed
returns-in_ok-add-in-None-clause-passed c may text read =
    derived_passed c.args.version may c.args.form.now c.args.self.now.own c.args.self.now.blocks text (literals_of c.args.line.now.literals)
    (numbers_of c.args.line.now.numbers) (chain_of c.of-chain.result) c.own_number-own.result c.own_number-own.ensures c.of-chain.ensures read
    c.in_ok-cause.field-0 _ c.add.new.self.own c.add.new.self.blocks c.in_ok-cause.ensures c.in-None.is
    c.in_ok-add-in-None.ensures.own c.in_ok-add-in-None.ensures.counted

pub returns-in-Some-clause-passed : goal.returns-in-Some-clause-passed
returns-in-Some-clause-passed c may text read =
    derived_wrong c.args.version may c.args.form.now c.args.self.now.own c.args.self.now.blocks text (literals_of c.args.line.now.literals)
    (numbers_of c.args.line.now.numbers) (chain_of c.of-chain.result) c.own_number-own.result c.own_number-own.ensures c.of-chain.ensures read
    c.in_ok-cause.field-0 c.in-Some.cause _ c.args.self.now.own c.args.self.now.blocks c.in_ok-cause.ensures c.in-Some.is

pub returns-in_ok-add-in-None-clause-left : goal.returns-in_ok-add-in-None-clause-left
returns-in_ok-add-in-None-clause-left c =
    left_more _ _ _ _ _ _ c.in_ok-add-in-None.ensures.sound (let same = c.in_ok-add-in-None.ensures.counted in omega arith) c.in_ok-add-in-None.ensures.grown

pub returns-in-Some-clause-left : goal.returns-in-Some-clause-left
returns-in-Some-clause-left c = left_alone _ _ _ _ c.requires.sound
