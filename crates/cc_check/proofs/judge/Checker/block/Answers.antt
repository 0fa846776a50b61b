use Rattle.std.proofs.Common.{arith, refl}
use Rattle.cc_check.specs.Readers.{numbers_of}
use Rattle.cc_check.proofs.Judged.{block_goes, left_alone, left_more}
use Rattle.cc_check.proofs.judge.Checker.block.Goals as goal

pub returns-clause-passed : goal.returns-clause-passed
returns-clause-passed c version text read =
    block_goes version c.args.may c.args.form.now c.args.self.now.own c.args.self.now.blocks text c.if-not-may.false (numbers_of c.args.row.now)
    c.write_denial.new.out.items c.add.new.self.own c.add.new.self.blocks (rw c.if-self.false at c.requires.sound.empty) (c.if-not-is_row.ensures.0 refl)
    c.in_ok-write_denial.ensures.denial c.in_ok-add.ensures.own c.in_ok-add.ensures.counted read

pub returns-clause-left : goal.returns-clause-left
returns-clause-left c = left_more _ _ _ _ _ _ c.in_ok-add.ensures.sound (let same = c.in_ok-add.ensures.counted in omega arith) c.in_ok-add.ensures.grown

pub returns-then-not-may-clause-left : goal.returns-then-not-may-clause-left
returns-then-not-may-clause-left c = left_alone _ _ _ _ c.requires.sound

pub returns-then-self-clause-left : goal.returns-then-self-clause-left
returns-then-self-clause-left c = left_alone _ _ _ _ c.requires.sound

pub returns-then-not-is_row-clause-left : goal.returns-then-not-is_row-clause-left
returns-then-not-is_row-clause-left c = left_alone _ _ _ _ c.requires.sound
