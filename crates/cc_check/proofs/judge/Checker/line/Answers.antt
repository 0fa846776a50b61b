use Rattle.cc_check.proofs.Judged.{left_alone}
use Rattle.cc_check.proofs.judge.Checker.line.Goals as goal

pub returns-in_default-clause-left : goal.returns-in_default-clause-left
returns-in_default-clause-left c = left_alone _ _ _ _ c.requires.sound

pub returns-in-Heading-clause-left : goal.returns-in-Heading-clause-left
returns-in-Heading-clause-left c = left_alone _ _ _ _ c.requires.sound

pub returns-in-End-clause-left : goal.returns-in-End-clause-left
returns-in-End-clause-left c = left_alone _ _ _ _ c.requires.sound

pub returns-in-Derived-clause-left : goal.returns-in-Derived-clause-left
returns-in-Derived-clause-left c = c.derived.ensures.left

pub returns-in-Block-clause-left : goal.returns-in-Block-clause-left
returns-in-Block-clause-left c = c.block.ensures.left
