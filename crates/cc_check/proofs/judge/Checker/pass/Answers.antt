use Rattle.cc_check.proofs.judge.Checker.pass.Goals as goal

pub returns-clause-passed : goal.returns-clause-passed
returns-clause-passed c = record {
  text = c.read_text.ensures.text;
  first = c.read_text.ensures.first;
  passed = c.in_ok-pass.ensures.passed c.read_text.ensures.text c.read_text.ensures.read;
}

pub returns-clause-left : goal.returns-clause-left
returns-clause-left c = c.in_ok-pass.ensures.left
