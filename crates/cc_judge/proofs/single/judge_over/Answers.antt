use Rattle.cc_judge.specs.Standings.{scope_over}
use Rattle.cc_judge.proofs.Counting.{are_few}
use Rattle.cc_judge.proofs.Going.{ok_all, ok_verdict}
use Rattle.cc_judge.proofs.single.judge_over.Goals as goal

pub judge_each-requires : goal.judge_each-requires
judge_each-requires c =
    let (all, are, split) = c.in-Ok.ensures.read in
    (all, are, are_few c.args.bytes.now all c.requires.few split)

pub returns-clause-verdict : goal.returns-clause-verdict
returns-clause-verdict c =
    let (all, are, split) = c.in-Ok.ensures.read in
    ok_verdict (scope_over c.args.form.now) c.args.bytes.now all split c.sections_give_verdicts.ensures c.judge_each.result
    (c.judge_each.ensures all are (are_few c.args.bytes.now all c.requires.few split))

pub returns-clause-blocks : goal.returns-clause-blocks
returns-clause-blocks c =
    let (all, are, split) = c.in-Ok.ensures.read in
    ok_all c.args.form.now c.args.bytes.now all split c.judge_each.result
    (c.judge_each.ensures all are (are_few c.args.bytes.now all c.requires.few split))
