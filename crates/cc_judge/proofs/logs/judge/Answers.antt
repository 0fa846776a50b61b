use Rattle.std.proofs.Common.{Bor, option_map}
use Rattle.cc_defs.specs.declared.lists.Key.{Key}
use Rattle.cc_judge.specs.Standings.{scope_of}
use Rattle.cc_judge.proofs.Counting.{are_few}
use Rattle.cc_judge.proofs.Going.{err_fault, ok_blocks, ok_verdict, ok_within}
use Rattle.cc_judge.proofs.logs.judge.Goals as goal

pub judge_sections-requires-clause-few : goal.judge_sections-requires-clause-few
judge_sections-requires-clause-few c =
    let (all, are, split) = c.in-Ok.ensures.read in
    (all, are, are_few c.args.bytes.now all c.requires.few split)

pub returns-clause-verdict : goal.returns-clause-verdict
returns-clause-verdict c = λ d q of stands.
    let (all, are, split) = c.in-Ok.ensures.read in
    ok_verdict (scope_of d q (option_map (λ (key : Bor Key). key.now) c.args.after)) c.args.bytes.now all split c.sections_give_verdicts.ensures c.judge_sections.result
    (c.judge_sections.ensures.judged d q of stands all are (are_few c.args.bytes.now all c.requires.few split))

pub returns-clause-whole : goal.returns-clause-whole
returns-clause-whole c = λ d q of stands.
    let (all, are, split) = c.in-Ok.ensures.read in
    ok_blocks d q (option_map (λ (key : Bor Key). key.now) c.args.after) c.args.bytes.now all split c.judge_sections.result
    (c.judge_sections.ensures.judged d q of stands all are (are_few c.args.bytes.now all c.requires.few split))

pub returns-clause-within : goal.returns-clause-within
returns-clause-within c = λ d q of stands.
    let (all, are, split) = c.in-Ok.ensures.read in
    ok_within d q (option_map (λ (key : Bor Key). key.now) c.args.after) c.args.bytes.now all split c.judge_sections.result
    (c.judge_sections.ensures.judged d q of stands all are (are_few c.args.bytes.now all c.requires.few split))

pub returns-clause-refused : goal.returns-clause-refused
returns-clause-refused c = λ d q of stands.
    let (all, are, split) = c.in-Ok.ensures.read in
    err_fault d q (option_map (λ (key : Bor Key). key.now) c.args.after) c.args.bytes.now all split c.judge_sections.result
    (c.judge_sections.ensures.refused d q of stands all are (are_few c.args.bytes.now all c.requires.few split))
