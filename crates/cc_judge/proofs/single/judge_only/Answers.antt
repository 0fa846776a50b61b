use Rattle.std.proofs.Common.{sym}
use Rattle.cc_check.specs.Clauses.{plain_finding}
use Rattle.cc_judge.specs.Standings.{seen}
use Rattle.cc_judge.proofs.Counting.{forward, room_for}
use Rattle.cc_judge.proofs.Passing.{judged_over}
use Rattle.cc_judge.proofs.Spelling.{found_text, only_text}
use Rattle.cc_judge.proofs.single.judge_only.Goals as goal

pub follow-requires-clause-room : goal.follow-requires-clause-room
follow-requires-clause-room c =
    let (text, is, early) = c.requires.early in
    room_for c.args.form.now c.args.standing.now.blocked text c.in_ok-finding.finding early
    (found_text c.args.form.now c.args.section.now text (plain_finding c.in_ok-finding.finding) is c.in_ok-finding.ensures)

pub returns-clause-judged : goal.returns-clause-judged
returns-clause-judged c = λ text is.
    judged_over c.resolvents_are_sound.ensures c.denial_leaves_others.ensures c.args.form.now (seen c.args.standing.now) text c.args.section.now.conditions
    (plain_finding c.in_ok-finding.finding) c.follow.result (sym is.conditions)
    (only_text (seen c.args.standing.now) c.args.section.now text is (c.is_only.ensures.0 c.if-not-is_only.false))
    (found_text c.args.form.now c.args.section.now text (plain_finding c.in_ok-finding.finding) is c.in_ok-finding.ensures) c.follow.ensures

pub returns-clause-forward : goal.returns-clause-forward
returns-clause-forward c = λ text is early.
    forward c.args.form.now (seen c.args.standing.now) text c.args.section.now.conditions (plain_finding c.in_ok-finding.finding) c.follow.result early
    (found_text c.args.form.now c.args.section.now text (plain_finding c.in_ok-finding.finding) is c.in_ok-finding.ensures) c.follow.ensures
