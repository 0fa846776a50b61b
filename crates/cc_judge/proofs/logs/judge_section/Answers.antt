use Rattle.std.proofs.Common.{Bor, option_map, refl, sym}
use Rattle.cc_arena.specs.GroundViews.{plain_ground_query}
use Rattle.cc_check.specs.Clauses.{plain_finding}
use Rattle.cc_defs.specs.declared.lists.Key.{Key}
use Rattle.cc_judge.specs.Standings.{IsSectionFault, scope_of, seen}
use Rattle.cc_judge.proofs.Counting.{forward, room_for}
use Rattle.cc_judge.proofs.Passing.{as_err, form_good, section_at_limit, section_judged}
use Rattle.cc_judge.proofs.Placing.{query_at}
use Rattle.cc_judge.proofs.Spelling.{found_text, placed_text}
use Rattle.cc_judge.proofs.logs.judge_section.Goals as goal

pub form_at-requires-clause-query : goal.form_at-requires-clause-query
form_at-requires-clause-query c =
    query_at c.args.sig.now (plain_ground_query c.args.query.now) c.args.after (seen c.args.standing.now) c.args.section.now.conditions c.args.section.now.horizon c.args.section.now.horizon
    c.requires.steps c.requires.key c.requires.first (c.is_next.ensures.0 c.if-not-is_next.false) refl

pub returns-in_err-form-clause-refused : goal.returns-in_err-form-clause-refused
returns-in_err-form-clause-refused c = λ d q of stands text is.
    as_err (IsSectionFault (scope_of d q (option_map (λ (key : Bor Key). key.now) c.args.after)) (seen c.args.standing.now) text) c.from_residual.result c.in_err-form.field-0.0
    c.from_residual.ensures.1
    (section_at_limit (plain_ground_query c.args.query.now) d q stands c.args.after (seen c.args.standing.now) text c.args.section.now.horizon c.args.section.now.conditions
    c.in_err-form.field-0.0 (sym is.horizon) (sym is.conditions)
    (placed_text (plain_ground_query c.args.query.now) (option_map (λ (key : Bor Key). key.now) c.args.after) (seen c.args.standing.now) c.args.section.now text is
    (c.is_next.ensures.0 c.if-not-is_next.false)) (c.in_err-form.ensures.refused d q of stands))

pub follow-requires-clause-room : goal.follow-requires-clause-room
follow-requires-clause-room c =
    let (text, is, early) = c.requires.early in
    room_for c.in_ok-form.form c.args.standing.now.blocked text c.in_ok-finding.finding early
    (found_text c.in_ok-form.form c.args.section.now text (plain_finding c.in_ok-finding.finding) is c.in_ok-finding.ensures)

pub returns-clause-judged : goal.returns-clause-judged
returns-clause-judged c = λ d q of stands text is.
    section_judged c.resolvents_are_sound.ensures c.denial_leaves_others.ensures (plain_ground_query c.args.query.now) d q stands c.args.after (seen c.args.standing.now)
    text c.args.section.now.horizon c.args.section.now.conditions c.args.section.now.conditions c.in_ok-form.form (plain_finding c.in_ok-finding.finding) c.follow.result (sym is.horizon)
    (sym is.conditions) (sym is.conditions)
    (placed_text (plain_ground_query c.args.query.now) (option_map (λ (key : Bor Key). key.now) c.args.after) (seen c.args.standing.now) c.args.section.now text is
    (c.is_next.ensures.0 c.if-not-is_next.false)) (c.in_ok-form.ensures.made d q of stands) (c.in_ok-form.ensures.within d q of stands)
    (form_good _ c.in_ok-form.form c.form.view_is c.form.invariant.axioms)
    (c.in_ok-form.ensures.tells d q of stands)
    (found_text c.in_ok-form.form c.args.section.now text (plain_finding c.in_ok-finding.finding) is c.in_ok-finding.ensures) c.follow.ensures

pub returns-clause-forward : goal.returns-clause-forward
returns-clause-forward c = λ text is early.
    forward c.in_ok-form.form (seen c.args.standing.now) text c.args.section.now.conditions (plain_finding c.in_ok-finding.finding) c.follow.result early
    (found_text c.in_ok-form.form c.args.section.now text (plain_finding c.in_ok-finding.finding) is c.in_ok-finding.ensures) c.follow.ensures
