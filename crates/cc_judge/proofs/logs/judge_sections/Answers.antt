use Rattle.std.proofs.Common.{◌≤◌, ℕ, Bor, option_map, subst, ap, ◌∙◌, arith}
use Rattle.cc_arena.specs.GroundViews.{plain_ground_query}
use Rattle.cc_defs.specs.declared.lists.Key.{Key}
use Rattle.cc_lists.specs.Horizons.{first_at}
use Rattle.cc_judge.specs.declared.standing.Next.{Next}
use Rattle.cc_judge.specs.Standings.{IsClosedAt, IsFaultOn, IsForward, IsJudgedTo, scope_of, seen}
use Rattle.cc_judge.proofs.Going.{begun_at, begun_so, came_to_end, section_early, went_on, went_past, went_wrong}
use Rattle.cc_judge.proofs.Passing.{as_err}
use Rattle.cc_judge.proofs.Placing.{Asked, first_is, scope_asked}
use Rattle.cc_judge.proofs.logs.judge_sections.Goals as goal

pub loop-section-init : goal.loop-section-init
loop-section-init c =
    let low : first_at (plain_ground_query c.args.query.now) (option_map (λ (key : Bor Key). key.now) c.args.after) ≤ c.first_of-first.result = (let is = c.first_of-first.ensures in omega arith) in
    begun_so (Asked c.args.sig.now c.args.laws.now (plain_ground_query c.args.query.now)) (scope_asked c.args.sig.now c.args.laws.now (plain_ground_query c.args.query.now) (option_map (λ (key : Bor Key). key.now) c.args.after))
    (first_at (plain_ground_query c.args.query.now) (option_map (λ (key : Bor Key). key.now) c.args.after)) c.args.sections.now _ low (omega arith)
    (λ one. ap begun_at
    (c.first_of-first.ensures ∙ first_is (plain_ground_query c.args.query.now) one.description one.query_of one.stands (option_map (λ (key : Bor Key). key.now) c.args.after)))

pub judge_section-requires-clause-early : goal.judge_section-requires-clause-early
judge_section-requires-clause-early c =
    section_early (Asked c.args.sig.now c.args.laws.now (plain_ground_query c.args.query.now)) (scope_asked c.args.sig.now c.args.laws.now (plain_ground_query c.args.query.now) (option_map (λ (key : Bor Key). key.now) c.args.after))
    (first_at (plain_ground_query c.args.query.now) (option_map (λ (key : Bor Key). key.now) c.args.after)) c.args.sections.now c.loop-section.sections c.loop-section.standing c.loop-section.invariant
    c.in-Some.section c.next.new.self (rw c.in-Some.is at c.next.ensures.next) c.requires.few

pub returns-in_err-next-clause-refused : goal.returns-in_err-next-clause-refused
returns-in_err-next-clause-refused c = λ d q of stands all are few.
    as_err (IsFaultOn (scope_of d q (option_map (λ (key : Bor Key). key.now) c.args.after)) all) c.from_residual.result c.in_err-next.field-0.0 c.from_residual.ensures.1
    (went_past (Asked c.args.sig.now c.args.laws.now (plain_ground_query c.args.query.now)) (scope_asked c.args.sig.now c.args.laws.now (plain_ground_query c.args.query.now) (option_map (λ (key : Bor Key). key.now) c.args.after))
    (first_at (plain_ground_query c.args.query.now) (option_map (λ (key : Bor Key). key.now) c.args.after)) c.args.sections.now c.loop-section.sections c.loop-section.standing c.loop-section.invariant
    c.in-Some.section c.next.new.self (rw c.in-Some.is at c.next.ensures.next) (record { description = d; query_of = q; of = of; stands = stands }) all are few c.in_err-next.field-0.0
    (c.in_err-next.ensures.refused d q of stands))

pub returns-in-Wrong-clause-judged : goal.returns-in-Wrong-clause-judged
returns-in-Wrong-clause-judged c = λ d q of stands all are few.
    went_wrong (Asked c.args.sig.now c.args.laws.now (plain_ground_query c.args.query.now)) (scope_asked c.args.sig.now c.args.laws.now (plain_ground_query c.args.query.now) (option_map (λ (key : Bor Key). key.now) c.args.after))
    (first_at (plain_ground_query c.args.query.now) (option_map (λ (key : Bor Key). key.now) c.args.after)) c.args.sections.now c.loop-section.sections c.loop-section.standing c.loop-section.invariant
    c.in-Some.section c.next.new.self (rw c.in-Some.is at c.next.ensures.next) (record { description = d; query_of = q; of = of; stands = stands }) all are few c.in-Wrong.line c.in-Wrong.cause
    (λ text is. subst (λ (n : Next). IsJudgedTo (scope_of d q (option_map (λ (key : Bor Key). key.now) c.args.after)) (seen c.loop-section.standing) text n) c.in-Wrong.is
    (c.in_ok-next.ensures.judged d q of stands text is))

pub loop-section-preserved : goal.loop-section-preserved
loop-section-preserved c =
    went_on (Asked c.args.sig.now c.args.laws.now (plain_ground_query c.args.query.now)) (scope_asked c.args.sig.now c.args.laws.now (plain_ground_query c.args.query.now) (option_map (λ (key : Bor Key). key.now) c.args.after))
    (first_at (plain_ground_query c.args.query.now) (option_map (λ (key : Bor Key). key.now) c.args.after)) c.args.sections.now c.loop-section.sections c.loop-section.standing c.loop-section.invariant
    c.in-Some.section c.next.new.self (rw c.in-Some.is at c.next.ensures.next) c.requires.few c.in-Goes.next
    (λ text is early. subst (λ (n : Next). IsForward (seen c.loop-section.standing) text n) c.in-Goes.is (c.in_ok-next.ensures.forward text is early))
    (λ one text is. subst (λ (n : Next). IsJudgedTo (scope_of one.description one.query_of (option_map (λ (key : Bor Key). key.now) c.args.after)) (seen c.loop-section.standing) text n) c.in-Goes.is
    (c.in_ok-next.ensures.judged one.description one.query_of one.of one.stands text is))

pub returns-clause-judged : goal.returns-clause-judged
returns-clause-judged c = λ d q of stands.
    came_to_end (Asked c.args.sig.now c.args.laws.now (plain_ground_query c.args.query.now)) (scope_asked c.args.sig.now c.args.laws.now (plain_ground_query c.args.query.now) (option_map (λ (key : Bor Key). key.now) c.args.after))
    (first_at (plain_ground_query c.args.query.now) (option_map (λ (key : Bor Key). key.now) c.args.after)) c.args.sections.now c.loop-section.sections c.loop-section.standing c.loop-section.invariant
    c.next.new.self (rw c.in_default.is at c.next.ensures.next) c.closing.result
    (subst (λ (n : ℕ). IsClosedAt n (seen c.loop-section.standing) c.closing.result) c.first_of-first.ensures c.closing.ensures)
    (record { description = d; query_of = q; of = of; stands = stands }) (first_is (plain_ground_query c.args.query.now) d q stands (option_map (λ (key : Bor Key). key.now) c.args.after))
