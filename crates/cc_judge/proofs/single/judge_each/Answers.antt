use Rattle.std.proofs.Common.{refl, subst, arith}
use Rattle.cc_judge.specs.declared.standing.Next.{Next}
use Rattle.cc_judge.specs.Standings.{IsForward, IsJudgedTo, scope_over, seen}
use Rattle.cc_judge.proofs.Going.{begun_so, came_to_end, section_early, went_on, went_wrong}
use Rattle.cc_judge.proofs.single.judge_each.Goals as goal

pub loop-section-init : goal.loop-section-init
loop-section-init c = begun_so (Unit {0}) (λ one. scope_over c.args.form.now) 0 c.args.sections.now _ (omega arith) (omega arith) (λ one. refl)

pub judge_only-requires-clause-early : goal.judge_only-requires-clause-early
judge_only-requires-clause-early c =
    section_early (Unit {0}) (λ one. scope_over c.args.form.now) 0 c.args.sections.now c.loop-section.sections c.loop-section.standing c.loop-section.invariant
    c.in-Some.section c.next.new.self (rw c.in-Some.is at c.next.ensures.next) c.requires

pub returns-in-Wrong : goal.returns-in-Wrong
returns-in-Wrong c = λ all are few.
    went_wrong (Unit {0}) (λ one. scope_over c.args.form.now) 0 c.args.sections.now c.loop-section.sections c.loop-section.standing c.loop-section.invariant
    c.in-Some.section c.next.new.self (rw c.in-Some.is at c.next.ensures.next) tt all are few c.in-Wrong.line c.in-Wrong.cause
    (λ text is. subst (λ (n : Next). IsJudgedTo (scope_over c.args.form.now) (seen c.loop-section.standing) text n) c.in-Wrong.is (c.in_ok-next.ensures.judged text is))

pub loop-section-preserved : goal.loop-section-preserved
loop-section-preserved c =
    went_on (Unit {0}) (λ one. scope_over c.args.form.now) 0 c.args.sections.now c.loop-section.sections c.loop-section.standing c.loop-section.invariant
    c.in-Some.section c.next.new.self (rw c.in-Some.is at c.next.ensures.next) c.requires c.in-Goes.next
    (λ text is early. subst (λ (n : Next). IsForward (seen c.loop-section.standing) text n) c.in-Goes.is (c.in_ok-next.ensures.forward text is early))
    (λ one text is. subst (λ (n : Next). IsJudgedTo (scope_over c.args.form.now) (seen c.loop-section.standing) text n) c.in-Goes.is (c.in_ok-next.ensures.judged text is))

pub returns : goal.returns
returns c =
    came_to_end (Unit {0}) (λ one. scope_over c.args.form.now) 0 c.args.sections.now c.loop-section.sections c.loop-section.standing c.loop-section.invariant
    c.next.new.self (rw c.in_default.is at c.next.ensures.next) c.closing.result c.closing.ensures tt refl
