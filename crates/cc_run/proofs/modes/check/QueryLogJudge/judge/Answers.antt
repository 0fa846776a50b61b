use Rattle.std.proofs.Common.{◌∙◌, subst, sym, Option}
use Rattle.cc_defs.specs.declared.lists.Key.{Key}
use Rattle.std.specs.Prelude.{IfErr}
use Rattle.cc_judge.specs.Judging.{IsJudgeFault}
use Rattle.cc_run.proofs.Judged.{verdict_as}
use Rattle.cc_run.proofs.LogsJudged.{all_three, log_fault}
use Rattle.cc_run.proofs.modes.check.QueryLogJudge.judge.Goals as goal

pub returns-clause-verdict : goal.returns-clause-verdict
returns-clause-verdict c = λ task about.
    let of = about.0 in
    let said = c.judge.ensures in
    all_three c.judge.result (λ verdict judged within blocks. verdict_as task _ c.args.bytes.now verdict (c.as_ref.ensures.value ∙ sym about.1) judged within blocks)
    (said.verdict task.description task.query of.laws_are of.query_is) (said.within task.description task.query of.laws_are of.query_is)
    (said.whole task.description task.query of.laws_are of.query_is)

pub returns-clause-refused : goal.returns-clause-refused
returns-clause-refused c = λ task about.
    let of = about.0 in
    log_fault (IsJudgeFault task.description task.query task.ask.after c.args.bytes.now) c.judge.result
    (subst (λ (key : Option Key). IfErr c.judge.result (IsJudgeFault task.description task.query key c.args.bytes.now)) (c.as_ref.ensures.value ∙ sym about.1)
    (c.judge.ensures.refused task.description task.query of.laws_are of.query_is))
