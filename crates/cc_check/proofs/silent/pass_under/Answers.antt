use Rattle.std.proofs.Common.{◌∙◌, refl, sym}
use Rattle.std.proofs.lemmas.Bool.{false≢true}
use Rattle.cc_check.specs.Clauses.{plain_finding}
use Rattle.cc_check.specs.SilentParts.{IsPassFault}
use Rattle.cc_check.proofs.Headers.{as_err}
use Rattle.cc_check.proofs.SilentLogs.{not_right_stops, pass_fault, right_goes, wrong_stops}
use Rattle.cc_check.proofs.silent.pass_under.Goals as goal

pub returns-then-not-is_right_at-clause-passed : goal.returns-then-not-is_right_at-clause-passed
returns-then-not-is_right_at-clause-passed g c = λ of text is reads.
    not_right_stops (g.S.Silent.subject of) c.args.place c.args.line text c.args.behind.now c.args.heading.now c.in_ok-inside.inside.bytes.now c.in_ok-inside.inside.count c.in_ok-inside.inside.rest.now
    reads (c.in_ok-inside.ensures.inside of is) c.refused.result
    (λ right. false≢true (sym c.if-not-is_right_at.true ∙ (c.is_right_at.ensures.right of is).1 right)) c.refused.ensures

pub returns-in_err-finding-clause-refused : goal.returns-in_err-finding-clause-refused
returns-in_err-finding-clause-refused g c = λ of text is reads.
    as_err (IsPassFault (g.S.Silent.subject of) c.args.place c.args.line _) c.from_residual-in_err-finding.result c.in_err-finding.field-0.0
    c.from_residual-in_err-finding.ensures.1
    (pass_fault (g.S.Silent.subject of) c.args.place c.args.line text c.args.behind.now c.args.heading.now c.in_ok-inside.inside.bytes.now c.in_ok-inside.inside.count c.in_ok-inside.inside.rest.now
    reads (c.in_ok-inside.ensures.inside of is) ((c.is_right_at.ensures.right of is).0 c.if-not-is_right_at.false)
    c.in_err-finding.field-0.0 (c.in_err-finding.ensures.refused of is))

pub returns-in-Some-clause-passed : goal.returns-in-Some-clause-passed
returns-in-Some-clause-passed g c = λ of text is reads.
    wrong_stops (g.S.Silent.subject of) c.args.place c.args.line text c.args.behind.now c.args.heading.now c.in_ok-inside.inside.bytes.now c.in_ok-inside.inside.count c.in_ok-inside.inside.rest.now
    reads (c.in_ok-inside.ensures.inside of is) ((c.is_right_at.ensures.right of is).0 c.if-not-is_right_at.false)
    _ refl (c.in_ok-finding.ensures.within of is) (plain_finding c.in_ok-finding.finding) (c.in_ok-finding.ensures.found of is _ refl)
    c.in-Some.verdict (sym c.refusal_of.ensures ∙ c.in-Some.is)

pub returns-in-None-clause-passed : goal.returns-in-None-clause-passed
returns-in-None-clause-passed g c = λ of text is reads.
    right_goes (g.S.Silent.subject of) c.args.place c.args.line text c.args.behind.now c.args.heading.now c.in_ok-inside.inside.bytes.now c.in_ok-inside.inside.count c.in_ok-inside.inside.rest.now
    reads (c.in_ok-inside.ensures.inside of is) ((c.is_right_at.ensures.right of is).0 c.if-not-is_right_at.false)
    _ refl (c.in_ok-finding.ensures.within of is) (plain_finding c.in_ok-finding.finding) (c.in_ok-finding.ensures.found of is _ refl)
    c.in_ok-inside.inside.rest refl c.closes.result (c.closes.ensures of is) (sym c.refusal_of.ensures ∙ c.in-None.is)

pub returns-in-None-clause-shorter : goal.returns-in-None-clause-shorter
returns-in-None-clause-shorter g c = c.in_ok-inside.ensures.fewer
