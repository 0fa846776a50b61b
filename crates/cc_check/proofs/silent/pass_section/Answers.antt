use Rattle.cc_check.proofs.SilentLogs.{some_read}
use Rattle.cc_check.proofs.silent.pass_section.Goals as goal

pub returns-clause-passed : goal.returns-clause-passed
returns-clause-passed g c = λ of is.
    c.pass_under.ensures.passed of c.args.text.now is
    (some_read (g.S.Silent.subject of) c.args.text.now c.in_ok-heading.field-0 c.in-Some.heading c.in-Some.is (c.in_ok-heading.ensures of is))

pub returns-clause-refused : goal.returns-clause-refused
returns-clause-refused g c = λ of is.
    c.pass_under.ensures.refused of c.args.text.now is
    (some_read (g.S.Silent.subject of) c.args.text.now c.in_ok-heading.field-0 c.in-Some.heading c.in-Some.is (c.in_ok-heading.ensures of is))
