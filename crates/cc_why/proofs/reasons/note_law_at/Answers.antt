use Rattle.std.proofs.Common.{◌∙◌, sym}
use Rattle.cc_why.specs.Noting.{head_step}
use Rattle.cc_why.proofs.Notes.{rule_noted}
use Rattle.cc_why.proofs.reasons.note_law_at.Goals as goal

pub returns-in-Some-clause-noted : goal.returns-in-Some-clause-noted
returns-in-Some-clause-noted c =
    rule_noted c.args.row.now c.args.stride c.args.step c.args.law.now (head_step c.args.law.now.kind c.args.horizon c.args.step) c.in-Some.now c.args.causes.now c.note_law.new.causes
    (sym c.step_of_head.ensures ∙ c.in-Some.is) c.note_law.ensures.noted
