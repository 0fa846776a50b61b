use Rattle.std.proofs.Common.{Option, ap, option_map}
use Rattle.cc_form.specs.Parts.{joined_parts}
use Rattle.cc_rivals.specs.declared.timed.Placed.{Placed}
use Rattle.cc_rivals.specs.Making.{term_at, timed_of}
use Rattle.cc_rivals.proofs.Calls.{implies_both, implies_one, literal_fails, rule_fails}
use Rattle.cc_rivals.proofs.putting.imply.Goals as goal
use Rattle.cc_wide.specs.WideLists.{implied}

pub returns-in_err-body : goal.returns-in_err-body
returns-in_err-body c =
    let rule = timed_of c.args.rule in
    literal_fails c.args.draft.now c.literal.new.draft c.from_residual.result rule.now c.in_err-body.field-0.0 (λ sizes made. joined_parts made (implied sizes made.last rule))
    c.from_residual.ensures.1 c.in_err-body.ensures.refused (λ sizes made. rule_fails sizes made rule.now rule.before rule.head)

pub returns-in-Some : goal.returns-in-Some
returns-in-Some c =
    let rule = timed_of c.args.rule in
    implies_both c.args.draft.now c.literal.new.draft c.imply_after.new.draft c.imply_after.result rule.now rule.head c.in_ok-body.body c.in_ok-body.ensures.literal c.in_ok-body.ensures.draft c.in_ok-body.ensures.places
    rule.before (term_at c.in-Some.after) (ap (λ (o : Option Placed). option_map term_at o) c.in-Some.is) c.imply_after.ensures

pub returns-in-None : goal.returns-in-None
returns-in-None c =
    let rule = timed_of c.args.rule in
    implies_one c.args.draft.now c.literal.new.draft c.imply_by.new.draft c.imply_by.result rule.now rule.head c.in_ok-body.body c.in_ok-body.ensures.literal c.in_ok-body.ensures.draft c.in_ok-body.ensures.places
    rule.before (ap (λ (o : Option Placed). option_map term_at o) c.in-None.is) c.imply_by.ensures
