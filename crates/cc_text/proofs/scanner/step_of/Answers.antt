use Rattle.std.proofs.Common.{◌∙◌, [], arith, ap, subst, sym, length-drop}
use Rattle.std.proofs.Common.{length}
use Rattle.cc_text.proofs.Ascii.{token_ascii}
use Rattle.cc_text.proofs.Stepping.{none_first, long_first, token_first}
use Rattle.cc_defs.specs.Tokens.{kind_of, StopsAt}
use Rattle.cc_text.proofs.scanner.step_of.Goals as goal

pub gap_of-gap-requires : goal.gap_of-gap-requires
gap_of-gap-requires c = omega (arith, c.requires)

pub front_of-requires : goal.front_of-requires
front_of-requires c = omega (arith, c.requires, ap length c.behind-rest.ensures, length-drop c.gap_of-gap.result.length c.args.text.now)

pub returns-in_default : goal.returns-in_default
returns-in_default c = subst (StopsAt c.args.file c.args.line c.args.text.now []) (sym c.at.ensures)
    (none_first c.args.file c.args.line c.args.text.now c.gap_of-gap.result.length c.gap_of-gap.result.lines c.behind-rest.result.now
    c.gap_of-gap.ensures c.if-gap-text.false c.behind-rest.ensures c.in_default.ensures)

pub returns-in-Some-passed_limit : goal.returns-in-Some-passed_limit
returns-in-Some-passed_limit c = subst (StopsAt c.args.file c.args.line c.args.text.now []) (sym c.past_at.ensures)
    (long_first c.args.file c.args.line c.args.text.now c.gap_of-gap.result.length c.gap_of-gap.result.lines c.behind-rest.result.now
    c.in-Some.field-0.kind c.in-Some.field-0.length c.ahead-piece.result.now c.in-Some-passed_limit.limit
    c.gap_of-gap.ensures c.if-gap-text.false c.behind-rest.ensures c.in-Some.ensures c.ahead-piece.ensures c.in-Some-passed_limit.ensures)

pub text_of-requires : goal.text_of-requires
text_of-requires c = token_ascii c.ahead-piece.result.now c.in-Some.field-0.kind (ap kind_of c.ahead-piece.ensures ∙ c.in-Some.ensures.kind_is)

pub returns : goal.returns
returns c =
    let f = token_first c.args.line c.args.text.now c.gap_of-gap.result.length c.gap_of-gap.result.lines c.behind-rest.result.now
    c.in-Some.field-0.kind c.in-Some.field-0.length c.ahead-piece.result.now c.text_of.result.now
    c.gap_of-gap.ensures c.if-gap-text.false c.behind-rest.ensures c.in-Some.ensures c.ahead-piece.ensures c.text_of.ensures c.in_default-passed_limit.ensures in
    (f.gap, f.rest, f.positive, f.within, f.skipped, f.is_token, f.short, f.line_is)
