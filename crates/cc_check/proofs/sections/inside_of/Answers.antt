use Rattle.cc_check.proofs.FirstTexts.{text_shorter}
use Rattle.std.proofs.Common.{refl, rules}
use Rattle.cc_defs.specs.Logs.{IsNoHeading}
use Rattle.cc_check.proofs.Parted.{cut_some, inside_at, inside_begun, inside_more, inside_all}
use Rattle.cc_check.proofs.sections.inside_of.Goals as goal

pub loop-rest-init : goal.loop-rest-init
loop-rest-init c = inside_begun c.args.version (IsNoHeading c.args.version) c.args.all.now

pub returns-in-Some : goal.returns-in-Some
returns-in-Some c =
    inside_at c.args.version c.args.all.now c.loop-rest.rest.now c.loop-rest.count c.loop-rest.invariant c.cut_text-heading.ensures.text c.cut_text-heading.result.1.now
    c.ahead-bytes.result.now c.in-Some.heading c.cut_text-heading.result.1 c.cut_text-heading.ensures.first (rw c.in-Some.is at c.cut_text-heading.ensures.read)
    c.ahead-bytes.ensures refl

pub loop-rest-preserved : goal.loop-rest-preserved
loop-rest-preserved c =
    inside_more c.args.version (IsNoHeading c.args.version) c.args.all.now c.loop-rest.rest.now c.loop-rest.count c.loop-rest.invariant
    c.cut_text-heading.ensures.text c.cut_text-heading.result.1.now (cut_some _ _ _ _ c.cut_text-heading.ensures.first) c.cut_text-heading.ensures.first
    (rw c.in_default.is at c.cut_text-heading.ensures.read)

pub returns : goal.returns
returns c = inside_all c.args.version c.args.all.now c.loop-rest.rest.now c.loop-rest.count c.loop-rest.invariant (search rules)

pub loop-rest-smaller : goal.loop-rest-smaller
loop-rest-smaller c = text_shorter _ _ _ _ c.cut_text-heading.ensures.first
