use Rattle.std.proofs.Common.{◌≡◌, ℕ, [], arith, refl, subst}
use Rattle.cc_defs.specs.LogBytes.{literal_bytes}
use Rattle.cc_defs.specs.LogTexts.{IsShortLiteral}
use Rattle.cc_log.specs.Entries.{AreLiteralsIn}
use Rattle.cc_log.proofs.NumberBytes.{one_literal_in}
use Rattle.cc_log.proofs.ListBytes.{no_more, one_more_in}
use Rattle.cc_check.proofs.Taken.{literals_there}
use Rattle.cc_check.proofs.entry.behind_literals.Goals as goal

pub loop-init : goal.loop-init
loop-init c = ([], record { counted = refl; formed = tt; spelled = refl })

pub loop-preserved : goal.loop-preserved
loop-preserved c =
    let (made, are) = c.loop.invariant in
    (_, one_more_in IsShortLiteral literal_bytes c.loop.counter c.args.bytes.now made (record { variable = c.in-Some.field-0-0; positive = c.in-Some.field-0-1 }) c.loop.rest.now c.in-Some.next.now are c.in-Some.ensures.formed c.in-Some.ensures.spelled)

pub returns-in_default : goal.returns-in_default
returns-in_default c =
    let (made, are) = c.loop.invariant in
    no_more IsShortLiteral literal_bytes one_literal_in c.loop.counter c.args.count c.args.bytes.now made c.loop.rest.now are c.loop-test.true
    (λ literal next formed is. c.in_default.ensures literal next (record { formed = formed; spelled = is }))

pub returns : goal.returns
returns c =
    let (made, are) = c.loop.invariant in
    let all : c.loop.counter ≡ c.args.count = omega arith in
    literals_there c.args.count c.args.bytes.now made c.loop.rest.now (subst (λ (k : ℕ). AreLiteralsIn k c.args.bytes.now made c.loop.rest.now) all are)
