use Rattle.std.proofs.Common.{◌≡◌, ℕ, [], arith, refl, subst}
use Rattle.cc_defs.specs.LogBytes.{IsNumber, number_bytes}
use Rattle.cc_log.specs.Entries.{AreNumbersIn}
use Rattle.cc_log.proofs.NumberBytes.{one_number_in}
use Rattle.cc_log.proofs.ListBytes.{no_more, one_more_in}
use Rattle.cc_check.proofs.Taken.{numbers_there}
use Rattle.cc_check.proofs.entry.behind_numbers.Goals as goal

pub loop-init : goal.loop-init
loop-init c = ([], record { counted = refl; formed = tt; spelled = refl })

pub loop-preserved : goal.loop-preserved
loop-preserved c =
    let (made, are) = c.loop.invariant in
    (_, one_more_in IsNumber number_bytes c.loop.counter c.args.bytes.now made c.in-Some.field-0-0 c.loop.rest.now c.in-Some.next.now are c.in-Some.ensures.formed c.in-Some.ensures.spelled)

pub returns-in_default : goal.returns-in_default
returns-in_default c =
    let (made, are) = c.loop.invariant in
    no_more IsNumber number_bytes one_number_in c.loop.counter c.args.count c.args.bytes.now made c.loop.rest.now are c.loop-test.true
    (λ number next formed is. c.in_default.ensures number next (record { formed = formed; few = omega arith; spelled = is }))

pub returns : goal.returns
returns c =
    let (made, are) = c.loop.invariant in
    let all : c.loop.counter ≡ c.args.count = omega arith in
    numbers_there c.args.count c.args.bytes.now made c.loop.rest.now (subst (λ (k : ℕ). AreNumbersIn k c.args.bytes.now made c.loop.rest.now) all are)
