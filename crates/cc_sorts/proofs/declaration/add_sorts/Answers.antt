use Rattle.std.proofs.Common.{refl, arith}
use Rattle.cc_defs.specs.Declarations.{Sort}
use Rattle.cc_sorts.specs.Declaring.{plain_declaration}
use Rattle.cc_sorts.proofs.Adding.{added-more, added-all}
use Rattle.cc_sorts.proofs.declaration.add_sorts.Goals as goal

pub loop-name-preserved : goal.loop-name-preserved
loop-name-preserved c = λ file line.
    added-more (plain_declaration file line) _ c.args.found.now.items c.loop-name.found.items _ c.args.names.now c.loop-name.name-index _ _
    (omega (arith, c.loop-name-test.true)) c.in_ok-push.ensures.items refl (c.loop-name.invariant file line)

pub returns : goal.returns
returns c = λ file line.
    added-all (plain_declaration file line) (Sort) (λ name. name.now) c.args.found.now.items _ c.args.names.now c.loop-name.name-index
    c.loop-name-test.false (c.loop-name.invariant file line)
