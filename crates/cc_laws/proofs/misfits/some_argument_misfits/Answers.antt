use Rattle.std.proofs.Common.{arith, sym, ◌∙◌, Bool, ◌||◌, ◌+◌, ap}
use Rattle.cc_laws.specs.Vocabulary.{vocabulary_of}
use Rattle.cc_laws.proofs.Fitted.{no_argument, misfits_from, misfits_here, no_sort}
use Rattle.cc_laws.proofs.misfits.some_argument_misfits.Goals as goal

pub returns-in_default : goal.returns-in_default
returns-in_default c =
    sym (no_argument (vocabulary_of c.args.table.now) c.args.sorts.now c.args.args.now c.loop-place.place (omega (arith, c.in_default.ensures.lookup))) ∙ c.loop-place.invariant

pub loop-place-preserved : goal.loop-place-preserved
loop-place-preserved c =
    let v = vocabulary_of c.args.table.now in
    let i = c.loop-place.place in
    let found = c.in-Some.ensures.lookup in
    sym (misfits_here v c.args.sorts.now c.args.args.now i c.in-Some.argument.now c.argument_misfits.result c.loop-place-test.true (omega (arith, found)) found.1 c.argument_misfits.ensures
    ∙ ap (λ (b : Bool). b || misfits_from v c.args.sorts.now c.args.args.now (i + 1)) c.if-argument_misfits.false) ∙ c.loop-place.invariant

pub returns-then-argument_misfits : goal.returns-then-argument_misfits
returns-then-argument_misfits c =
    let v = vocabulary_of c.args.table.now in
    let i = c.loop-place.place in
    let found = c.in-Some.ensures.lookup in
    sym (misfits_here v c.args.sorts.now c.args.args.now i c.in-Some.argument.now c.argument_misfits.result c.loop-place-test.true (omega (arith, found)) found.1 c.argument_misfits.ensures
    ∙ ap (λ (b : Bool). b || misfits_from v c.args.sorts.now c.args.args.now (i + 1)) c.if-argument_misfits.true) ∙ c.loop-place.invariant

pub returns : goal.returns
returns c = sym (no_sort (vocabulary_of c.args.table.now) c.args.sorts.now c.args.args.now c.loop-place.place c.loop-place-test.false) ∙ c.loop-place.invariant
