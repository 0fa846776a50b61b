use Rattle.std.proofs.Common.{◌∙◌, ◌+◌, ◌&&◌, map, drop, ap, sym, arith}
use Rattle.cc_sorts.specs.Lefts.{are_numbered}
use Rattle.cc_sorts.proofs.Fitting.{lengths_differ, numbered_at}
use Rattle.cc_sorts.proofs.left.are_numbered.Goals as goal

pub returns-then-sorts-numbers : goal.returns-then-sorts-numbers
returns-then-sorts-numbers c = lengths_differ c.args.table.now.sorts.names c.args.sorts.now c.args.numbers.now c.if-sorts-numbers.true

pub returns-then-not-has_number : goal.returns-then-not-has_number
returns-then-not-has_number c =
    let names = c.args.table.now.sorts.names
    in let rest = are_numbered names (map (λ sort. sort.now) (drop (c.loop-i.i + 1) c.args.sorts.now)) (drop (c.loop-i.i + 1) c.args.numbers.now)
    in ap (λ b. b && rest) c.if-not-has_number.ensures
    ∙ sym (numbered_at names c.args.sorts.now c.args.numbers.now c.loop-i.i _ _ (omega (arith, c.loop-i-test.true)) (omega (arith, c.loop-i-test.true, c.if-sorts-numbers.false)))
    ∙ sym c.loop-i.invariant

pub loop-i-preserved : goal.loop-i-preserved
loop-i-preserved c =
    let names = c.args.table.now.sorts.names
    in let rest = are_numbered names (map (λ sort. sort.now) (drop (c.loop-i.i + 1) c.args.sorts.now)) (drop (c.loop-i.i + 1) c.args.numbers.now)
    in c.loop-i.invariant
    ∙ numbered_at names c.args.sorts.now c.args.numbers.now c.loop-i.i _ _ (omega (arith, c.loop-i-test.true)) (omega (arith, c.loop-i-test.true, c.if-sorts-numbers.false))
    ∙ ap (λ b. b && rest) (sym c.if-not-has_number.ensures)
