use Rattle.std.proofs.Common.{◌≡◌, sym, ◌∙◌, arith, true}
use Rattle.cc_text.proofs.Gaps.{gap-grows, feeds-grow, feed_le}
use Rattle.cc_text.proofs.scanner.gap_of.Goals as goal

pub loop-i-preserved : goal.loop-i-preserved
loop-i-preserved c =
    let i = c.loop-i.invariant in
    let next = gap-grows c.args.bytes.now c.loop-i.i c.loop-i.inside c.loop-i-test.true i.space i.in_is (sym c.goes_on.ensures ∙ c.if-not-goes_on.false) in
    let few = i.few in
    let one = feed_le (c.lines_in-lines.result) _ c.lines_in-lines.ensures in
    record {
      space = next.0;
      in_is = c.is_inside_behind-inside.ensures ∙ next.1;
      lines_are = feeds-grow c.args.bytes.now c.loop-i.i c.loop-i.lines c.lines_in-lines.result c.loop-i-test.true i.lines_are c.lines_in-lines.ensures;
      few = omega arith;
    }
