use Rattle.std.proofs.Common.{List, ℕ, ◌++◌, ap, sym, ◌∙◌}
use Rattle.std.specs.Str.Iter.{split_inclusive_text}
use Rattle.cc_ports.specs.declared.desk.To.TheVariants as outputs
use Rattle.cc_tell.proofs.LineSteps.{lines_begin, lines_end, lines_more, lines_stop}
use Rattle.cc_tell.proofs.telling.give_lines.Goals as goal

pub loop-line-init : goal.loop-line-init
loop-line-init g c = record {
  can = tt;
  finite = tt;
  given = lines_begin outputs.Out _ _ _ (ap (λ s. split_inclusive_text s) c.into_iter-line-iterator.ensures.into_iter_gives ∙ c.split_inclusive-line-items.ensures.text);
}

pub loop-line-preserved : goal.loop-line-preserved
loop-line-preserved g c =
    let is = c.in-Some.ensures.steps.1.0 ∙ ap (λ (line : List ℕ). line ++ split_inclusive_text c.next.new.self) (sym c.as_bytes.ensures.value) in
    record {
      can = tt;
      finite = tt;
      given = lines_more outputs.Out _ _ _ _ c.loop-line.invariant.given c.as_bytes.result.now _ is _ c.give.result c.in_ok-give.field-0 c.give.ensures c.in_ok-give.was;
    }

pub returns-in_err-give : goal.returns-in_err-give
returns-in_err-give g c =
    let is = c.in-Some.ensures.steps.1.0 ∙ ap (λ (line : List ℕ). line ++ split_inclusive_text c.next.new.self) (sym c.as_bytes.ensures.value) in
    lines_stop outputs.Out _ _ _ _ c.loop-line.invariant.given c.as_bytes.result.now _ is _ c.give.result c.in_err-give.field-0.0 c.from_residual.result c.give.ensures c.in_err-give.was c.from_residual.ensures.1

pub returns : goal.returns
returns g c = lines_end outputs.Out _ _ _ _ c.loop-line.invariant.given _ c.in-None.ensures.steps.1.0
