use Rattle.std.proofs.Common.{◌∙◌, ap, Bool, Some, None}
use Rattle.std.specs.Prelude.{if◌then◌else◌}
use Rattle.cc_dimacs.specs.CnfTexts.{words_in}
use Rattle.cc_dimacs.specs.Reading.{is_kept}
use Rattle.cc_dimacs.proofs.Faults.{stops_line}
use Rattle.cc_dimacs.proofs.progress.Progress.take_line.Goals as goal

pub returns-then-not-branch : goal.returns-then-not-branch
returns-then-not-branch c =
    stops_line (is_kept c.args.heading.variables) c.args.heading.variables c.args.heading.count c.loop-word.self _ (words_in c.loop-word.rest.now) (words_in c.in-Some.behind.now) c.in-Some.word.now
    c.loop-word.invariant c.in-Some.ensures.0 (c.in_ok-take.ensures ∙ ap (λ (b : Bool). if b then Some c.take.new.self else None) c.if-not-branch.true)
