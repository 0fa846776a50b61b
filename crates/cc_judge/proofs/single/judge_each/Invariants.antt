use Rattle.cc_check.specs.SectionTexts.{length_ahead}
use Rattle.cc_judge.specs.Standings.{scope_over}
use Rattle.cc_judge.proofs.Going.{SoFar}
use Rattle.cc_judge.proofs.single.judge_each.Given as goal

abbrev pub invariant-loop-section : goal.invariant-loop-section
invariant-loop-section l = SoFar (Unit {0}) (λ one. scope_over l.form) 0 l.fn.sections l.sections l.standing

abbrev pub decreases-loop-section : goal.decreases-loop-section
decreases-loop-section l = length_ahead l.sections
