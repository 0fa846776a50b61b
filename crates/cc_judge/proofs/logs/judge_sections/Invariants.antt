use Rattle.std.proofs.Common.{Bor}
use Rattle.std.specs.Option.{option_map}
use Rattle.cc_arena.specs.GroundViews.{plain_ground_query}
use Rattle.cc_check.specs.SectionTexts.{length_ahead}
use Rattle.cc_defs.specs.declared.lists.Key.{Key}
use Rattle.cc_lists.specs.Horizons.{first_at}
use Rattle.cc_judge.proofs.Going.{SoFar}
use Rattle.cc_judge.proofs.Placing.{Asked, scope_asked}
use Rattle.cc_judge.proofs.logs.judge_sections.Given as goal

abbrev pub invariant-loop-section : goal.invariant-loop-section
invariant-loop-section l =
    SoFar (Asked l.sig l.laws (plain_ground_query l.query)) (scope_asked l.sig l.laws (plain_ground_query l.query) (option_map (λ (key : Bor Key). key.now) l.after))
    (first_at (plain_ground_query l.query) (option_map (λ (key : Bor Key). key.now) l.after)) l.fn.sections l.sections l.standing

abbrev pub decreases-loop-section : goal.decreases-loop-section
decreases-loop-section l = length_ahead l.sections
