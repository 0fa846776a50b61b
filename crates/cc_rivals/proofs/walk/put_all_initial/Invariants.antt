use Rattle.std.proofs.Common.{drop, option_map}
use Rattle.cc_wide.specs.WideLists.{all_initial_wide}
use Rattle.cc_rivals.specs.Putting.{put_rules}
use Rattle.cc_rivals.proofs.Folding.{Stands}
use Rattle.cc_rivals.proofs.walk.put_all_initial.Given as goal

abbrev pub invariant-loop-number : goal.invariant-loop-number
invariant-loop-number l = Stands (put_rules (option_map (λ row. row.now) l.row)) l.initial.draft l.draft (all_initial_wide l.number (drop l.number l.sig.fluents)) (all_initial_wide 0 l.sig.fluents)
