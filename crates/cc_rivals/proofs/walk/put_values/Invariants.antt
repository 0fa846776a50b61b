use Rattle.std.proofs.Common.{drop, map, option_map}
use Rattle.cc_defs.specs.Rules.{upto}
use Rattle.cc_rivals.specs.Making.{initial_value}
use Rattle.cc_rivals.specs.Putting.{put_rules}
use Rattle.cc_rivals.proofs.Folding.{Stands}
use Rattle.cc_rivals.proofs.walk.put_values.Given as goal

abbrev pub invariant-loop-value : goal.invariant-loop-value
invariant-loop-value l = Stands (put_rules (option_map (λ row. row.now) l.row)) l.initial.draft l.draft (map (initial_value l.number) (drop l.value (upto l.size))) (map (initial_value l.number) (upto l.size))
