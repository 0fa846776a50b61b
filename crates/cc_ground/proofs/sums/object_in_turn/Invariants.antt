use Rattle.std.proofs.Common.{◌≡◌, position}
use Rattle.cc_defs.specs.Satisfaction.{is_number}
use Rattle.cc_ground.proofs.Bare.{from_object}
use Rattle.cc_ground.proofs.sums.object_in_turn.Given as goal

abbrev pub invariant-loop-place : goal.invariant-loop-place
invariant-loop-place l = from_object l.plus l.minus l.place l.table.numbers ≡ position (is_number l.plus l.minus) l.table.numbers
