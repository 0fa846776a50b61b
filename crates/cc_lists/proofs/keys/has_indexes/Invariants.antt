use Rattle.cc_form.specs.Places.{position_sizes}
use Rattle.cc_lists.proofs.Positions.{AreWithin}
use Rattle.cc_lists.proofs.keys.has_indexes.Given as goal

abbrev pub invariant-loop-position : goal.invariant-loop-position
invariant-loop-position l = AreWithin (position_sizes l.sig l.horizon) l.row l.position
