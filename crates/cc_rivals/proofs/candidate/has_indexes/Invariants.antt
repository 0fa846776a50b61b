use Rattle.cc_form.specs.Places.{position_sizes}
use Rattle.cc_rivals.proofs.Indexes.{IsRowFrom}
use Rattle.cc_rivals.proofs.candidate.has_indexes.Given as goal

abbrev pub invariant-loop-position : goal.invariant-loop-position
invariant-loop-position l = IsRowFrom (position_sizes l.sig l.horizon) l.row l.position
