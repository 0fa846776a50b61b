use Rattle.std.proofs.Common.{refl}
use Rattle.cc_trail.proofs.trail.Trail.empty.Goals as goal

pub returns : goal.returns
returns c = record {
  pairs = c.in_ok-over.field-0;
  none = c.in_ok-over.ensures.none;
  is = rw (c.in_ok-new.ensures, c.in_ok-new-2.ensures, c.new-3.ensures.items, c.new-4.ensures.items, c.variables-variables.ensures.variables) refl;
}
