use Rattle.std.proofs.Common.{◌≡◌, map}
use Rattle.cc_defs.specs.Resolved.{plain_base_law}
use Rattle.cc_laws.specs.Widening.{widened}
use Rattle.cc_wide.specs.WideLaws.{plain_wide_base}
use Rattle.cc_laws.proofs.wide.all_widened.Given as goal

abbrev pub invariant-loop-law : goal.invariant-loop-law
invariant-loop-law l = map plain_wide_base l.made.items ≡ map widened (map plain_base_law l.yielded)
