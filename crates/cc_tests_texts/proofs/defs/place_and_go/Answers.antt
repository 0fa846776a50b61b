use Rattle.std.proofs.Common.{sym, subst, arith}
use Rattle.cc_defs.specs.Signatures.{AreShort}
use Rattle.cc_tests_texts.proofs.defs.place_and_go.Goals as goal

pub of-requires : goal.of-requires
of-requires c = record {
  few = omega (arith, c.in_ok-vec.ensures.len, c.in_ok-vec-2.ensures.len);
  fluents_short = subst AreShort (sym c.in_ok-vec.ensures.items) (c.in_ok-place.ensures, tt);
  actions_short = subst AreShort (sym c.in_ok-vec-2.ensures.items) (c.in_ok-go.ensures, tt);
}
