use Rattle.std.proofs.Common.{◌≡◌, ◌≤◌}
use Rattle.cc_text.specs.Views.{token_views, AreEnds}
use Rattle.cc_text.proofs.Ends.{last_of, CutSoFar}
use Rattle.cc_text.proofs.tokens.ends_of.Given as goal

abbrev pub invariant-loop-i : goal.invariant-loop-i
invariant-loop-i l = record {
  last : l.begun ≡ last_of 0 l.ends.items;
  within : l.begun ≤ l.i;
  ends_are : AreEnds 0 l.ends.items l.i;
  so_far : CutSoFar (token_views l.tokens) l.ends.items l.begun l.i;
}
