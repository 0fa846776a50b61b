use Rattle.std.proofs.Common.{◌≡◌, ◌≤◌, true, false, take}
use Rattle.cc_defs.specs.Tokens.{is_gap, ends_inside, line_feeds}
use Rattle.cc_text.proofs.scanner.gap_of.Given as goal

abbrev pub invariant-loop-i : goal.invariant-loop-i
invariant-loop-i l = record {
  space : is_gap false (take l.i l.bytes) ≡ true;
  in_is : l.inside ≡ ends_inside false (take l.i l.bytes);
  lines_are : l.lines ≡ line_feeds (take l.i l.bytes);
  few : l.lines ≤ l.i;
}
