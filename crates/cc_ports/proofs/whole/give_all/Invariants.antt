use Rattle.std.proofs.Common.{length, take, ◌-◌, ◌≡◌, ◌≤◌, option_map}
use Rattle.cc_ports.specs.Contents.{appended}
use Rattle.cc_ports.proofs.Called.{HaveGiven}
use Rattle.cc_ports.proofs.whole.give_all.Given as goal

abbrev pub invariant-loop-given : goal.invariant-loop-given
invariant-loop-given g l = record {
  within : l.given ≤ length l.bytes;
  told : (g.D.Desk.seen l.desk).told ≡ option_map (appended l.to (take l.given l.bytes)) (g.D.Desk.seen l.fn.desk).told;
  begun : (g.D.Desk.seen l.desk).begun ≡ (g.D.Desk.seen l.fn.desk).begun;
  calls : HaveGiven l.to (g.D.Desk.seen l.fn.desk).calls (g.D.Desk.seen l.desk).calls;
  calm : ((g.D.Desk.seen l.desk).reads ≡ (g.D.Desk.seen l.fn.desk).reads) × ((g.D.Desk.seen l.desk).writes ≡ (g.D.Desk.seen l.fn.desk).writes);
  reads_count : (g.D.Desk.seen l.fn.desk).reads ≤ (g.D.Desk.seen l.desk).reads;
  writes_count : (g.D.Desk.seen l.fn.desk).writes ≤ (g.D.Desk.seen l.desk).writes;
}

abbrev pub decreases-loop-given : goal.decreases-loop-given
decreases-loop-given g l = length l.bytes - l.given
