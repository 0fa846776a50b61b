use Rattle.std.proofs.Common.{length, ℕ, List, ◌++◌, ◌-◌, ◌≡◌, ◌≤◌, Some, IfSome, option_map, vec_len}
use Rattle.cc_ports.specs.Contents.{with_rest}
use Rattle.cc_ports.proofs.Called.{HaveRead}
use Rattle.cc_ports.proofs.whole.read_all.Given as goal

abbrev pub invariant-loop-bytes : goal.invariant-loop-bytes
invariant-loop-bytes g l = record {
  within : vec_len l.bytes ≤ l.most;
  piece : length l.piece ≡ 4096;
  told : (rest : List ℕ) × ((g.D.Desk.seen l.desk).told ≡ option_map (with_rest rest) (g.D.Desk.seen l.fn.desk).told)
      × IfSome (g.D.Desk.seen l.fn.desk).told (λ c. c.files l.name ≡ Some (l.bytes.items ++ rest));
  begun : (g.D.Desk.seen l.desk).begun ≡ (g.D.Desk.seen l.fn.desk).begun;
  calls : HaveRead l.name (vec_len l.bytes) (g.D.Desk.seen l.fn.desk).calls (g.D.Desk.seen l.desk).calls;
  calm : ((g.D.Desk.seen l.desk).reads ≡ (g.D.Desk.seen l.fn.desk).reads) × ((g.D.Desk.seen l.desk).writes ≡ (g.D.Desk.seen l.fn.desk).writes);
  reads_count : (g.D.Desk.seen l.fn.desk).reads ≤ (g.D.Desk.seen l.desk).reads;
  writes_count : (g.D.Desk.seen l.fn.desk).writes ≤ (g.D.Desk.seen l.desk).writes;
}

abbrev pub decreases-loop-bytes : goal.decreases-loop-bytes
decreases-loop-bytes g l = l.most - vec_len l.bytes
