use Rattle.std.proofs.Common.{length}
use Rattle.cc_check.specs.Clauses.{AreSound, reading_as}
use Rattle.cc_check.proofs.Judged.{FoundSoFar}
use Rattle.cc_check.proofs.judge.Checker.find.Given as goal

abbrev pub invariant-loop-rest : goal.invariant-loop-rest
invariant-loop-rest l = record {
  sound : AreSound l.form l.self.own l.self.refuted;
  found : FoundSoFar (reading_as l.version l.may) l.form l.first l.bytes l.self.own l.self.blocks l.line l.rest;
}

abbrev pub decreases-loop-rest : goal.decreases-loop-rest
decreases-loop-rest l = length l.rest
