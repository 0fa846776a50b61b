use Rattle.std.proofs.Common.{length}
use Rattle.cc_defs.specs.LogTexts.{lines_in}
use Rattle.cc_check.proofs.SilentLogs.{AreFewSoFar, SilentSoFar}
use Rattle.cc_check.proofs.silent.judge_behind.Given as goal

abbrev pub invariant-loop-rest : goal.invariant-loop-rest
invariant-loop-rest g l =
    AreFewSoFar l.place.before l.line l.rest
    × ((of : g.S.Silent.Of) → g.S.Silent.Is l.kind of → SilentSoFar (g.S.Silent.subject of) (lines_in l.body) l.place l.line l.rest)

abbrev pub decreases-loop-rest : goal.decreases-loop-rest
decreases-loop-rest g l = length l.rest
