-- Logs of one section, whatever its rows stand for.
use Rattle.std.specs.Prelude.{ℕ, false, List}
use Rattle.cc_defs.specs.declared.log.LogVerdict.{LogVerdict}
use Rattle.cc_defs.specs.declared.log.LogVerdict.TheVariants as verdicts
use Rattle.cc_defs.specs.Logs.{Subject}
use Rattle.cc_defs.specs.Sections.{Axioms}
use Rattle.cc_judge.specs.Judging.{IsBlockedIn}

-- a log over these axioms alone: one section, under the heading of horizon 0
abbrev pub subject_over : Axioms → Subject
subject_over axioms = record { claim = false; first = 0; last = 0; axioms = λ conditions horizon. axioms }

-- Where it is accepted, each row of a kind is blocked in it.
abbrev pub BlocksAll : (Is : List ℕ → Type 0) → List ℕ → LogVerdict → Type 0
BlocksAll Is bytes (verdicts.Accepted first last blocked) = (row : List ℕ) → Is row → IsBlockedIn bytes 0 row
BlocksAll Is bytes (verdicts.Refused line reason) = Unit {0}
