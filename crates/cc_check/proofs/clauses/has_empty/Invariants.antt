use Rattle.std.proofs.Common.{◌≡◌, ◌≢◌, ℕ, ◌<◌, List, [], Some}
use Rattle.std.specs.Prelude.{slice_get}
use Rattle.cc_defs.specs.Clauses.{Literal}
use Rattle.cc_check.proofs.clauses.has_empty.Given as goal

abbrev pub invariant-loop-index : goal.invariant-loop-index
invariant-loop-index l = (k : ℕ) → k < l.index → (clause : List Literal) → slice_get l.form.clauses k ≡ Some clause → clause ≢ []
