use Rattle.std.proofs.Common.{◌≡◌, ◌+◌, ◌*◌}
use Rattle.cc_dimacs.proofs.Atoms.{IsWithFirst}
use Rattle.cc_dimacs.proofs.form.write_clauses.Given as goal

abbrev pub invariant-loop-index : goal.invariant-loop-index
invariant-loop-index l = (l.draft.last ≡ 2 * l.variables + 1) × IsWithFirst l.initial.draft l.draft l.clauses l.index
