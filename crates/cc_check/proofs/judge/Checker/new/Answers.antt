use Rattle.std.proofs.Common.{List, append-nil, subst, sym}
use Rattle.cc_defs.specs.Clauses.{Literal}
use Rattle.cc_check.specs.Clauses.{AreSound}
use Rattle.cc_check.proofs.judge.Checker.new.Goals as goal

pub returns-clause-sound : goal.returns-clause-sound
returns-clause-sound c =
    subst (λ (own : List (List Literal)). AreSound c.args.form.now own c.has_empty.result) (sym c.new.ensures)
    (record { clauses = tt; empty = rw append-nil c.has_empty.ensures })
