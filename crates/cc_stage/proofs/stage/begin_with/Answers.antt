use Rattle.std.proofs.Common.{◌<◌, ℕ, subst, sym}
use Rattle.cc_clauses.specs.Merging.{code}
use Rattle.cc_stage.proofs.Marked.{begun, on_err, same_clause}
use Rattle.cc_stage.proofs.stage.begin_with.Goals as goal

pub returns-in_err-make_room-clause-kept : goal.returns-in_err-make_room-clause-kept
returns-in_err-make_room-clause-kept c = on_err _ c.from_residual.result (same_clause c.make_room.new.marks.items c.args.marks.now.items c.make_room.ensures.same)

pub returns-clause-begun : goal.returns-clause-begun
returns-clause-begun c =
    begun c.clear.new.marks.items c.put_all.new.marks.items c.args.clause.now c.clear.ensures.none
    (λ literal here. subst (λ (n : ℕ). code literal < n) (sym c.clear.ensures.length) (c.in_ok-make_room.ensures.within literal here))
    c.requires.clause c.requires.some c.put_all.ensures.marks
