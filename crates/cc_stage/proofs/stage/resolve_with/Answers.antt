use Rattle.cc_stage.proofs.Marked.{on_err, resolvent_marked, same_clause, covered_same, covered_without}
use Rattle.cc_stage.proofs.stage.resolve_with.Goals as goal

pub returns-in_err-make_room-clause-kept : goal.returns-in_err-make_room-clause-kept
returns-in_err-make_room-clause-kept c = on_err _ c.from_residual.result (same_clause c.make_room.new.marks.items c.args.marks.now.items c.make_room.ensures.same)

pub returns-clause-resolved : goal.returns-clause-resolved
returns-clause-resolved c =
    resolvent_marked c.args.marks.now.items c.make_room.new.marks.items c.unmark.new.marks.items c.put_all.new.marks.items c.args.clause.now c.args.pivot
    c.make_room.ensures.same c.in_ok-make_room.ensures.within c.requires.clash c.unmark.ensures c.put_all.ensures.marks

pub put_all-requires-clause-covered : goal.put_all-requires-clause-covered
put_all-requires-clause-covered c =
    covered_without c.make_room.new.marks.items c.unmark.new.marks.items c.make_room.new.touched.items c.args.pivot c.unmark.ensures
    (covered_same c.make_room.new.marks.items c.args.marks.now.items c.args.touched.now.items c.make_room.new.touched.items c.make_room.ensures.same c.make_room.ensures.touched c.requires.covered)
