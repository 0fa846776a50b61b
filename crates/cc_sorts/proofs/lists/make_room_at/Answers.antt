use Rattle.std.proofs.Common.{arith}
use Rattle.cc_sorts.proofs.Vectors.{same_lists, grown, has_room}
use Rattle.cc_sorts.proofs.lists.make_room_at.Goals as goal

pub returns-in_err-reserve-clause-same : goal.returns-in_err-reserve-clause-same
returns-in_err-reserve-clause-same c =
    same_lists c.args.lists.now.items c.args.number c.index_mut-list.result.now c.reserve.new.self (omega (arith, c.args.lists.now.ok.0, c.requires))
    c.index_mut-list.ensures.value c.reserve.ensures.items

pub returns-in_err-reserve-clause-grown : goal.returns-in_err-reserve-clause-grown
returns-in_err-reserve-clause-grown c =
    grown c.args.lists.now.items c.args.number c.index_mut-list.result.now c.reserve.new.self (omega (arith, c.args.lists.now.ok.0, c.requires))
    c.index_mut-list.ensures.value c.reserve.ensures.capacity

pub returns-in_err-reserve-2-clause-same : goal.returns-in_err-reserve-2-clause-same
returns-in_err-reserve-2-clause-same c =
    same_lists c.args.lists.now.items c.args.number c.index_mut-list.result.now c.reserve.new.self (omega (arith, c.args.lists.now.ok.0, c.requires))
    c.index_mut-list.ensures.value c.reserve.ensures.items

pub returns-in_err-reserve-2-clause-grown : goal.returns-in_err-reserve-2-clause-grown
returns-in_err-reserve-2-clause-grown c =
    grown c.args.lists.now.items c.args.number c.index_mut-list.result.now c.reserve.new.self (omega (arith, c.args.lists.now.ok.0, c.requires))
    c.index_mut-list.ensures.value c.reserve.ensures.capacity

pub returns-clause-same : goal.returns-clause-same
returns-clause-same c =
    same_lists c.args.lists.now.items c.args.number c.index_mut-list.result.now c.reserve.new.self (omega (arith, c.args.lists.now.ok.0, c.requires))
    c.index_mut-list.ensures.value c.reserve.ensures.items

pub returns-clause-grown : goal.returns-clause-grown
returns-clause-grown c =
    grown c.args.lists.now.items c.args.number c.index_mut-list.result.now c.reserve.new.self (omega (arith, c.args.lists.now.ok.0, c.requires))
    c.index_mut-list.ensures.value c.reserve.ensures.capacity

pub returns-clause-room : goal.returns-clause-room
returns-clause-room c =
    has_room c.args.lists.now.items c.args.number c.index_mut-list.result.now c.reserve.new.self (omega (arith, c.args.lists.now.ok.0, c.requires))
    c.index_mut-list.ensures.value c.args.more c.reserve-2.new.self.cap c.reserve.ensures.items
    (omega (arith, c.in_ok-reserve.ensures.ok, c.reserve.new.self.ok.0))
    (omega (arith, c.in_ok-reserve-2.ensures.ok, c.len.ensures, c.reserve.new.self.ok.0))
