use Rattle.std.proofs.Common.{arith}
use Rattle.cc_sorts.proofs.Spaces.{has_space}
use Rattle.cc_sorts.proofs.Vectors.{same_lists, grown}
use Rattle.cc_sorts.proofs.shown.reserve_at.Goals as goal

pub returns-in_err-reserve-clause-same : goal.returns-in_err-reserve-clause-same
returns-in_err-reserve-clause-same c =
    same_lists c.args.lists.now.items c.args.number c.index_mut-list.result.now c.reserve.new.self (omega (arith, c.args.lists.now.ok.0, c.requires))
    c.index_mut-list.ensures.value c.reserve.ensures.items

pub returns-in_err-reserve-clause-grown : goal.returns-in_err-reserve-clause-grown
returns-in_err-reserve-clause-grown c =
    grown c.args.lists.now.items c.args.number c.index_mut-list.result.now c.reserve.new.self (omega (arith, c.args.lists.now.ok.0, c.requires))
    c.index_mut-list.ensures.value c.reserve.ensures.capacity

pub returns-clause-same : goal.returns-clause-same
returns-clause-same c =
    same_lists c.args.lists.now.items c.args.number c.index_mut-list.result.now c.reserve.new.self (omega (arith, c.args.lists.now.ok.0, c.requires))
    c.index_mut-list.ensures.value c.reserve.ensures.items

pub returns-clause-grown : goal.returns-clause-grown
returns-clause-grown c =
    grown c.args.lists.now.items c.args.number c.index_mut-list.result.now c.reserve.new.self (omega (arith, c.args.lists.now.ok.0, c.requires))
    c.index_mut-list.ensures.value c.reserve.ensures.capacity

pub returns-clause-room : goal.returns-clause-room
returns-clause-room c =
    has_space c.args.lists.now.items c.args.number c.index_mut-list.result.now c.reserve.new.self (omega (arith, c.args.lists.now.ok.0, c.requires))
    c.index_mut-list.ensures.value c.args.more c.reserve.ensures.items (omega (arith, c.in_ok-reserve.ensures.ok, c.reserve.new.self.ok.0))
