use Rattle.std.proofs.Common.{[], ◌∷◌, arith, ap}
use Rattle.cc_sorts.proofs.Vectors.{lists_end, if_err}
use Rattle.cc_sorts.specs.Lists.{lists_of}
use Rattle.cc_sorts.proofs.lists.put_lists.Goals as goal

pub returns-clause-members : goal.returns-clause-members
returns-clause-members c = lists_end c.args.members.now.items c.reserve-3.new.self.items c.push-3.new.self.items c.new.result [] c.reserve-3.ensures.items c.new.ensures.items c.in_ok-push-3.ensures.items

pub returns-clause-above : goal.returns-clause-above
returns-clause-above c =
    lists_end c.args.above.now.items c.reserve.new.self.items c.push.new.self.items c.in_ok-uppers.uppers (c.args.number ∷ []) c.reserve.ensures.items c.in_ok-uppers.ensures.items c.in_ok-push.ensures.items

pub returns-clause-below : goal.returns-clause-below
returns-clause-below c =
    lists_end c.args.below.now.items c.reserve-2.new.self.items c.push-2.new.self.items c.in_ok-lowers.lowers (c.args.number ∷ []) c.reserve-2.ensures.items c.in_ok-lowers.ensures.items c.in_ok-push-2.ensures.items

pub returns-in_err-push-clause-above : goal.returns-in_err-push-clause-above
returns-in_err-push-clause-above c = absurd (let room = c.in_ok-reserve.ensures.ok in let full = c.in_err-push.ensures.full in omega arith)

pub returns-in_err-push-clause-below : goal.returns-in_err-push-clause-below
returns-in_err-push-clause-below c = absurd (let room = c.in_ok-reserve.ensures.ok in let full = c.in_err-push.ensures.full in omega arith)

pub returns-in_err-push-clause-members : goal.returns-in_err-push-clause-members
returns-in_err-push-clause-members c = absurd (let room = c.in_ok-reserve.ensures.ok in let full = c.in_err-push.ensures.full in omega arith)

pub returns-in_err-push-2-clause-above : goal.returns-in_err-push-2-clause-above
returns-in_err-push-2-clause-above c = absurd (let room = c.in_ok-reserve-2.ensures.ok in let full = c.in_err-push-2.ensures.full in omega arith)

pub returns-in_err-push-2-clause-below : goal.returns-in_err-push-2-clause-below
returns-in_err-push-2-clause-below c = absurd (let room = c.in_ok-reserve-2.ensures.ok in let full = c.in_err-push-2.ensures.full in omega arith)

pub returns-in_err-push-2-clause-members : goal.returns-in_err-push-2-clause-members
returns-in_err-push-2-clause-members c = absurd (let room = c.in_ok-reserve-2.ensures.ok in let full = c.in_err-push-2.ensures.full in omega arith)

pub returns-in_err-push-3-clause-above : goal.returns-in_err-push-3-clause-above
returns-in_err-push-3-clause-above c = absurd (let room = c.in_ok-reserve-3.ensures.ok in let full = c.in_err-push-3.ensures.full in omega arith)

pub returns-in_err-push-3-clause-below : goal.returns-in_err-push-3-clause-below
returns-in_err-push-3-clause-below c = absurd (let room = c.in_ok-reserve-3.ensures.ok in let full = c.in_err-push-3.ensures.full in omega arith)

pub returns-in_err-push-3-clause-members : goal.returns-in_err-push-3-clause-members
returns-in_err-push-3-clause-members c = absurd (let room = c.in_ok-reserve-3.ensures.ok in let full = c.in_err-push-3.ensures.full in omega arith)

pub returns-in_err-uppers-clause-above : goal.returns-in_err-uppers-clause-above
returns-in_err-uppers-clause-above c = if_err c.from_residual-in_err-uppers.result _ _ _ c.from_residual-in_err-uppers.ensures.0 (ap lists_of c.reserve.ensures.items)

pub returns-in_err-uppers-clause-below : goal.returns-in_err-uppers-clause-below
returns-in_err-uppers-clause-below c = if_err c.from_residual-in_err-uppers.result _ _ _ c.from_residual-in_err-uppers.ensures.0 (ap lists_of c.reserve-2.ensures.items)

pub returns-in_err-uppers-clause-members : goal.returns-in_err-uppers-clause-members
returns-in_err-uppers-clause-members c = if_err c.from_residual-in_err-uppers.result _ _ _ c.from_residual-in_err-uppers.ensures.0 (ap lists_of c.reserve-3.ensures.items)

pub returns-in_err-lowers-clause-above : goal.returns-in_err-lowers-clause-above
returns-in_err-lowers-clause-above c = if_err c.from_residual-in_err-lowers.result _ _ _ c.from_residual-in_err-lowers.ensures.0 (ap lists_of c.reserve.ensures.items)

pub returns-in_err-lowers-clause-below : goal.returns-in_err-lowers-clause-below
returns-in_err-lowers-clause-below c = if_err c.from_residual-in_err-lowers.result _ _ _ c.from_residual-in_err-lowers.ensures.0 (ap lists_of c.reserve-2.ensures.items)

pub returns-in_err-lowers-clause-members : goal.returns-in_err-lowers-clause-members
returns-in_err-lowers-clause-members c = if_err c.from_residual-in_err-lowers.result _ _ _ c.from_residual-in_err-lowers.ensures.0 (ap lists_of c.reserve-3.ensures.items)
