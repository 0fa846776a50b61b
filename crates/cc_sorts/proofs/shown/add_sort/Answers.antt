use Rattle.std.proofs.Common.{[], arith}
use Rattle.cc_sorts.proofs.Vectors.{lists_end}
use Rattle.cc_sorts.proofs.shown.add_sort.Goals as goal

pub returns-clause-listed : goal.returns-clause-listed
returns-clause-listed c = lists_end c.args.lists.now.items c.reserve.new.self.items c.push.new.self.items c.new.result [] c.reserve.ensures.items c.new.ensures.items c.in_ok-push.ensures.items

pub returns-in_err-push-clause-unchanged : goal.returns-in_err-push-clause-unchanged
returns-in_err-push-clause-unchanged c = absurd (let room = c.in_ok-reserve.ensures.ok in let full = c.in_err-push.ensures.full in omega arith)

pub returns-in_err-push-clause-lists_kept : goal.returns-in_err-push-clause-lists_kept
returns-in_err-push-clause-lists_kept c = absurd (let room = c.in_ok-reserve.ensures.ok in let full = c.in_err-push.ensures.full in omega arith)
