use Rattle.std.proofs.Common.{◌≡◌, ◌∙◌, ℕ, List, IfErr, IfOk, OnOk, ap, arith, length, subst}
use Rattle.cc_defs.specs.declared.node.Node.{Node}
use Rattle.cc_ground.specs.Pieces.{list_count, list_nodes}
use Rattle.cc_ground.specs.Views.{HasPut, LacksRoom}
use Rattle.cc_ground.specs.declared.maker.Halt.TheVariants as halts
use Rattle.cc_ground.proofs.Listing.{last_count, last_nodes, lists_begin, lists_counted, lists_end, lists_lack, lists_more}
use Rattle.cc_ground.proofs.Popping.{popped}
use Rattle.cc_ground.proofs.Putting.{err_if, err_on, lacks_so}
use Rattle.cc_ground.proofs.maker.Maker.+put_lists.Goals as goal

pub returns-in_err-more-clause-full : goal.returns-in_err-more-clause-full
returns-in_err-more-clause-full t c =
    let halt = c.in_err-more.field-0.0 in
    lacks_so _ _ halt c.from_residual-in_err-more.result c.from_residual-in_err-more.ensures.1
    (lists_lack c.args.equation.now c.args.indexes.now.items c.in-Some.others.now c.in-Some.constant.now c.in_ok-size.size c.args.left.now _ halt c.loop-index.invariant c.in-Some.ensures.cases.0
    c.in_ok-size.ensures (omega arith) c.in_ok-push.ensures.items c.in_err-more.ensures.full)

pub loop-index-preserved : goal.loop-index-preserved
loop-index-preserved t c =
    lists_more c.args.equation.now c.args.indexes.now.items c.in-Some.others.now c.in_ok-more.more c.in_ok-count.count _ c.pop.new.self.items _ c.loop-index.invariant c.in_ok-push.ensures.items c.in_ok-more.ensures.put
    c.in_ok-more.ensures.count c.in_ok-count.ensures c.in_ok-more.ensures.indexes (λ e. popped c.put_lists.new.indexes c.pop.new.self c.loop-index.indexes.items c.loop-index.index c.pop.ensures.rest e)

pub returns-clause-put : goal.returns-clause-put
returns-clause-put t c =
    lists_end c.args.equation.now c.args.indexes.now.items c.in-Some.others.now c.in-Some.constant.now c.in_ok-size.size c.args.left.now c.loop-index.invariant c.in-Some.ensures.cases.0
    c.in_ok-size.ensures (omega arith)

pub returns-clause-count : goal.returns-clause-count
returns-clause-count t c =
    lists_counted c.args.equation.now c.args.indexes.now.items c.in-Some.others.now c.in-Some.constant.now c.in_ok-size.size c.args.left.now c.loop-index.invariant c.in-Some.ensures.cases.0
    c.in_ok-size.ensures (omega arith)

pub returns-in_err-push-clause-put : goal.returns-in_err-push-clause-put
returns-in_err-push-clause-put t c = err_on _ c.from_residual-in_err-push.result c.from_residual-in_err-push.ensures.0

pub returns-in_err-push-clause-count : goal.returns-in_err-push-clause-count
returns-in_err-push-clause-count t c = err_if _ c.from_residual-in_err-push.result c.from_residual-in_err-push.ensures.0

pub returns-in_err-push-clause-indexes : goal.returns-in_err-push-clause-indexes
returns-in_err-push-clause-indexes t c = err_on _ c.from_residual-in_err-push.result c.from_residual-in_err-push.ensures.0

pub returns-in_err-more-clause-put : goal.returns-in_err-more-clause-put
returns-in_err-more-clause-put t c = err_on _ c.from_residual-in_err-more.result c.from_residual-in_err-more.ensures.0

pub returns-in_err-more-clause-count : goal.returns-in_err-more-clause-count
returns-in_err-more-clause-count t c = err_if _ c.from_residual-in_err-more.result c.from_residual-in_err-more.ensures.0

pub returns-in_err-more-clause-indexes : goal.returns-in_err-more-clause-indexes
returns-in_err-more-clause-indexes t c = err_on _ c.from_residual-in_err-more.result c.from_residual-in_err-more.ensures.0

pub returns-in_err-count-clause-put : goal.returns-in_err-count-clause-put
returns-in_err-count-clause-put t c = err_on _ c.from_residual-in_err-count.result c.from_residual-in_err-count.ensures.0

pub returns-in_err-count-clause-count : goal.returns-in_err-count-clause-count
returns-in_err-count-clause-count t c = err_if _ c.from_residual-in_err-count.result c.from_residual-in_err-count.ensures.0

pub returns-in_err-count-clause-indexes : goal.returns-in_err-count-clause-indexes
returns-in_err-count-clause-indexes t c = err_on _ c.from_residual-in_err-count.result c.from_residual-in_err-count.ensures.0

pub returns-in_err-push-clause-full : goal.returns-in_err-push-clause-full
returns-in_err-push-clause-full t c = lacks_so _ _ halts.OutOfMemory c.from_residual-in_err-push.result c.from_residual-in_err-push.ensures.1 tt

pub returns-in_err-count-clause-full : goal.returns-in_err-count-clause-full
returns-in_err-count-clause-full t c = lacks_so _ _ halts.OutOfMemory c.from_residual-in_err-count.result c.from_residual-in_err-count.ensures.1 tt

pub loop-index-init : goal.loop-index-init
loop-index-init t c = lists_begin c.args.equation.now c.args.indexes.now.items c.in-Some.others.now c.args.self.now

pub returns-in_default-clause-put : goal.returns-in_default-clause-put
returns-in_default-clause-put t c =
    subst (λ (l : List Node). OnOk c.put_list.result (HasPut l c.args.self.now c.put_list.new.self)) (ap (λ (l : List ℕ). list_nodes c.args.equation.now l) c.deref.ensures.value ∙ last_nodes c.args.equation.now c.args.indexes.now.items c.args.left.now c.in_default.ensures.cases) c.put_list.ensures.put

pub returns-in_default-clause-count : goal.returns-in_default-clause-count
returns-in_default-clause-count t c = subst (λ (n : ℕ). IfOk c.put_list.result (λ count. count ≡ n)) (ap (λ (l : List ℕ). list_count c.args.equation.now l) c.deref.ensures.value ∙ last_count c.args.equation.now c.args.indexes.now.items c.args.left.now c.in_default.ensures.cases) c.put_list.ensures.count

pub returns-in_default-clause-full : goal.returns-in_default-clause-full
returns-in_default-clause-full t c =
    subst (λ (l : List Node). IfErr c.put_list.result (LacksRoom (length l) c.args.self.now.room)) (ap (λ (l : List ℕ). list_nodes c.args.equation.now l) c.deref.ensures.value ∙ last_nodes c.args.equation.now c.args.indexes.now.items c.args.left.now c.in_default.ensures.cases) c.put_list.ensures.full
