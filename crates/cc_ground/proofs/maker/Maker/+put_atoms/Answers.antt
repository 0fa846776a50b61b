use Rattle.std.proofs.Common.{List, IfErr, length, subst}
use Rattle.cc_defs.specs.declared.node.Node.{Node}
use Rattle.cc_ground.specs.declared.maker.Halt.TheVariants as halts
use Rattle.cc_ground.specs.Pieces.{atom_nodes}
use Rattle.cc_ground.specs.Views.{LacksRoom}
use Rattle.cc_ground.proofs.Putting.{atoms_counted, atoms_first, err_if, err_on, lacks_so, put_as, put_both, second_lacks}
use Rattle.cc_ground.proofs.maker.Maker.+put_atoms.Goals as goal

pub returns-in_err-count-clause-put : goal.returns-in_err-count-clause-put
returns-in_err-count-clause-put t c = err_on _ c.from_residual-in_err-count.result c.from_residual-in_err-count.ensures.0

pub returns-in_err-count-clause-count : goal.returns-in_err-count-clause-count
returns-in_err-count-clause-count t c = err_if _ c.from_residual-in_err-count.result c.from_residual-in_err-count.ensures.0

pub returns-in_err-with_more-clause-put : goal.returns-in_err-with_more-clause-put
returns-in_err-with_more-clause-put t c = err_on _ c.from_residual-in_err-with_more.result c.from_residual-in_err-with_more.ensures.0

pub returns-in_err-with_more-clause-count : goal.returns-in_err-with_more-clause-count
returns-in_err-with_more-clause-count t c = err_if _ c.from_residual-in_err-with_more.result c.from_residual-in_err-with_more.ensures.0

pub returns-in_err-with_more-clause-full : goal.returns-in_err-with_more-clause-full
returns-in_err-with_more-clause-full t c = lacks_so _ _ halts.OutOfMemory c.from_residual-in_err-with_more.result c.from_residual-in_err-with_more.ensures.1 tt

pub returns-in_err-count-clause-full : goal.returns-in_err-count-clause-full
returns-in_err-count-clause-full t c =
    let out = c.from_residual-in_err-count in
    subst (λ (l : List Node). IfErr out.result (LacksRoom (length l) c.args.self.now.room)) (atoms_first c.args.constants.now c.args.indexes.now c.in-Some.others.now c.in-Some-split_first.more.now c.in-Some.constant.now c.in-Some-split_first.index.now c.in-Some.ensures.cases.0 c.in-Some-split_first.ensures.cases.0)
    (second_lacks _ (atom_nodes c.in-Some.others.now c.in-Some-split_first.more.now) c.in_err-count.field-0.0 out.result out.ensures.1 c.in_ok-push.ensures.put c.in_err-count.ensures.full)

pub returns-clause-put : goal.returns-clause-put
returns-clause-put t c = put_as (atoms_first c.args.constants.now c.args.indexes.now c.in-Some.others.now c.in-Some-split_first.more.now c.in-Some.constant.now c.in-Some-split_first.index.now c.in-Some.ensures.cases.0 c.in-Some-split_first.ensures.cases.0) (put_both c.in_ok-push.ensures.put c.in_ok-count.ensures.put)

pub returns-clause-count : goal.returns-clause-count
returns-clause-count t c = atoms_counted c.in_ok-with_more.ensures c.in_ok-count.ensures.count (atoms_first c.args.constants.now c.args.indexes.now c.in-Some.others.now c.in-Some-split_first.more.now c.in-Some.constant.now c.in-Some-split_first.index.now c.in-Some.ensures.cases.0 c.in-Some-split_first.ensures.cases.0)
