use Rattle.cc_ground.proofs.Putting.{commons_begin, commons_done, commons_lack, commons_less, commons_more, commons_so, err_on, lacks_so}
use Rattle.cc_ground.proofs.maker.Maker.put_commons.Goals.{in-Some+in_ok-put_common, in_default}
use Rattle.cc_ground.proofs.maker.Maker.put_commons.Goals as goal

pub loop-index-init : goal.loop-index-init
loop-index-init c = commons_begin _ _ _ _ _

pub returns-in_err-put_common-clause-full : goal.returns-in_err-put_common-clause-full
returns-in_err-put_common-clause-full c =
    lacks_so _ _ c.in_err-put_common.field-0.0 c.from_residual.result c.from_residual.ensures.1
    (commons_lack c.in-Some.place c.in_err-put_common.field-0.0 c.loop-index.invariant c.loop-index-test.true c.in-Some.ensures c.in_err-put_common.ensures.full)

pub loop-index-preserved : goal.loop-index-preserved
loop-index-preserved c = elim c.match-index_in.branch [
  | in-Some+in_ok-put_common w ↦
      commons_so w.count-is w.self-is (commons_more w.in-Some.place c.loop-index.invariant c.loop-index-test.true w.in-Some.ensures w.in_ok-put_common.ensures.put)
  | in_default w ↦ commons_so w.count-is w.self-is (commons_less c.loop-index.invariant c.loop-index-test.true w.in_default.ensures)
]

pub returns-in_err-put_common-clause-put : goal.returns-in_err-put_common-clause-put
returns-in_err-put_common-clause-put c = err_on _ c.from_residual.result c.from_residual.ensures.0

pub returns-clause-put : goal.returns-clause-put
returns-clause-put c = (commons_done c.loop-index.invariant c.loop-index-test.false).0
