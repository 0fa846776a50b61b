use Rattle.cc_ground.specs.declared.maker.Halt.TheVariants as halts
use Rattle.cc_ground.proofs.Putting.{err_on, lacks_so}
use Rattle.cc_ground.proofs.maker.Maker.put_judged.Goals as goal

pub returns-in_err-add_both-clause-put : goal.returns-in_err-add_both-clause-put
returns-in_err-add_both-clause-put c = err_on _ c.from_residual-in_err-add_both.result c.from_residual-in_err-add_both.ensures.0

pub returns-in_err-add_both-clause-full : goal.returns-in_err-add_both-clause-full
returns-in_err-add_both-clause-full c = lacks_so _ _ halts.OutOfMemory c.from_residual-in_err-add_both.result c.from_residual-in_err-add_both.ensures.1 tt
