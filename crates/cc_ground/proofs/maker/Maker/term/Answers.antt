use Rattle.cc_ground.proofs.Putting.{err_on}
use Rattle.cc_ground.proofs.maker.Maker.term.Goals as goal

pub returns-in_err-place-clause-room : goal.returns-in_err-place-clause-room
returns-in_err-place-clause-room c = err_on _ c.from_residual-in_err-place.result c.from_residual-in_err-place.ensures.0

pub returns-clause-like : goal.returns-clause-like
returns-clause-like c = let like = c.in_ok-put.ensures.put.like in record { table = like.table; sig = like.sig; env = like.env }
