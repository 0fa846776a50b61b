use Rattle.cc_sorts.specs.Declaring.{plain_declarations}
use Rattle.cc_sorts.specs.Steps.{IsFrontOf}
use Rattle.cc_sorts.proofs.Walks.{front_at, put_more, on_err}
use Rattle.cc_sorts.proofs.register.Register.put_all.Goals as goal

pub returns-in_err-put-clause-front : goal.returns-in_err-put-clause-front
returns-in_err-put-clause-front c =
    on_err c.from_residual.result (IsFrontOf c.args.self.now (plain_declarations c.args.file c.args.line c.args.new.now) c.put.new.self)
    (front_at c.args.file c.args.line c.args.self.now c.loop-declaration.self c.put.new.self c.args.new.now c.loop-declaration.declaration-index c.declaration-item.result c.loop-declaration-test.true
    c.declaration-item.is c.loop-declaration.invariant c.in_err-put.ensures.front)

pub loop-declaration-preserved : goal.loop-declaration-preserved
loop-declaration-preserved c =
    put_more c.args.file c.args.line c.args.self.now c.loop-declaration.self c.put.new.self c.args.new.now c.loop-declaration.declaration-index c.declaration-item.result c.loop-declaration-test.true
    c.declaration-item.is c.loop-declaration.invariant c.in_ok-put.ensures.put
