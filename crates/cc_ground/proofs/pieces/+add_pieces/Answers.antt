use Rattle.std.proofs.Common.{◌≡◌, ◌++◌, OnOk, subst}
use Rattle.cc_ground.specs.Bindings.{environment_of}
use Rattle.cc_ground.specs.Pieces.{pieces_of}
use Rattle.cc_ground.specs.Views.{universe_of}
use Rattle.cc_ground.proofs.Meant.{constant_by_args}
use Rattle.cc_ground.proofs.pieces.+add_pieces.Goals as goal

pub returns-in-Constant : goal.returns-in-Constant
returns-in-Constant t c =
    subst (λ term. OnOk c.add_constant.result (c.add_constant.new.pieces.items ≡ c.args.pieces.now.items ++ pieces_of (universe_of c.args.table.now c.args.sig.now) (environment_of c.args.env.now) c.args.minus term))
    (constant_by_args c.args.term.now c.in-Constant.symbol c.in-Constant.args c.deref.result.now c.in-Constant.is c.deref.ensures.value)
    c.add_constant.ensures
