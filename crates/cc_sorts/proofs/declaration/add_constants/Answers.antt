use Rattle.std.proofs.Common.{◌∷◌, [], ap, arith}
use Rattle.cc_defs.specs.Declarations.{Constant}
use Rattle.cc_defs.specs.Trees.{plain_shape, plain_kind}
use Rattle.cc_sorts.specs.Declaring.{plain_declaration}
use Rattle.cc_sorts.proofs.Adding.{added-more, added-all}
use Rattle.cc_sorts.proofs.declaration.add_constants.Goals as goal

pub loop-shape-preserved : goal.loop-shape-preserved
loop-shape-preserved c = λ file line.
    added-more (plain_declaration file line) _ c.args.found.now.items c.loop-shape.found.items _ c.args.shapes.now c.loop-shape.shape-index _ c.shape-item.result
    (omega (arith, c.loop-shape-test.true)) c.in_ok-push.ensures.items
    (ap (λ shape. Constant (plain_shape shape) (plain_kind c.args.kind.now) file line ∷ []) c.shape-item.is) (c.loop-shape.invariant file line)

pub returns : goal.returns
returns c = λ file line.
    added-all (plain_declaration file line) (λ shape. Constant shape (plain_kind c.args.kind.now) file line) plain_shape c.args.found.now.items _ c.args.shapes.now c.loop-shape.shape-index
    c.loop-shape-test.false (c.loop-shape.invariant file line)
