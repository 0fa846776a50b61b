use Rattle.std.proofs.Common.{arith, refl}
use Rattle.cc_form.proofs.Positions.{is_row, no_row, row_below, row_long}
use Rattle.cc_form.proofs.places.is_row.Goals as goal

pub returns-then-sizes-row : goal.returns-then-sizes-row
returns-then-sizes-row c = no_row c.args.sizes.now c.args.row.now (λ is. c.if-sizes-row.true (row_long c.args.sizes.now c.args.row.now is))

pub returns-then-row-position : goal.returns-then-row-position
returns-then-row-position c = no_row c.args.sizes.now c.args.row.now (λ is. let less = row_below c.args.sizes.now c.args.row.now is c.loop-position.position c.loop-position-test.true in let most = c.if-row-position.true in omega arith)

pub returns : goal.returns
returns c = (
  λ e. is_row c.args.sizes.now c.args.row.now c.if-sizes-row.false (λ k less. c.loop-position.invariant k (omega arith)),
  λ is. refl,
)
