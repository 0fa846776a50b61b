use Rattle.std.proofs.Common.{subst, sym}
use Rattle.cc_form.specs.declared.moving.Move.{Move}
use Rattle.cc_form.specs.Steps.{CanMove}
use Rattle.cc_form.proofs.Copying.{can_move}
use Rattle.cc_form.proofs.moving.keep_later.Goals as goal

pub keep_all_moved-requires : goal.keep_all_moved-requires
keep_all_moved-requires c =
    let can = c.requires.can in
    (can.0, can.1, subst (λ (by : Move). CanMove by can.0) (sym c.move_by.ensures) (can_move c.args.way.now c.args.horizon c.args.steps can.0 c.requires.steps can.2))
