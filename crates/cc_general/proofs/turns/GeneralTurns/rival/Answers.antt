use Rattle.cc_general.proofs.Walking.{sought_result}
use Rattle.cc_general.proofs.turns.GeneralTurns.rival.Goals as goal

pub returns-clause-sought : goal.returns-clause-sought
returns-clause-sought c =
    sought_result _ c.args.self.now c.self.view_is c.args.row.now c.in_ok-form.form c.search_one.result c.search_one.ensures.outcome
    c.in_ok-form.ensures.made c.in_ok-form.ensures.tells c.in_ok-form.ensures.within
