use Rattle.cc_silent.proofs.RivalHeadings.{no_colon}
use Rattle.cc_silent.proofs.general.horizon_at.Goals as goal

pub returns-in_default-behind_colon : goal.returns-in_default-behind_colon
returns-in_default-behind_colon c = no_colon c.args.text.now c.in-Some.rest.now c.in-Some.number c.in-Some.ensures c.in_default-behind_colon.ensures
