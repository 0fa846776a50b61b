use Rattle.cc_silent.proofs.SureHeadings.{no_space}
use Rattle.cc_silent.proofs.sure.number_and_space.Goals as goal

pub returns-in_default-behind_space : goal.returns-in_default-behind_space
returns-in_default-behind_space c = no_space c.args.text.now c.in-Some.rest.now c.in-Some.number c.in-Some.ensures c.in_default-behind_space.ensures
