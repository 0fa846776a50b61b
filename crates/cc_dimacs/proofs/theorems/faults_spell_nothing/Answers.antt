use Rattle.cc_dimacs.proofs.Alone.{faults_spell_nothing}
use Rattle.cc_dimacs.proofs.theorems.faults_spell_nothing.Goals as goal

pub returns : goal.returns
returns c = faults_spell_nothing
