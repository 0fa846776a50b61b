use Rattle.cc_induction.proofs.Fitting.{step_asked}
use Rattle.cc_induction.proofs.Stepping.{step_stands}
use Rattle.cc_induction.proofs.theorems.steps_are_asked.Goals as goal

pub returns : goal.returns
returns c = λ signature query asked count. (step_asked query signature count asked, (λ d q stands. step_stands query d q count stands))
