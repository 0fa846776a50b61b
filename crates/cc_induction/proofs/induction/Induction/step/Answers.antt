use Rattle.cc_induction.proofs.Fitting.{made_asked}
use Rattle.cc_induction.proofs.Stepping.{made_stands}
use Rattle.cc_induction.proofs.induction.Induction.step.Goals as goal

pub returns-clause-stands : goal.returns-clause-stands
returns-clause-stands c = λ d q stands. made_stands c.made.result c.args.self.now d q c.args.count c.made.ensures stands

pub returns-clause-asked : goal.returns-clause-asked
returns-clause-asked c = λ signature asked. made_asked c.made.result c.args.self.now signature c.args.count c.made.ensures asked
