use Rattle.cc_theory.proofs.WellGrounded.{well_grounded, theory_of}
use Rattle.cc_theory.proofs.theory.Theory.at.Goals as goal

pub returns-clause-completed : goal.returns-clause-completed
returns-clause-completed c = λ d of row is. c.models_meet_completion.ensures d (well_grounded c.args.sig.now c.args.laws.now d c.requires.laws of) c.args.horizon row is

pub returns-clause-paths : goal.returns-clause-paths
returns-clause-paths c = λ d of row. c.models_are_paths.ensures d (well_grounded c.args.sig.now c.args.laws.now d c.requires.laws of) c.args.horizon row

pub returns-clause-of : goal.returns-clause-of
returns-clause-of c = λ d of.
    theory_of c.made.result c.args.sig.now c.args.horizon d of.signature_is (well_grounded c.args.sig.now c.args.laws.now d c.requires.laws of)
    c.made.ensures.signature c.made.ensures.horizon (c.made.ensures.rules d of)
