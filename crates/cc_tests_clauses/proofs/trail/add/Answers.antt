use Rattle.std.proofs.Common.{◌≡◌, ◌∙◌, List, [], ◌∷◌, ◌++◌, map, ap}
use Rattle.std.proofs.lemmas.List.{map-append}
use Rattle.cc_kernel.specs.Kernels.{KernelView, Entry, clauses_of}
use Rattle.cc_tests_clauses.proofs.trail.add.Goals as goal

pub attach-requires-clause-fits : goal.attach-requires-clause-fits
attach-requires-clause-fits c =
    c.adding_keeps_fit.ensures c.args.trail.now c.args.kernel.now c.block.new.self c.args.clause.now (ap (λ (k : KernelView). k.variables) c.in_ok-id.ensures.added)
    (ap clauses_of c.in_ok-id.ensures.added ∙ map-append (λ (entry : Entry). entry.clause) c.args.kernel.now.entries _) c.requires.fits
