use Rattle.std.proofs.Common.{◌∙◌, length, length-append, ap}
use Rattle.cc_kernel.specs.declared.kernel.Origin.TheVariants as origins
use Rattle.cc_kernel.specs.Kernels.{KernelView}
use Rattle.cc_cdcl.proofs.Deriving.{attached_alone, attached_back, clauses_added, last_there}
use Rattle.cc_cdcl.proofs.analysis.block.Goals as goal

pub attach-requires-clause-fits : goal.attach-requires-clause-fits
attach-requires-clause-fits c =
    c.adding_keeps_fit.ensures c.back_to.new.self c.args.kernel.now c.block.new.self c.args.clause.now
    (ap (λ (k : KernelView). k.variables) c.in_ok-number.ensures.added)
    (clauses_added c.args.kernel.now c.block.new.self.entries (record { clause = c.args.clause.now; origin = origins.Block })
    (ap (λ (k : KernelView). k.entries) c.in_ok-number.ensures.added))
    (c.back_to.ensures.fits c.args.kernel.now c.requires.fits)

pub returns-clause-back : goal.returns-clause-back
returns-clause-back c =
    attached_back c.adding_keeps_settled.ensures c.args.trail.now c.back_to.new.self c.attach.new.self c.args.kernel.now c.block.new.self
    c.args.clause.now c.block_level-back.result c.block_level-back.ensures.low c.back_to.ensures.back c.requires.all
    (ap (λ (k : KernelView). length k.entries) c.in_ok-number.ensures.added ∙ length-append c.args.kernel.now.entries _)
    (clauses_added c.args.kernel.now c.block.new.self.entries (record { clause = c.args.clause.now; origin = origins.Block })
    (ap (λ (k : KernelView). k.entries) c.in_ok-number.ensures.added))
    c.block_level-back.ensures.mild
    (c.back_to.ensures.settled c.args.kernel.now c.requires.settled) (attached_alone c.back_to.new.self c.attach.new.self c.in_ok-attach.ensures.attached) c.in_ok-attach.ensures.fits c.in_ok-attach.ensures.settled

pub attach-requires-clause-there : goal.attach-requires-clause-there
attach-requires-clause-there c =
    last_there (length c.args.kernel.now.entries) c.block.new.self c.in_ok-number.number (ap (λ (k : KernelView). length k.entries) c.in_ok-number.ensures.added ∙ length-append c.args.kernel.now.entries _) c.in_ok-number.ensures.number
