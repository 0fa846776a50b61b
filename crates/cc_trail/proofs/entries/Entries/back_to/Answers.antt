use Rattle.std.proofs.Common.{◌<◌, ◌≤◌, ℕ, subst}
use Rattle.cc_trail.proofs.Backs.{going_begins, going_on, going_ends, fewer}
use Rattle.cc_trail.proofs.entries.Entries.back_to.Goals as goal

pub loop-self-init : goal.loop-self-init
loop-self-init c = going_begins c.args.self.now c.args.level c.requires

pub loop-self-preserved : goal.loop-self-preserved
loop-self-preserved c =
    going_on c.args.self.now c.loop-self.self c.pop.new.self c.args.level c.loop-self.invariant
    (subst (λ (n : ℕ). c.args.level < n) c.level_count.ensures.levels c.loop-self-test.true) c.pop.ensures

pub loop-self-smaller : goal.loop-self-smaller
loop-self-smaller c = fewer c.loop-self.self c.pop.new.self c.pop.ensures

pub returns-clause-back : goal.returns-clause-back
returns-clause-back c =
    going_ends c.args.self.now c.loop-self.self c.args.level c.loop-self.invariant
    (subst (λ (n : ℕ). n ≤ c.args.level) c.level_count.ensures.levels c.loop-self-test.false) c.level_count.ensures.steps

pub returns-clause-steps : goal.returns-clause-steps
returns-clause-steps c = c.level_count.ensures.steps
