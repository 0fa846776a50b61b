use Rattle.std.proofs.Common.{ℕ, arith, subst, sym}
use Rattle.std.specs.Prelude.{◌+◌, ◌-◌, ◌≤◌}
use Rattle.cc_defs.specs.Limits.{most_variables}
use Rattle.cc_cdcl.specs.Brought.{IsCounted}
use Rattle.cc_cdcl.proofs.Brought.{counted_then, lost_few, sum_few}
use Rattle.cc_cdcl.proofs.Deriving.{clash_there}
use Rattle.cc_cdcl.proofs.analysis.step_counted.Goals as goal

pub overflow_add-result : goal.overflow_add-result
overflow_add-result c =
    let few = sum_few c.args.trail.now.steps c.args.trail.now.level_count c.args.kernel.now c.args.pivot c.args.id c.args.held c.brought-brought.result c.clause.result.now
    c.variables-variables.ensures.reached (subst (λ (n : ℕ). n ≤ most_variables) c.variables-variables.ensures.variables c.variables-variables.ensures.most)
    c.requires.clash c.requires.counted c.clause.ensures.is_clause c.clause.ensures.over c.brought-brought.ensures.few in omega arith

pub overflow_sub-result : goal.overflow_sub-result
overflow_sub-result c =
    lost_few c.args.trail.now.steps c.level_count-level.result c.args.kernel.now c.step.new.self c.args.pivot c.args.id c.args.held c.brought-brought.result c.weight-lost.result
    c.clause.result.now c.variables-variables.ensures.reached c.clause.ensures.is_clause c.clause.ensures.clause
    (subst (λ (n : ℕ). IsCounted c.args.trail.now.steps n c.args.kernel.now c.args.held) (sym c.level_count-level.ensures.level_count) c.requires.counted)
    c.brought-brought.ensures.brought c.weight-lost.ensures c.in_ok-step.ensures.resolved

pub returns-clause-counted : goal.returns-clause-counted
returns-clause-counted c =
    subst (λ (n : ℕ). IsCounted c.args.trail.now.steps n c.step.new.self (c.args.held + c.brought-brought.result - c.weight-lost.result))
    c.level_count-level.ensures.level_count
    (counted_then c.args.trail.now.steps c.level_count-level.result c.args.kernel.now c.step.new.self c.args.pivot c.args.id c.args.held c.brought-brought.result
    c.weight-lost.result c.clause.result.now c.variables-variables.ensures.reached c.clause.ensures.is_clause c.clause.ensures.clause
    (subst (λ (n : ℕ). IsCounted c.args.trail.now.steps n c.args.kernel.now c.args.held) (sym c.level_count-level.ensures.level_count) c.requires.counted)
    c.brought-brought.ensures.brought c.weight-lost.ensures c.in_ok-step.ensures.resolved)

pub clause-requires : goal.clause-requires
clause-requires c = clash_there c.args.kernel.now c.args.pivot c.args.id c.requires.clash
