use Rattle.std.proofs.Common.{◌∙◌, ◌+◌, ◌≤◌, ℕ, subst, sym, arith}
use Rattle.cc_kernel.specs.Kernels.{clauses_of}
use Rattle.cc_trail.specs.Steps.{values_of}
use Rattle.cc_cdcl.proofs.Placing.{chosen_value, chosen_variable, position_within, some_open}
use Rattle.cc_cdcl.proofs.choice.next_choice.Goals as goal

pub least_open-value-requires-clause-some : goal.least_open-value-requires-clause-some
least_open-value-requires-clause-some c =
    (position_within 1 c.args.sizes.now c.pass_positions-cursor.result.position (values_of c.args.trail.now.steps) c.pass_positions-cursor.result.first
    c.pass_positions-cursor.ensures.cursor.positions c.if-cursor-sizes.true).0

pub least_open-value-requires-clause-within : goal.least_open-value-requires-clause-within
least_open-value-requires-clause-within c =
    let within = position_within 1 c.args.sizes.now c.pass_positions-cursor.result.position (values_of c.args.trail.now.steps) c.pass_positions-cursor.result.first
    c.pass_positions-cursor.ensures.cursor.positions c.if-cursor-sizes.true in
    let few = c.requires.sizes in omega (arith, within.1)

pub least_open-value-requires-clause-open : goal.least_open-value-requires-clause-open
least_open-value-requires-clause-open c =
    some_open (clauses_of c.args.kernel.now) c.args.sizes.now c.pass_positions-cursor.result.position (values_of c.args.trail.now.steps)
    c.pass_positions-cursor.result.first c.requires.closed c.pass_positions-cursor.ensures.cursor.positions c.if-cursor-sizes.true c.requires.positions

pub overflow_add-cursor : goal.overflow_add-cursor
overflow_add-cursor c =
    let within = position_within 1 c.args.sizes.now c.pass_positions-cursor.result.position (values_of c.args.trail.now.steps) c.pass_positions-cursor.result.first
    c.pass_positions-cursor.ensures.cursor.positions c.if-cursor-sizes.true in
    let few = c.requires.sizes in let low = c.least_open-value.ensures.within in let most = c.variables-variables.ensures.most in
    let same = c.variables-variables.ensures.variables in let equal = c.requires.variables in omega (arith, within.1)

pub positive-requires-clause-some : goal.positive-requires-clause-some
positive-requires-clause-some c =
    let within = position_within 1 c.args.sizes.now c.pass_positions-cursor.result.position (values_of c.args.trail.now.steps) c.pass_positions-cursor.result.first
    c.pass_positions-cursor.ensures.cursor.positions c.if-cursor-sizes.true in omega (arith, within.0)

pub positive-requires-clause-most : goal.positive-requires-clause-most
positive-requires-clause-most c =
    let within = position_within 1 c.args.sizes.now c.pass_positions-cursor.result.position (values_of c.args.trail.now.steps) c.pass_positions-cursor.result.first
    c.pass_positions-cursor.ensures.cursor.positions c.if-cursor-sizes.true in
    let few = c.requires.sizes in let low = c.least_open-value.ensures.within in let most = c.variables-variables.ensures.most in
    let same = c.variables-variables.ensures.variables in let equal = c.requires.variables in omega (arith, within.1)

pub returns-then-cursor-sizes-clause-some : goal.returns-then-cursor-sizes-clause-some
returns-then-cursor-sizes-clause-some c =
    chosen_value c.args.sizes.now c.args.trail.now.variables c.args.trail.now.steps c.pass_positions-cursor.result c.pass_positions-cursor.ensures.cursor
    c.if-cursor-sizes.true (c.pass_positions-cursor.ensures.none c.if-cursor-sizes.true) c.requires.sizes c.least_open-value.result c.least_open-value.ensures.within
    c.least_open-value.ensures.open c.least_open-value.ensures.lower c.positive.result c.positive.ensures

pub returns-clause-some : goal.returns-clause-some
returns-clause-some c =
    let low = c.if-variable-variables.false in let same = c.variables-variables.ensures.variables in let equal = c.requires.variables in
    chosen_variable c.args.sizes.now c.args.trail.now.variables c.args.trail.now.steps c.pass_positions-cursor.result c.pass_positions-cursor.ensures.cursor
    c.if-cursor-sizes.false c.first_open-variable.result c.first_open-variable.ensures.some (omega arith) (c.first_open-variable.ensures.open low)
    c.negative.result c.negative.ensures

pub returns-clause-cursor : goal.returns-clause-cursor
returns-clause-cursor c = record {
  positions = c.pass_positions-cursor.ensures.cursor.positions;
  some = c.first_open-variable.ensures.some;
  most = subst (λ (n : ℕ). c.first_open-variable.result ≤ n + 1) (c.variables-variables.ensures.variables ∙ sym c.requires.variables) c.first_open-variable.ensures.most;
  before = c.first_open-variable.ensures.before;
}

pub returns-then-variable-variables-clause-cursor : goal.returns-then-variable-variables-clause-cursor
returns-then-variable-variables-clause-cursor c = record {
  positions = c.pass_positions-cursor.ensures.cursor.positions;
  some = c.first_open-variable.ensures.some;
  most = subst (λ (n : ℕ). c.first_open-variable.result ≤ n + 1) (c.variables-variables.ensures.variables ∙ sym c.requires.variables) c.first_open-variable.ensures.most;
  before = c.first_open-variable.ensures.before;
}
