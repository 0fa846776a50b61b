use Rattle.std.proofs.Common.{◌≡◌, ◌∙◌, ◌+◌, ◌-◌, ◌≤◌, ℕ, length, take, ap, arith}
use Rattle.cc_trail.specs.Steps.{level_after}
use Rattle.cc_trail.proofs.Kept.{last_level_is}
use Rattle.cc_trail.proofs.entries.last_level.Goals as goal

pub returns-in-Some : goal.returns-in-Some
returns-in-Some c =
    let few : c.args.count ≤ length c.args.steps.now = c.requires in
    let one : 1 ≤ c.args.count = c.in-Some.ensures.0 in
    let last_is : c.in-Some.last ≡ c.args.count - 1 = c.in-Some.ensures.1 in
    let count_is : c.in-Some.last + 1 ≡ c.args.count = omega arith in
    last_level_is c.args.steps.now c.in-Some.last c.index-steps-last.result (omega arith) ∙ ap (λ (n : ℕ). level_after 0 (take n c.args.steps.now)) count_is
