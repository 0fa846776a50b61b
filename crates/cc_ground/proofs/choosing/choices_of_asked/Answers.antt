use Rattle.std.proofs.Common.{◌≡◌, ◌∙◌, ℕ, IfOk, subst}
use Rattle.cc_ground.specs.Views.{universe_of}
use Rattle.cc_ground.proofs.Counted.{asked_none, asked_some}
use Rattle.cc_ground.proofs.choosing.choices_of_asked.Goals as goal

pub returns-in-Some : goal.returns-in-Some
returns-in-Some c =
    subst (λ (k : ℕ). IfOk c.with_formula.result (λ new. new ≡ k))
    (asked_some (universe_of c.args.table.now c.args.sig.now) c.args.query.now c.items.result.now c.in_ok-count.count c.items.ensures c.in_ok-count.ensures.count c.in-Some.claim
    c.choices_of_conditions.new.env (c.in_ok-count.ensures.env ∙ c.new-env.ensures) c.in-Some.is)
    c.with_formula.ensures.count

pub returns : goal.returns
returns c = asked_none (universe_of c.args.table.now c.args.sig.now) c.args.query.now c.items.result.now c.in_ok-count.count c.items.ensures c.in_ok-count.ensures.count c.in-None.is
