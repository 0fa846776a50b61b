use Rattle.std.proofs.Common.{◌≡◌, ◌∙◌, ◌+◌, ◌-◌, ℕ, refl, ap, arith}
use Rattle.cc_defs.specs.Declarations.{from_to}
use Rattle.cc_sorts.specs.Declaring.{numbers_of}
use Rattle.cc_sorts.specs.Steps.{IsFrontOf, behind_all}
use Rattle.cc_sorts.proofs.Walks.{first_numbers, number_put, numbers_front, on_err}
use Rattle.cc_sorts.proofs.register.Register.put_numbers.Goals as goal

pub loop-more-preserved : goal.loop-more-preserved
loop-more-preserved c =
    number_put c.args.self.now c.loop-more.self c.put_number.new.self c.args.sort.now c.args.low c.loop-more.more (c.args.low + c.loop-more.more) c.loop-more.invariant refl c.in_ok-put_number.ensures.put

pub returns-in_err-put_number-clause-front : goal.returns-in_err-put_number-clause-front
returns-in_err-put_number-clause-front c =
    on_err c.from_residual.result (IsFrontOf c.args.self.now (numbers_of c.args.sort.now (from_to c.args.low c.args.high)) c.put_number.new.self)
    (numbers_front c.args.self.now c.put_number.new.self c.args.sort.now c.args.low c.loop-more.more (c.args.high + 1 - c.args.low) (omega (arith, c.count_of-more-end.ensures.counted))
    (c.in_err-put_number.ensures.unchanged ∙ c.loop-more.invariant))

pub returns-clause-put : goal.returns-clause-put
returns-clause-put c =
    let all : c.loop-more.more ≡ c.args.high + 1 - c.args.low = omega (arith, c.count_of-more-end.ensures.counted) in
    c.loop-more.invariant ∙ ap (λ (n : ℕ). behind_all c.args.self.now (first_numbers c.args.sort.now c.args.low n)) all
