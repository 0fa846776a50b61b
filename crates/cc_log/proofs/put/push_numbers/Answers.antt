use Rattle.std.proofs.Common.{List, ℕ, [], ◌∷◌, ◌++◌, ◌∙◌, ap, arith, decimal, get_or, string_bytes}
use Rattle.cc_log.proofs.Behind.{flat_next, then_behind}
use Rattle.cc_log.proofs.put.push_numbers.Goals as goal

pub loop-number-preserved : goal.loop-number-preserved
loop-number-preserved c =
    flat_next (λ (number : ℕ). 32 ∷ decimal number) c.args.numbers.now c.loop-number.number-index 0 (string_bytes c.loop-number.text) (string_bytes c.push_number.new.text) _
    c.loop-number-test.true
    (then_behind (string_bytes c.loop-number.text) (32 ∷ []) (decimal (get_or c.args.numbers.now c.loop-number.number-index 0))
    (c.in_ok-push.ensures.bytes ∙ ap (λ (t : List ℕ). string_bytes c.loop-number.text ++ t) (c.in_ok-push.ensures.ascii (omega arith))) c.in_ok-push_number.ensures)
    c.loop-number.invariant
