use Rattle.std.proofs.Common.{ℕ, List, arith, ap, min, sum}
use Rattle.cc_defs.specs.declared.refusal.Fault.TheVariants as faults
use Rattle.cc_form.proofs.Positions.{is_past}
use Rattle.cc_form.proofs.places.Places.new.Goals as goal

pub returns-then-count-number-clause-refused : goal.returns-then-count-number-clause-refused
returns-then-count-number-clause-refused c =
    is_past (faults.Refused c.past.result) c.args.sizes.items (ap faults.Refused c.past.ensures)
    (let v = c.value_count-count.ensures in let d = ap (λ (l : List ℕ). min (sum l) 4000001) c.deref.ensures.value in let n = c.number.ensures in let t = c.if-count-number.true in omega arith)
