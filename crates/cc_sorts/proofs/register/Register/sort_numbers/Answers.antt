use Rattle.std.proofs.Common.{[], sym, ◌∙◌, ap, map, List, ℕ, Bor}
use Rattle.cc_defs.specs.Declarations.{number_in}
use Rattle.cc_sorts.proofs.Walks.{numbers_more, taken_all}
use Rattle.cc_sorts.proofs.register.Register.sort_numbers.Goals as goal

pub loop-name-preserved : goal.loop-name-preserved
loop-name-preserved c =
    rw (c.in_ok-push.ensures.items, c.sort_number.ensures, c.loop-name.invariant)
    (sym (numbers_more (number_in c.args.self.now.sorts.names) c.args.names.now c.loop-name.name-index (record { ref_ptr = (0, 0); now = [] }) c.loop-name-test.true))

pub returns : goal.returns
returns c =
    c.loop-name.invariant
    ∙ ap (λ (w : List (Bor (List ℕ))). map (number_in c.args.self.now.sorts.names) (map (λ name. name.now) w)) (taken_all c.args.names.now c.loop-name.name-index c.loop-name-test.false)
