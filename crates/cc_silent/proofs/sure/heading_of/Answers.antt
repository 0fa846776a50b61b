use Rattle.cc_silent.proofs.SureHeadings.{no_second, no_third, none_at}
use Rattle.cc_silent.proofs.sure.heading_of.Goals as goal

pub returns-in_default-number_and_space-2 : goal.returns-in_default-number_and_space-2
returns-in_default-number_and_space-2 c =
    none_at c.args.text.now c.in-Some.numbers.now c.in-Some.ensures
    (no_second c.in-Some.numbers.now c.in-Some-number_and_space.behind.now c.in-Some-number_and_space.horizon c.in-Some-number_and_space.ensures c.in_default-number_and_space-2.ensures)

pub returns-in_default-last_number : goal.returns-in_default-last_number
returns-in_default-last_number c =
    none_at c.args.text.now c.in-Some.numbers.now c.in-Some.ensures
    (no_third c.in-Some.numbers.now c.in-Some-number_and_space.behind.now c.in-Some-number_and_space-2.last.now c.in-Some-number_and_space.horizon
    c.in-Some-number_and_space-2.position c.in-Some-number_and_space.ensures c.in-Some-number_and_space-2.ensures c.in_default-last_number.ensures)
