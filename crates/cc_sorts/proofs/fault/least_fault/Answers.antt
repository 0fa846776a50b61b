use Rattle.std.proofs.Common.{◌∙◌, sym}
use Rattle.cc_sorts.proofs.Chosen.{chosen_4, chosen_5, chosen_6, chosen_7, chosen_none}
use Rattle.cc_sorts.proofs.fault.least_fault.Goals as goal

pub returns-then-branch : goal.returns-then-branch
returns-then-branch c = λ file line left is_table.
    chosen_4 _ _ _ _
    (sym c.if-branch.true ∙ c.in_ok-any_in.ensures file line left is_table)

pub returns-then-branch-2 : goal.returns-then-branch-2
returns-then-branch-2 c = λ file line left is_table.
    chosen_5 _ _ _ _
    (sym c.if-branch.false ∙ c.in_ok-any_in.ensures file line left is_table)
    (sym c.if-branch-2.true ∙ c.in_ok-any_in-2.ensures file line left is_table)

pub returns-then-branch-3 : goal.returns-then-branch-3
returns-then-branch-3 c = λ file line left is_table.
    chosen_6 _ _ _ _
    (sym c.if-branch.false ∙ c.in_ok-any_in.ensures file line left is_table)
    (sym c.if-branch-2.false ∙ c.in_ok-any_in-2.ensures file line left is_table)
    (sym c.if-branch-3.true ∙ c.in_ok-any_in-3.ensures file line left is_table)

pub returns-then-branch-4 : goal.returns-then-branch-4
returns-then-branch-4 c = λ file line left is_table.
    chosen_7 _ _ _ _
    (sym c.if-branch.false ∙ c.in_ok-any_in.ensures file line left is_table)
    (sym c.if-branch-2.false ∙ c.in_ok-any_in-2.ensures file line left is_table)
    (sym c.if-branch-3.false ∙ c.in_ok-any_in-3.ensures file line left is_table)
    (sym c.if-branch-4.true ∙ c.in_ok-any_in-4.ensures file line left is_table)

pub returns : goal.returns
returns c = λ file line left is_table.
    chosen_none _ _ _ _
    (sym c.if-branch.false ∙ c.in_ok-any_in.ensures file line left is_table)
    (sym c.if-branch-2.false ∙ c.in_ok-any_in-2.ensures file line left is_table)
    (sym c.if-branch-3.false ∙ c.in_ok-any_in-3.ensures file line left is_table)
    (sym c.if-branch-4.false ∙ c.in_ok-any_in-4.ensures file line left is_table)
