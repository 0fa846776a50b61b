use Rattle.std.proofs.Common.{◌∙◌, ap, sym}
use Rattle.cc_defs.specs.Resolved.{AtMost, Both, Either, Equal, Exists, ForAll, Implies, Less, Not, Same, plain_formula, plain_term}
use Rattle.cc_wide_ground.proofs.Copied.{boxed_copy, two}
use Rattle.cc_wide_ground.proofs.copies.+copy_formula.Goals as goal

pub returns-in_ok-right-in-Equal : goal.returns-in_ok-right-in-Equal
returns-in_ok-right-in-Equal t c = two Equal c.in_ok-left-in-Equal.ensures c.in_ok-right-in-Equal.ensures ∙ sym (ap plain_formula c.in-Equal.is)

pub returns-in_ok-right-in-Less : goal.returns-in_ok-right-in-Less
returns-in_ok-right-in-Less t c = two Less c.in_ok-left-in-Less.ensures c.in_ok-right-in-Less.ensures ∙ sym (ap plain_formula c.in-Less.is)

pub returns-in_ok-right-in-AtMost : goal.returns-in_ok-right-in-AtMost
returns-in_ok-right-in-AtMost t c = two AtMost c.in_ok-left-in-AtMost.ensures c.in_ok-right-in-AtMost.ensures ∙ sym (ap plain_formula c.in-AtMost.is)

pub returns-in_ok-right-in-Both : goal.returns-in_ok-right-in-Both
returns-in_ok-right-in-Both t c =
    two Both (boxed_copy plain_formula c.in_ok-left-in-Both.ensures.ok c.in_ok-copy_formula-in-Both.ensures c.deref-in-Both.ensures) (boxed_copy plain_formula c.in_ok-right-in-Both.ensures.ok c.in_ok-copy_formula-in-Both-2.ensures c.deref-in-Both-2.ensures) ∙ sym (ap plain_formula c.in-Both.is)

pub returns-in_ok-right-in-Either : goal.returns-in_ok-right-in-Either
returns-in_ok-right-in-Either t c =
    two Either (boxed_copy plain_formula c.in_ok-left-in-Either.ensures.ok c.in_ok-copy_formula-in-Either.ensures c.deref-in-Either.ensures) (boxed_copy plain_formula c.in_ok-right-in-Either.ensures.ok c.in_ok-copy_formula-in-Either-2.ensures c.deref-in-Either-2.ensures) ∙ sym (ap plain_formula c.in-Either.is)

pub returns-in_ok-right-in-Implies : goal.returns-in_ok-right-in-Implies
returns-in_ok-right-in-Implies t c =
    two Implies (boxed_copy plain_formula c.in_ok-left-in-Implies.ensures.ok c.in_ok-copy_formula-in-Implies.ensures c.deref-in-Implies.ensures) (boxed_copy plain_formula c.in_ok-right-in-Implies.ensures.ok c.in_ok-copy_formula-in-Implies-2.ensures c.deref-in-Implies-2.ensures) ∙ sym (ap plain_formula c.in-Implies.is)

pub returns-in_ok-right-in-Same : goal.returns-in_ok-right-in-Same
returns-in_ok-right-in-Same t c =
    two Same (boxed_copy plain_formula c.in_ok-left-in-Same.ensures.ok c.in_ok-copy_formula-in-Same.ensures c.deref-in-Same.ensures) (boxed_copy plain_formula c.in_ok-right-in-Same.ensures.ok c.in_ok-copy_formula-in-Same-2.ensures c.deref-in-Same-2.ensures) ∙ sym (ap plain_formula c.in-Same.is)

pub returns-in_ok-inner-in-Not : goal.returns-in_ok-inner-in-Not
returns-in_ok-inner-in-Not t c = ap Not (boxed_copy plain_formula c.in_ok-inner-in-Not.ensures.ok c.in_ok-copy_formula-in-Not.ensures c.deref.ensures) ∙ sym (ap plain_formula c.in-Not.is)

pub returns-in_ok-inner-in-ForAll : goal.returns-in_ok-inner-in-ForAll
returns-in_ok-inner-in-ForAll t c = ap (ForAll c.in-ForAll.variable c.in-ForAll.sort) (boxed_copy plain_formula c.in_ok-inner-in-ForAll.ensures.ok c.in_ok-copy_formula-in-ForAll.ensures c.deref-in-ForAll.ensures) ∙ sym (ap plain_formula c.in-ForAll.is)

pub returns-in_ok-inner-in-Exists : goal.returns-in_ok-inner-in-Exists
returns-in_ok-inner-in-Exists t c = ap (Exists c.in-Exists.variable c.in-Exists.sort) (boxed_copy plain_formula c.in_ok-inner-in-Exists.ensures.ok c.in_ok-copy_formula-in-Exists.ensures c.deref-in-Exists.ensures) ∙ sym (ap plain_formula c.in-Exists.is)
