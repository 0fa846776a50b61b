use Rattle.cc_form.proofs.Gathering.{all_ends, all_literals, own_is}
use Rattle.cc_form.proofs.Leaving.{err_if, err_on}
use Rattle.std.proofs.Common.{◌∙◌, arith}
use Rattle.cc_form.specs.Steps.{own_variables, truth_at}
use Rattle.cc_form.proofs.steps.three_ruled.Goals as goal

pub returns-clause-literals : goal.returns-clause-literals
returns-clause-literals c =
    let s = c.args.sig.now in
    let give = c.laws_give_rules.ensures s c.args.laws.now c.requires.laws 2 in
    all_literals s c.args.laws.now give c.args.literals.now.items c.begin.new.literals.items c.go_on.new.literals.items c.go_on-2.new.literals.items c.go_on-3.new.literals.items
    c.requires.begins c.in_ok-begin.ensures.literals c.in_ok-first.ensures.literals c.in_ok-later.ensures.literals c.in_ok-last.ensures.literals

pub returns-clause-ends : goal.returns-clause-ends
returns-clause-ends c =
    let s = c.args.sig.now in
    let give = c.laws_give_rules.ensures s c.args.laws.now c.requires.laws 2 in
    all_ends s c.args.laws.now give c.go_on-3.new.writer.last c.in_ok-last.ensures.last

pub returns-in_err-begin : goal.returns-in_err-begin
returns-in_err-begin c = let is = c.from_residual.ensures.0 in record { first = err_if _ _ is; later = err_if _ _ is; last = err_if _ _ is; own = err_if _ _ is; literals = err_on _ _ is; ends = err_on _ _ is; most = err_on _ _ is; places = err_on _ _ is; empty = err_on _ _ is }

pub returns-in_err-first : goal.returns-in_err-first
returns-in_err-first c = let is = c.from_residual-in_err-first.ensures.0 in record { first = err_if _ _ is; later = err_if _ _ is; last = err_if _ _ is; own = err_if _ _ is; literals = err_on _ _ is; ends = err_on _ _ is; most = err_on _ _ is; places = err_on _ _ is; empty = err_on _ _ is }

pub returns-in_err-later : goal.returns-in_err-later
returns-in_err-later c = let is = c.from_residual-in_err-later.ensures.0 in record { first = err_if _ _ is; later = err_if _ _ is; last = err_if _ _ is; own = err_if _ _ is; literals = err_on _ _ is; ends = err_on _ _ is; most = err_on _ _ is; places = err_on _ _ is; empty = err_on _ _ is }

pub returns-in_err-last : goal.returns-in_err-last
returns-in_err-last c = let is = c.from_residual-in_err-last.ensures.0 in record { first = err_if _ _ is; later = err_if _ _ is; last = err_if _ _ is; own = err_if _ _ is; literals = err_on _ _ is; ends = err_on _ _ is; most = err_on _ _ is; places = err_on _ _ is; empty = err_on _ _ is }

pub go_on-requires-clause-none : goal.go_on-requires-clause-none
go_on-requires-clause-none c = c.in_ok-begin.ensures.empty

pub go_on-requires-2-clause-places : goal.go_on-requires-2-clause-places
go_on-requires-2-clause-places c = c.in_ok-first.ensures.places ∙ c.in_ok-begin.ensures.places ∙ c.requires.places

pub go_on-requires-2-clause-within : goal.go_on-requires-2-clause-within
go_on-requires-2-clause-within c = c.in_ok-first.ensures.most

pub go_on-requires-2-clause-none : goal.go_on-requires-2-clause-none
go_on-requires-2-clause-none c = c.in_ok-first.ensures.empty

pub go_on-requires-3-clause-places : goal.go_on-requires-3-clause-places
go_on-requires-3-clause-places c = c.in_ok-later.ensures.places ∙ c.in_ok-first.ensures.places ∙ c.in_ok-begin.ensures.places ∙ c.requires.places

pub go_on-requires-3-clause-within : goal.go_on-requires-3-clause-within
go_on-requires-3-clause-within c = c.in_ok-later.ensures.most

pub go_on-requires-3-clause-none : goal.go_on-requires-3-clause-none
go_on-requires-3-clause-none c = c.in_ok-later.ensures.empty

pub returns-clause-most : goal.returns-clause-most
returns-clause-most c = c.in_ok-last.ensures.most

pub returns-clause-empty : goal.returns-clause-empty
returns-clause-empty c = c.in_ok-last.ensures.empty

pub returns-clause-places : goal.returns-clause-places
returns-clause-places c = c.in_ok-last.ensures.places ∙ c.in_ok-later.ensures.places ∙ c.in_ok-first.ensures.places ∙ c.in_ok-begin.ensures.places

pub returns-clause-own : goal.returns-clause-own
returns-clause-own c = own_is c.args.writer.now.last (truth_at c.args.sig.now 2) (own_variables c.args.sig.now c.args.laws.now) c.go_on.new.writer.last c.requires.last (c.in_ok-first.ensures.next (omega arith))

pub go_on-requires-2-clause-last : goal.go_on-requires-2-clause-last
go_on-requires-2-clause-last c = c.in_ok-first.ensures.next (omega arith)

pub go_on-requires-3-clause-last : goal.go_on-requires-3-clause-last
go_on-requires-3-clause-last c = c.in_ok-later.ensures.next (omega arith)
