use Rattle.std.proofs.Common.{List, OnErr, sym, ap, subst, OnOk, ◌≡◌}
use Rattle.cc_defs.specs.Declarations.{Declaration, from_to}
use Rattle.cc_sorts.specs.Declaring.{numbers_of, plain_declaration}
use Rattle.cc_sorts.specs.declared.declaration.Declaration as made
use Rattle.cc_sorts.specs.Steps.{IsFrontOf, behind_all}
use Rattle.cc_sorts.proofs.Walks.{front_kept, span_front}
use Rattle.cc_sorts.proofs.register.Register.put.Goals as goal

pub returns-in-Sort-clause-front : goal.returns-in-Sort-clause-front
returns-in-Sort-clause-front c =
    front_kept c.put_sort.result c.args.self.now c.put_sort.new.self (plain_declaration c.args.file c.args.line c.args.declaration.now) c.put_sort.ensures.unchanged

pub returns-in-Link-clause-front : goal.returns-in-Link-clause-front
returns-in-Link-clause-front c =
    front_kept c.put_sort-in-Link.result c.args.self.now c.put_sort-in-Link.new.self (plain_declaration c.args.file c.args.line c.args.declaration.now) c.put_sort-in-Link.ensures.unchanged

pub returns-in-Subsort-clause-front : goal.returns-in-Subsort-clause-front
returns-in-Subsort-clause-front c =
    front_kept c.put_pair.result c.args.self.now c.put_pair.new.self (plain_declaration c.args.file c.args.line c.args.declaration.now) c.put_pair.ensures.unchanged

pub returns-in-Object-clause-front : goal.returns-in-Object-clause-front
returns-in-Object-clause-front c =
    front_kept c.put_object.result c.args.self.now c.put_object.new.self (plain_declaration c.args.file c.args.line c.args.declaration.now) c.put_object.ensures.unchanged

pub returns-in-Variable-clause-front : goal.returns-in-Variable-clause-front
returns-in-Variable-clause-front c =
    front_kept c.put_variable.result c.args.self.now c.put_variable.new.self (plain_declaration c.args.file c.args.line c.args.declaration.now) c.put_variable.ensures.unchanged

pub returns-in-Constant-clause-front : goal.returns-in-Constant-clause-front
returns-in-Constant-clause-front c =
    front_kept c.put_symbol.result c.args.self.now c.put_symbol.new.self (plain_declaration c.args.file c.args.line c.args.declaration.now) c.put_symbol.ensures.unchanged

pub returns-in-Numbers-clause-front : goal.returns-in-Numbers-clause-front
returns-in-Numbers-clause-front c =
    subst (λ (ds : List Declaration). OnErr c.put_numbers.result (IsFrontOf c.args.self.now ds c.put_numbers.new.self))
    (sym (ap (plain_declaration c.args.file c.args.line) c.in-Numbers.is))
    (span_front c.put_numbers.result c.args.self.now c.put_numbers.new.self c.in-Numbers.low c.in-Numbers.high c.in-Numbers.sort.now
    (numbers_of c.in-Numbers.sort.now (from_to c.in-Numbers.low c.in-Numbers.high)) c.put_numbers.ensures.front)

pub returns-in-Constant-clause-put : goal.returns-in-Constant-clause-put
returns-in-Constant-clause-put c = subst (λ (d : made.Declaration). OnOk c.put_symbol.result (c.put_symbol.new.self ≡ behind_all c.args.self.now (plain_declaration c.args.file c.args.line d))) (sym c.in-Constant.is) c.put_symbol.ensures.put

pub returns-in-Subsort-clause-put : goal.returns-in-Subsort-clause-put
returns-in-Subsort-clause-put c = subst (λ (d : made.Declaration). OnOk c.put_pair.result (c.put_pair.new.self ≡ behind_all c.args.self.now (plain_declaration c.args.file c.args.line d))) (sym c.in-Subsort.is) c.put_pair.ensures.put

pub returns-in-Variable-clause-put : goal.returns-in-Variable-clause-put
returns-in-Variable-clause-put c = subst (λ (d : made.Declaration). OnOk c.put_variable.result (c.put_variable.new.self ≡ behind_all c.args.self.now (plain_declaration c.args.file c.args.line d))) (sym c.in-Variable.is) c.put_variable.ensures.put

pub returns-in-Object-clause-put : goal.returns-in-Object-clause-put
returns-in-Object-clause-put c = subst (λ (d : made.Declaration). OnOk c.put_object.result (c.put_object.new.self ≡ behind_all c.args.self.now (plain_declaration c.args.file c.args.line d))) (sym c.in-Object.is) c.put_object.ensures.put

pub returns-in-Numbers-clause-put : goal.returns-in-Numbers-clause-put
returns-in-Numbers-clause-put c = subst (λ (d : made.Declaration). OnOk c.put_numbers.result (c.put_numbers.new.self ≡ behind_all c.args.self.now (plain_declaration c.args.file c.args.line d))) (sym c.in-Numbers.is) c.put_numbers.ensures.put

pub returns-in-Link-clause-put : goal.returns-in-Link-clause-put
returns-in-Link-clause-put c = subst (λ (d : made.Declaration). OnOk c.put_sort-in-Link.result (c.put_sort-in-Link.new.self ≡ behind_all c.args.self.now (plain_declaration c.args.file c.args.line d))) (sym c.in-Link.is) c.put_sort-in-Link.ensures.put

pub returns-in-Sort-clause-put : goal.returns-in-Sort-clause-put
returns-in-Sort-clause-put c = subst (λ (d : made.Declaration). OnOk c.put_sort.result (c.put_sort.new.self ≡ behind_all c.args.self.now (plain_declaration c.args.file c.args.line d))) (sym c.in-Sort.is) c.put_sort.ensures.put
