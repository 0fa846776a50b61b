use Rattle.std.proofs.Common.{◌<◌, ℕ, ap, arith, length, subst, sym, ◌∙◌}
use Rattle.std.specs.List.{AllByRecursion}
use Rattle.cc_sorts.specs.declared.table.PutAt.{PutAt}
use Rattle.cc_sorts.specs.Lists.{lists_of}
use Rattle.cc_sorts.specs.Objects.{ObjectsView}
use Rattle.cc_sorts.specs.Tables.{TableView}
use Rattle.cc_sorts.proofs.Past.{fits_back, fits_new, seen_back, taken_back, seen_new, viewed}
use Rattle.cc_sorts.proofs.Walks.{on_err}
use Rattle.cc_sorts.specs.Dictionaries.{names_of, number_of, values_of}
use Rattle.cc_sorts.proofs.register.Register.put_new.Goals as goal

pub invariant_of-self-in-Ok : goal.invariant_of-self-in-Ok
invariant_of-self-in-Ok c =
    let put : PutAt = record { object = c.len-2.result; sort = c.args.sort; number = c.args.number } in
    fits_new c.self.inside.sorts c.add_put.new.sorts c.self.inside.puts.items c.add_put.new.puts.items (lists_of c.self.inside.lists.items) (lists_of c.add_put.new.lists.items)
    c.self.inside.objects.named c.push.new.self.named c.self.inside.variables c.self.inside.symbols put (c.args.name.now, c.args.sort) c.self.invariant
    (omega (arith, c.if-len-ge-MOST_ENTRIES.false, c.len.ensures, c.self.inside.puts.ok.0)) (omega (arith, c.if-len-ge-MOST_ENTRIES-2.false, c.len-else-len-ge-MOST_ENTRIES.ensures))
    c.len-2.ensures (ap (λ (w : ObjectsView). w.named) c.in_ok-push.ensures.added) c.in-Ok.ensures.added c.in-Ok.ensures.put c.in-Ok.ensures.lists

pub add_put-requires-clause-past : goal.add_put-requires-clause-past
add_put-requires-clause-past c = c.self.invariant.past

pub add_put-requires-clause-as_many : goal.add_put-requires-clause-as_many
add_put-requires-clause-as_many c = c.self.invariant.as_many

pub add_put-requires-clause-shown : goal.add_put-requires-clause-shown
add_put-requires-clause-shown c = c.self.invariant.shown

pub add_put-requires-clause-sort : goal.add_put-requires-clause-sort
add_put-requires-clause-sort c = subst (λ (t : TableView). c.args.sort < length t.sorts.names) (sym c.self.view_is) c.requires.sort

pub add_put-requires-clause-fresh : goal.add_put-requires-clause-fresh
add_put-requires-clause-fresh c = λ fresh. subst (λ (n : ℕ). AllByRecursion (λ put. put.object < n) c.self.inside.puts.items) (sym c.len-2.ensures) c.self.invariant.owned

pub invariant_of-self : goal.invariant_of-self
invariant_of-self c = rw (c.in_err-push.ensures.unchanged) c.self.invariant

pub invariant_of-self-in-Err : goal.invariant_of-self-in-Err
invariant_of-self-in-Err c =
    fits_back c.self.inside.sorts c.add_put.new.sorts c.self.inside.puts.items c.add_put.new.puts.items (lists_of c.self.inside.lists.items) (lists_of c.add_put.new.lists.items)
    c.self.inside.objects.named c.pop.new.self.named c.self.inside.variables c.self.inside.symbols c.self.invariant
    (taken_back c.self.inside.objects.named c.push.new.self.named c.pop.new.self.named (c.args.name.now, c.args.sort) (ap (λ (w : ObjectsView). w.named) c.in_ok-push.ensures.added) c.pop.ensures.named)
    c.in-Err.ensures.unchanged c.in-Err.ensures.puts_kept c.in-Err.ensures.lists

pub returns-in-Err-clause-unchanged : goal.returns-in-Err-clause-unchanged
returns-in-Err-clause-unchanged c =
    seen_back c.self.inside.sorts c.add_put.new.sorts c.self.inside.puts.items c.add_put.new.puts.items c.self.inside.objects.named c.pop.new.self.named c.self.inside.objects.numbers c.pop.new.self.numbers
    c.self.inside.variables _ c.args.self.now c.self.view_is
    (taken_back c.self.inside.objects.named c.push.new.self.named c.pop.new.self.named (c.args.name.now, c.args.sort) (ap (λ (w : ObjectsView). w.named) c.in_ok-push.ensures.added) c.pop.ensures.named)
    (taken_back c.self.inside.objects.numbers c.push.new.self.numbers c.pop.new.self.numbers c.args.number (ap (λ (w : ObjectsView). w.numbers) c.in_ok-push.ensures.added) c.pop.ensures.numbers)
    c.in-Err.ensures.unchanged c.in-Err.ensures.puts_kept

pub returns-in-Ok-clause-put : goal.returns-in-Ok-clause-put
returns-in-Ok-clause-put c =
    seen_new c.self.inside.sorts c.add_put.new.sorts c.self.inside.puts.items c.add_put.new.puts.items c.self.inside.objects.named c.push.new.self.named c.self.inside.objects.numbers c.push.new.self.numbers c.self.inside.variables (values_of c.self.inside.symbols)
    c.args.self.now c.args.name.now c.len-2.result c.args.sort c.args.number c.self.view_is c.len-2.ensures (ap (λ (w : ObjectsView). w.named) c.in_ok-push.ensures.added) (ap (λ (w : ObjectsView). w.numbers) c.in_ok-push.ensures.added)
    c.in-Ok.ensures.added c.in-Ok.ensures.put

pub add_put-requires-clause-few : goal.add_put-requires-clause-few
add_put-requires-clause-few c = subst (λ (n : ℕ). n < 4000000000) (sym c.self.inside.puts.ok.0) c.self.invariant.few_puts

pub push-requires-clause-few : goal.push-requires-clause-few
push-requires-clause-few c = c.self.invariant.few_objects

pub push-requires-clause-new : goal.push-requires-clause-new
push-requires-clause-new c = ap (λ (t : TableView). number_of (names_of t.objects) c.args.name.now) c.self.view_is ∙ c.requires.new

pub overflow_cast-sort : goal.overflow_cast-sort
overflow_cast-sort c = omega (arith, (subst (λ (t : TableView). c.args.sort < length t.sorts.names) (sym c.self.view_is) c.requires.sort), c.self.invariant.few_sorts)

pub overflow_cast-put-2 : goal.overflow_cast-put-2
overflow_cast-put-2 c = omega (arith, (subst (λ (t : TableView). c.args.sort < length t.sorts.names) (sym c.self.view_is) c.requires.sort), c.self.invariant.few_sorts)

pub returns-in_err-push-clause-unchanged : goal.returns-in_err-push-clause-unchanged
returns-in_err-push-clause-unchanged c = on_err _ _ (ap (λ (w : ObjectsView). viewed c.self.inside.sorts c.self.inside.puts.items w.named w.numbers c.self.inside.variables (values_of c.self.inside.symbols)) c.in_err-push.ensures.unchanged ∙ c.self.view_is)
