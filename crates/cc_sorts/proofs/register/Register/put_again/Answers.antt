use Rattle.std.proofs.Common.{◌<◌, length, sym, subst, arith}
use Rattle.cc_sorts.specs.declared.table.PutAt.{PutAt}
use Rattle.cc_sorts.specs.Lists.{lists_of}
use Rattle.cc_sorts.specs.Tables.{TableView}
use Rattle.cc_sorts.proofs.Past.{fits_again, seen_again}
use Rattle.std.proofs.lemmas.Bool.{false≢true}
use Rattle.cc_sorts.specs.Dictionaries.{values_of}
use Rattle.cc_sorts.proofs.register.Register.put_again.Goals as goal

pub invariant_of-self : goal.invariant_of-self
invariant_of-self c =
    let put : PutAt = record { object = c.args.object; sort = c.args.sort; number = c.args.number } in
    fits_again c.add_put.result c.self.inside.sorts c.add_put.new.sorts c.self.inside.puts.items c.add_put.new.puts.items (lists_of c.self.inside.lists.items) (lists_of c.add_put.new.lists.items)
    c.self.inside.objects.named c.self.inside.variables c.self.inside.symbols put c.self.invariant (omega (arith, c.if-len-ge-MOST_ENTRIES.false, c.len.ensures, c.self.inside.puts.ok.0))
    (subst (λ (t : TableView). c.args.object < length t.objects) (sym c.self.view_is) c.requires.object)
    c.add_put.ensures.added c.add_put.ensures.unchanged c.add_put.ensures.put c.add_put.ensures.puts_kept c.add_put.ensures.lists

pub returns-clause-put : goal.returns-clause-put
returns-clause-put c =
    let put : PutAt = record { object = c.args.object; sort = c.args.sort; number = c.args.number } in
    (seen_again c.add_put.result c.self.inside.sorts c.add_put.new.sorts c.self.inside.puts.items c.add_put.new.puts.items c.self.inside.objects.named c.self.inside.objects.numbers c.self.inside.variables (values_of c.self.inside.symbols) c.args.self.now put
    c.self.view_is c.add_put.ensures.added c.add_put.ensures.unchanged c.add_put.ensures.put c.add_put.ensures.puts_kept).0

pub returns-clause-unchanged : goal.returns-clause-unchanged
returns-clause-unchanged c =
    let put : PutAt = record { object = c.args.object; sort = c.args.sort; number = c.args.number } in
    (seen_again c.add_put.result c.self.inside.sorts c.add_put.new.sorts c.self.inside.puts.items c.add_put.new.puts.items c.self.inside.objects.named c.self.inside.objects.numbers c.self.inside.variables (values_of c.self.inside.symbols) c.args.self.now put
    c.self.view_is c.add_put.ensures.added c.add_put.ensures.unchanged c.add_put.ensures.put c.add_put.ensures.puts_kept).1

pub add_put-requires-clause-fresh : goal.add_put-requires-clause-fresh
add_put-requires-clause-fresh c = λ fresh. absurd (false≢true fresh)

pub add_put-requires-clause-sort : goal.add_put-requires-clause-sort
add_put-requires-clause-sort c = subst (λ (t : TableView). c.args.sort < length t.sorts.names) (sym c.self.view_is) c.requires.sort
