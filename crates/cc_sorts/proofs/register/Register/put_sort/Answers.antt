use Rattle.std.proofs.Common.{◌∙◌, ap, arith, sym}
use Rattle.cc_sorts.proofs.Past.{fits_sort, missing, seen_sort}
use Rattle.cc_sorts.specs.Dictionaries.{number_of, values_of}
use Rattle.cc_sorts.specs.Lists.{lists_of}
use Rattle.cc_sorts.specs.Tables.{TableView}
use Rattle.cc_sorts.proofs.register.Register.put_sort.Goals as goal

pub invariant_of-self : goal.invariant_of-self
invariant_of-self c =
    fits_sort c.add_sort.result c.self.inside.sorts c.add_sort.new.sorts c.self.inside.puts.items (lists_of c.self.inside.lists.items) (lists_of c.add_sort.new.lists.items) c.self.inside.objects.named c.self.inside.variables c.self.inside.symbols c.args.name.now
    c.self.invariant (omega (arith, c.len.ensures, c.if-len-ge-MOST_ENTRIES.false)) c.add_sort.ensures.added c.add_sort.ensures.unchanged c.add_sort.ensures.listed c.add_sort.ensures.lists_kept

pub returns-clause-put : goal.returns-clause-put
returns-clause-put c =
    (seen_sort c.add_sort.result c.self.inside.sorts c.add_sort.new.sorts c.self.inside.puts.items c.self.inside.objects.named c.self.inside.objects.numbers c.self.inside.variables (values_of c.self.inside.symbols) c.args.self.now c.args.name.now c.self.view_is
    (ap (λ (t : TableView). number_of t.sorts.names c.args.name.now) (sym c.self.view_is) ∙ missing c.find.result _ c.is_some.result c.find.ensures c.is_some.ensures c.if-is_some.false)
    c.add_sort.ensures.added c.add_sort.ensures.unchanged).0

pub returns-clause-unchanged : goal.returns-clause-unchanged
returns-clause-unchanged c =
    (seen_sort c.add_sort.result c.self.inside.sorts c.add_sort.new.sorts c.self.inside.puts.items c.self.inside.objects.named c.self.inside.objects.numbers c.self.inside.variables (values_of c.self.inside.symbols) c.args.self.now c.args.name.now c.self.view_is
    (ap (λ (t : TableView). number_of t.sorts.names c.args.name.now) (sym c.self.view_is) ∙ missing c.find.result _ c.is_some.result c.find.ensures c.is_some.ensures c.if-is_some.false)
    c.add_sort.ensures.added c.add_sort.ensures.unchanged).1
