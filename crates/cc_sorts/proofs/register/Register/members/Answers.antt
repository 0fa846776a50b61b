use Rattle.std.proofs.Common.{◌∙◌, length, arith, ap}
use Rattle.std.proofs.lemmas.List.{length-map}
use Rattle.cc_sorts.specs.Lists.{list_at}
use Rattle.cc_sorts.specs.Shown.{shown, shown_list}
use Rattle.cc_sorts.specs.SortViews.{members_at}
use Rattle.cc_sorts.specs.Tables.{TableView}
use Rattle.cc_sorts.proofs.Vectors.{list_read}
use Rattle.cc_sorts.proofs.register.Register.members.Goals as goal

pub returns-then-sort-len : goal.returns-then-sort-len
returns-then-sort-len c =
    let table = c.self.inside in
    list_read table.lists.items c.args.sort (length table.sorts.names) c.index.result.now c.deref.result.now
    (ap length c.self.invariant.shown ∙ length-map table.sorts.members (shown_list table.puts.items) ∙ c.self.invariant.as_many) (omega (arith, c.if-sort-len.true, c.len.ensures)) c.index.ensures c.deref.ensures.value
    ∙ ap (λ lists. list_at lists c.args.sort) c.self.invariant.shown
    ∙ ap (λ (view : TableView). members_at (shown view).sorts c.args.sort) c.self.view_is
