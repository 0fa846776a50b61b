use Rattle.std.proofs.Common.{◌≡◌, IfOk, subst}
use Rattle.cc_sorts.proofs.Past.{fits_first}
use Rattle.cc_sorts.specs.Lists.{lists_of}
use Rattle.cc_sorts.specs.Objects.{ObjectsView}
use Rattle.cc_sorts.specs.SortViews.{SortsView, first_sorts}
use Rattle.cc_sorts.specs.Tables.{first_table}
use Rattle.cc_sorts.proofs.register.Register.new.Goals as goal

pub invariant_of-result : goal.invariant_of-result
invariant_of-result c =
    fits_first c.in_ok-sorts.sorts c.in_ok-puts.puts.items (lists_of c.in_ok-lists.lists.items) c.in_ok-objects.objects.named c.new-2.result c.new-3.result
    c.in_ok-sorts.ensures c.in_ok-puts.ensures c.in_ok-lists.ensures
    c.in_ok-objects.ensures.named c.new-2.ensures c.new-3.ensures
