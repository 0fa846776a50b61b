use Rattle.std.proofs.Common.{List, ◌∙◌, ap, sym, false, true}
use Rattle.cc_sorts.specs.declared.table.PutAt.{PutAt}
use Rattle.cc_sorts.specs.Lists.{lists_of}
use Rattle.cc_sorts.specs.Shown.{shown_lists}
use Rattle.cc_sorts.proofs.Past.{fits_implied, fits_pair, pair_is, viewed}
use Rattle.std.proofs.lemmas.Result.{on_ok_weaker, on_err_weaker}
use Rattle.cc_sorts.specs.Dictionaries.{values_of}
use Rattle.cc_sorts.specs.SortViews.{SortsView}
use Rattle.cc_sorts.specs.Steps.{put_pair}
use Rattle.cc_sorts.specs.Tables.{TableView}
use Rattle.cc_sorts.proofs.Uppers.{found_name}
use Rattle.cc_sorts.proofs.register.Register.put_pair.Goals as goal

pub invariant_of-self-2 : goal.invariant_of-self-2
invariant_of-self-2 c =
    fits_pair c.add_pair.result c.self.inside.sorts c.add_pair.new.sorts c.self.inside.puts.items (lists_of c.self.inside.lists.items) (lists_of c.add_pair.new.lists.items)
    c.self.inside.objects.named c.self.inside.variables c.self.inside.symbols c.in-Some-Some.upper c.in-Some-Some.lower c.self.invariant c.add_pair.ensures.added c.add_pair.ensures.unchanged
    (c.add_pair.ensures.lists ∙ ap (λ (w : List PutAt). shown_lists w c.add_pair.new.sorts.members) c.deref.ensures.value)

pub add_pair-requires-clause-past : goal.add_pair-requires-clause-past
add_pair-requires-clause-past c = rw (c.deref.ensures.value) c.self.invariant.past

pub add_pair-requires-clause-as_many : goal.add_pair-requires-clause-as_many
add_pair-requires-clause-as_many c = c.self.invariant.as_many

pub add_pair-requires-clause-shown : goal.add_pair-requires-clause-shown
add_pair-requires-clause-shown c = rw (c.deref.ensures.value) c.self.invariant.shown

pub invariant_of-self : goal.invariant_of-self
invariant_of-self c =
    fits_implied c.add_implied.result c.self.inside.sorts c.add_implied.new.self c.self.inside.puts.items (lists_of c.self.inside.lists.items)
    c.self.inside.objects.named c.self.inside.variables c.self.inside.symbols c.in-Some-Some.upper c.in-Some-Some.lower c.self.invariant c.add_implied.ensures.added c.add_implied.ensures.unchanged

pub below-requires-2-clause-upper : goal.below-requires-2-clause-upper
below-requires-2-clause-upper c = (found_name c.self.inside.sorts.names c.args.upper.now c.in-Some-Some.upper (sym c.find.ensures ∙ c.in-Some-Some.is-0)).0

pub returns-clause-put : goal.returns-clause-put
returns-clause-put c =
    on_ok_weaker c.add_pair.result
    (λ is. ap (λ (w : SortsView). viewed w c.self.inside.puts.items c.self.inside.objects.named c.self.inside.objects.numbers c.self.inside.variables (values_of c.self.inside.symbols)) is
    ∙ sym (pair_is (viewed c.self.inside.sorts c.self.inside.puts.items c.self.inside.objects.named c.self.inside.objects.numbers c.self.inside.variables (values_of c.self.inside.symbols)) c.args.upper.now c.args.lower.now c.in-Some-Some.upper c.in-Some-Some.lower false false (sym c.find.ensures ∙ c.in-Some-Some.is-0) (sym c.find-2.ensures ∙ c.in-Some-Some.is-1) (sym c.below.ensures ∙ c.if-below.false) (sym c.below-2.ensures ∙ c.if-below-2.false))
    ∙ ap (λ (w : TableView). put_pair w c.args.upper.now c.args.lower.now) c.self.view_is) c.add_pair.ensures.added

pub returns-then-below-2-clause-put : goal.returns-then-below-2-clause-put
returns-then-below-2-clause-put c =
    on_ok_weaker c.add_implied.result
    (λ is. ap (λ (w : SortsView). viewed w c.self.inside.puts.items c.self.inside.objects.named c.self.inside.objects.numbers c.self.inside.variables (values_of c.self.inside.symbols)) is
    ∙ sym (pair_is (viewed c.self.inside.sorts c.self.inside.puts.items c.self.inside.objects.named c.self.inside.objects.numbers c.self.inside.variables (values_of c.self.inside.symbols)) c.args.upper.now c.args.lower.now c.in-Some-Some.upper c.in-Some-Some.lower false true (sym c.find.ensures ∙ c.in-Some-Some.is-0) (sym c.find-2.ensures ∙ c.in-Some-Some.is-1) (sym c.below.ensures ∙ c.if-below.false) (sym c.below-2.ensures ∙ c.if-below-2.true))
    ∙ ap (λ (w : TableView). put_pair w c.args.upper.now c.args.lower.now) c.self.view_is) c.add_implied.ensures.added

pub below-requires-2-clause-lower : goal.below-requires-2-clause-lower
below-requires-2-clause-lower c = (found_name c.self.inside.sorts.names c.args.lower.now c.in-Some-Some.lower (sym c.find-2.ensures ∙ c.in-Some-Some.is-1)).0

pub add_pair-requires-clause-upper : goal.add_pair-requires-clause-upper
add_pair-requires-clause-upper c = (found_name c.self.inside.sorts.names c.args.upper.now c.in-Some-Some.upper (sym c.find.ensures ∙ c.in-Some-Some.is-0)).0

pub add_pair-requires-clause-lower : goal.add_pair-requires-clause-lower
add_pair-requires-clause-lower c = (found_name c.self.inside.sorts.names c.args.lower.now c.in-Some-Some.lower (sym c.find-2.ensures ∙ c.in-Some-Some.is-1)).0

pub add_implied-requires-clause-upper : goal.add_implied-requires-clause-upper
add_implied-requires-clause-upper c = (found_name c.self.inside.sorts.names c.args.upper.now c.in-Some-Some.upper (sym c.find.ensures ∙ c.in-Some-Some.is-0)).0

pub add_implied-requires-clause-lower : goal.add_implied-requires-clause-lower
add_implied-requires-clause-lower c = (found_name c.self.inside.sorts.names c.args.lower.now c.in-Some-Some.lower (sym c.find-2.ensures ∙ c.in-Some-Some.is-1)).0

pub returns-clause-unchanged : goal.returns-clause-unchanged
returns-clause-unchanged c = on_err_weaker c.add_pair.result (λ is. ap (λ (w : SortsView). viewed w c.self.inside.puts.items c.self.inside.objects.named c.self.inside.objects.numbers c.self.inside.variables (values_of c.self.inside.symbols)) is ∙ c.self.view_is) c.add_pair.ensures.unchanged

pub returns-then-below-2-clause-unchanged : goal.returns-then-below-2-clause-unchanged
returns-then-below-2-clause-unchanged c = on_err_weaker c.add_implied.result (λ is. ap (λ (w : SortsView). viewed w c.self.inside.puts.items c.self.inside.objects.named c.self.inside.objects.numbers c.self.inside.variables (values_of c.self.inside.symbols)) is ∙ c.self.view_is) c.add_implied.ensures.unchanged

pub below-requires-clause-upper : goal.below-requires-clause-upper
below-requires-clause-upper c = (found_name c.self.inside.sorts.names c.args.lower.now c.in-Some-Some.lower (sym c.find-2.ensures ∙ c.in-Some-Some.is-1)).0

pub below-requires-clause-lower : goal.below-requires-clause-lower
below-requires-clause-lower c = (found_name c.self.inside.sorts.names c.args.upper.now c.in-Some-Some.upper (sym c.find.ensures ∙ c.in-Some-Some.is-0)).0

pub add_pair-requires-clause-apart : goal.add_pair-requires-clause-apart
add_pair-requires-clause-apart c = sym c.below.ensures ∙ c.if-below.false

pub add_implied-requires-clause-apart : goal.add_implied-requires-clause-apart
add_implied-requires-clause-apart c = sym c.below.ensures ∙ c.if-below.false

pub add_implied-requires-clause-implied : goal.add_implied-requires-clause-implied
add_implied-requires-clause-implied c = sym c.below-2.ensures ∙ c.if-below-2.true
