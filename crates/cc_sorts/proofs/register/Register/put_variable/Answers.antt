use Rattle.std.proofs.Common.{◌∙◌, List, ap, arith, sym}
use Rattle.std.proofs.lemmas.Result.{on_ok_weaker, on_err_weaker}
use Rattle.cc_sorts.specs.Dictionaries.{values_of}
use Rattle.cc_sorts.specs.Lists.{lists_of}
use Rattle.cc_sorts.specs.Steps.{put_variable}
use Rattle.cc_sorts.specs.Tables.{Numbered, TableView}
use Rattle.cc_sorts.proofs.Past.{fits_variable, variable_is, viewed}
use Rattle.cc_sorts.proofs.Uppers.{found_name}
use Rattle.cc_sorts.proofs.register.Register.put_variable.Goals as goal

pub invariant_of-self : goal.invariant_of-self
invariant_of-self c =
    fits_variable c.push.result c.self.inside.sorts c.self.inside.puts.items (lists_of c.self.inside.lists.items) c.self.inside.objects.named c.self.inside.variables c.push.new.self c.self.inside.symbols (c.args.name.now, c.in-Some-None.sort)
    c.self.invariant (omega (arith, c.len.ensures, c.if-len-ge-MOST_ENTRIES.false)) c.push.ensures.added c.push.ensures.unchanged

pub returns-in-Some-None-clause-put : goal.returns-in-Some-None-clause-put
returns-in-Some-None-clause-put c =
    on_ok_weaker c.push.result
    (λ is. ap (λ (w : List Numbered). viewed c.self.inside.sorts c.self.inside.puts.items c.self.inside.objects.named c.self.inside.objects.numbers w (values_of c.self.inside.symbols)) is
    ∙ sym (variable_is (viewed c.self.inside.sorts c.self.inside.puts.items c.self.inside.objects.named c.self.inside.objects.numbers c.self.inside.variables (values_of c.self.inside.symbols)) c.args.name.now c.args.sort.now c.in-Some-None.sort (sym c.find.ensures ∙ c.in-Some-None.is-0) (sym c.find-2.ensures ∙ c.in-Some-None.is-1))
    ∙ ap (λ (w : TableView). put_variable w c.args.name.now c.args.sort.now) c.self.view_is) c.push.ensures.added

pub returns-in-Some-None-clause-unchanged : goal.returns-in-Some-None-clause-unchanged
returns-in-Some-None-clause-unchanged c = on_err_weaker c.push.result (λ is. ap (λ (w : List Numbered). viewed c.self.inside.sorts c.self.inside.puts.items c.self.inside.objects.named c.self.inside.objects.numbers w (values_of c.self.inside.symbols)) is ∙ c.self.view_is) c.push.ensures.unchanged

pub overflow_cast-sort : goal.overflow_cast-sort
overflow_cast-sort c = omega (arith, (found_name c.self.inside.sorts.names c.args.sort.now c.in-Some-None.sort (sym c.find.ensures ∙ c.in-Some-None.is-0)).0, c.self.invariant.few_sorts)

pub push-requires : goal.push-requires
push-requires c = sym c.find-2.ensures ∙ c.in-Some-None.is-1
