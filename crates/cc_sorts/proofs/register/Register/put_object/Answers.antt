use Rattle.std.proofs.Common.{◌∙◌, ap, sym, Some, None}
use Rattle.cc_sorts.specs.Dictionaries.{number_of, names_of}
use Rattle.cc_sorts.specs.Tables.{Numbered, TableView}
use Rattle.cc_sorts.proofs.Decided.{number_within}
use Rattle.std.proofs.lemmas.Result.{on_ok_weaker}
use Rattle.cc_sorts.proofs.Uppers.{found_name}
use Rattle.cc_sorts.proofs.Past.{object_is}
use Rattle.cc_sorts.proofs.register.Register.put_object.Goals as goal

pub put_again-requires-clause-object : goal.put_again-requires-clause-object
put_again-requires-clause-object c =
    number_within c.args.name.now (λ (entry : Numbered). entry.0) c.args.self.now.objects c.in-Some-Some.object
    (sym (ap (λ (t : TableView). number_of (names_of t.objects) c.args.name.now) (sym c.self.view_is) ∙ sym c.find-2.ensures ∙ c.in-Some-Some.is-1))

pub put_again-requires-clause-sort : goal.put_again-requires-clause-sort
put_again-requires-clause-sort c = (found_name c.args.self.now.sorts.names c.args.sort.now c.in-Some-Some.sort (ap (λ (t : TableView). number_of t.sorts.names c.args.sort.now) (sym c.self.view_is) ∙ sym c.find.ensures ∙ c.in-Some-Some.is-0)).0

pub put_new-requires-clause-sort : goal.put_new-requires-clause-sort
put_new-requires-clause-sort c = (found_name c.args.self.now.sorts.names c.args.sort.now c.in-Some-None.sort (ap (λ (t : TableView). number_of t.sorts.names c.args.sort.now) (sym c.self.view_is) ∙ sym c.find.ensures ∙ c.in-Some-None.is-0)).0

pub returns-in-Some-Some-clause-put : goal.returns-in-Some-Some-clause-put
returns-in-Some-Some-clause-put c = on_ok_weaker c.put_again.result (λ is. is ∙ sym (object_is c.args.self.now c.args.name.now c.args.sort.now c.args.number c.in-Some-Some.sort (Some c.in-Some-Some.object) (ap (λ (t : TableView). number_of t.sorts.names c.args.sort.now) (sym c.self.view_is) ∙ sym c.find.ensures ∙ c.in-Some-Some.is-0) (ap (λ (t : TableView). number_of (names_of t.objects) c.args.name.now) (sym c.self.view_is) ∙ sym c.find-2.ensures ∙ c.in-Some-Some.is-1))) c.put_again.ensures.put

pub returns-in-Some-None-clause-put : goal.returns-in-Some-None-clause-put
returns-in-Some-None-clause-put c = on_ok_weaker c.put_new.result (λ is. is ∙ sym (object_is c.args.self.now c.args.name.now c.args.sort.now c.args.number c.in-Some-None.sort None (ap (λ (t : TableView). number_of t.sorts.names c.args.sort.now) (sym c.self.view_is) ∙ sym c.find.ensures ∙ c.in-Some-None.is-0) (ap (λ (t : TableView). number_of (names_of t.objects) c.args.name.now) (sym c.self.view_is) ∙ sym c.find-2.ensures ∙ c.in-Some-None.is-1))) c.put_new.ensures.put
