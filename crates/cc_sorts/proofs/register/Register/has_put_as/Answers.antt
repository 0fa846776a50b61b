use Rattle.std.proofs.Common.{◌∙◌, sym, ap, arith}
use Rattle.cc_sorts.specs.Dictionaries.{number_of, names_of}
use Rattle.cc_sorts.specs.Tables.{TableView, Numbered}
use Rattle.cc_sorts.proofs.Placing.{no_put_as}
use Rattle.cc_sorts.proofs.Decided.{number_within}
use Rattle.cc_sorts.proofs.register.Register.has_put_as.Goals as goal

pub returns-in-None : goal.returns-in-None
returns-in-None c =
    no_put_as (number_of (names_of c.args.self.now.objects) c.args.name.now) c.args.self.now.puts
    (ap (λ (t : TableView). number_of (names_of t.objects) c.args.name.now) (sym c.self.view_is) ∙ sym c.find.ensures ∙ c.in-None.is)

pub overflow_cast-object : goal.overflow_cast-object
overflow_cast-object c = omega (arith, number_within c.args.name.now (λ (entry : Numbered). entry.0) c.self.inside.objects.named c.in-Some.object (sym c.in-Some.is ∙ c.find.ensures), c.self.invariant.few_objects)
