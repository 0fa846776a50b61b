use Rattle.std.proofs.Common.{◌∙◌, sym, ap}
use Rattle.cc_sorts.specs.Dictionaries.{number_of}
use Rattle.cc_sorts.specs.Tables.{TableView}
use Rattle.cc_sorts.proofs.Placing.{no_put_from}
use Rattle.cc_sorts.proofs.register.Register.has_put_from.Goals as goal

pub returns-in-None : goal.returns-in-None
returns-in-None c =
    no_put_from c.args.low c.args.high (number_of c.args.self.now.sorts.names c.args.sort.now) c.args.self.now.puts
    (ap (λ (t : TableView). number_of t.sorts.names c.args.sort.now) (sym c.self.view_is) ∙ sym c.find.ensures ∙ c.in-None.is)
