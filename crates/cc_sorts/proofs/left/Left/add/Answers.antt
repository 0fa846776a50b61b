use Rattle.std.proofs.Common.{OnOk, subst, sym}
use Rattle.cc_sorts.specs.declared.declaration.Declaration.{Declaration}
use Rattle.cc_sorts.specs.Declaring.{plain_declaration}
use Rattle.cc_sorts.specs.Lefts.{Adds}
use Rattle.cc_sorts.proofs.left.Left.add.Goals as goal

pub returns-in-Subsort : goal.returns-in-Subsort
returns-in-Subsort c = λ file line. subst (λ (d : Declaration). OnOk c.add_pair.result (Adds c.args.self.now c.add_pair.new.self (plain_declaration file line d))) (sym c.in-Subsort.is) (c.add_pair.ensures)

pub returns-in-Numbers : goal.returns-in-Numbers
returns-in-Numbers c = λ file line. subst (λ (d : Declaration). OnOk c.add_range.result (Adds c.args.self.now c.add_range.new.self (plain_declaration file line d))) (sym c.in-Numbers.is) (c.add_range.ensures)

pub returns-in-Constant : goal.returns-in-Constant
returns-in-Constant c = λ file line. subst (λ (d : Declaration). OnOk c.add_constant.result (Adds c.args.self.now c.add_constant.new.self (plain_declaration file line d))) (sym c.in-Constant.is) (c.add_constant.ensures file line)
