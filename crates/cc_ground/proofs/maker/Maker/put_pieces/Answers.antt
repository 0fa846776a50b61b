use Rattle.std.proofs.Common.{List, IfErr, OnOk, length, refl, subst}
use Rattle.cc_defs.specs.declared.node.Node.{Node}
use Rattle.cc_ground.specs.declared.judged.Equation.{Equation}
use Rattle.cc_ground.specs.Views.{HasPut, LacksRoom}
use Rattle.cc_ground.proofs.Totals.{judged_is}
use Rattle.cc_ground.proofs.maker.Maker.put_pieces.Goals as goal

pub returns-clause-put : goal.returns-clause-put
returns-clause-put c = λ env s t of.
    let maker = c.args.self.now in
    let equation : Equation = record { table = maker.table; sig = maker.sig; sign = c.args.sign; pieces = c.args.pieces; constants = c.args.constants } in
    subst (λ (nodes : List Node). OnOk c.put_all_lists.result (HasPut nodes maker c.put_all_lists.new.self))
    (judged_is equation env c.args.sign s t of.judged refl of.sides of.once of.all_there) c.put_all_lists.ensures.put

pub returns-clause-full : goal.returns-clause-full
returns-clause-full c = λ env s t of.
    let maker = c.args.self.now in
    let equation : Equation = record { table = maker.table; sig = maker.sig; sign = c.args.sign; pieces = c.args.pieces; constants = c.args.constants } in
    subst (λ (nodes : List Node). IfErr c.put_all_lists.result (LacksRoom (length nodes) maker.room))
    (judged_is equation env c.args.sign s t of.judged refl of.sides of.once of.all_there) c.put_all_lists.ensures.full
