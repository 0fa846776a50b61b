use Rattle.std.proofs.Common.{ltb-true, sym}
use Rattle.std.proofs.lemmas.Result.{on_ok_weaker}
use Rattle.cc_stage.proofs.Marked.{room_for}
use Rattle.cc_stage.proofs.marks.lengthen_for.Goals as goal

pub returns-in-Some-clause-within : goal.returns-in-Some-clause-within
returns-in-Some-clause-within c =
    on_ok_weaker c.lengthen.result
    (λ low. room_for c.args.clause.now c.in-Some.last.now c.lengthen.new.marks.items c.requires (ltb-true _ _ (sym c.in-Some.ensures.item.0)) (c.in-Some.ensures.item.1) low)
    c.lengthen.ensures.within
