use Rattle.std.proofs.Common.{◌∙◌, ◌++◌, ◌∷◌, [], List, ℕ, flat_map, map, ap}
use Rattle.std.proofs.lemmas.List.{take_all}
use Rattle.cc_sorts.proofs.Listed.{objects_more}
use Rattle.cc_sorts.proofs.signature.with_objects.Goals as goal

pub loop-row-preserved : goal.loop-row-preserved
loop-row-preserved c =
    objects_more c.args.objects.now c.args.rows.now c.loop-row.row-index c.row-item.result c.items.result.now c.loop-row.longer.items c.longer_rows.new.rows.items
    c.loop-row-test.true c.row-item.is c.items.ensures c.loop-row.invariant c.in_ok-longer_rows.ensures

pub returns : goal.returns
returns c = c.loop-row.invariant ∙ ap (flat_map (λ (row : List ℕ). map (λ object. row ++ object ∷ []) c.args.objects.now)) (take_all c.loop-row.row-index c.args.rows.now c.loop-row-test.false)
