use Rattle.std.proofs.Common.{◌≡◌, ◌++◌, ◌∷◌, [], map, flat_map, take}
use Rattle.cc_sorts.proofs.signature.with_objects.Given as goal

abbrev pub invariant-loop-row : goal.invariant-loop-row
invariant-loop-row l = l.longer.items ≡ flat_map (λ row. map (λ object. row ++ object ∷ []) l.objects) (take l.row-index l.rows)
