use Rattle.std.proofs.Common.{◌≡◌, ◌++◌, ◌∷◌, [], map, take}
use Rattle.cc_sorts.proofs.signature.longer_rows.Given as goal

abbrev pub invariant-loop-object : goal.invariant-loop-object
invariant-loop-object l = l.rows.items ≡ l.initial.rows.items ++ map (λ object. l.row ++ object ∷ []) (take l.object-index l.objects)
