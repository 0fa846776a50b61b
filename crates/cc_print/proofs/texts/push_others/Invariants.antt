use Rattle.std.proofs.Common.{◌≡◌, ◌++◌, ◌∷◌, drop, map, flat_map, string_bytes, decimal}
use Rattle.cc_print.proofs.texts.push_others.Given as goal

-- the text so far, with what is left to write, is the whole text
abbrev pub invariant-loop-index : goal.invariant-loop-index
invariant-loop-index l =
    let rest = flat_map (λ digits. 44 ∷ digits) (map decimal (drop l.index-index l.others))
    in string_bytes l.text ++ rest ≡ string_bytes l.initial.text ++ flat_map (λ digits. 44 ∷ digits) (map decimal l.others)
