use Rattle.std.proofs.Common.{◌≡◌, ◌++◌, ◌∷◌, drop, flat_map, string_bytes, decimal}
use Rattle.cc_log.proofs.put.push_numbers.Given as goal

-- the text so far, with what is left to write, is the whole text
abbrev pub invariant-loop-number : goal.invariant-loop-number
invariant-loop-number l =
    string_bytes l.text ++ flat_map (λ number. 32 ∷ decimal number) (drop l.number-index l.numbers)
    ≡ string_bytes l.initial.text ++ flat_map (λ number. 32 ∷ decimal number) l.numbers
