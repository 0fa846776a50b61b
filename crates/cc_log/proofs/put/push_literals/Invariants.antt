use Rattle.std.proofs.Common.{◌≡◌, ◌++◌, ◌∷◌, drop, flat_map, string_bytes}
use Rattle.cc_defs.specs.LogTexts.{literal_text}
use Rattle.cc_log.proofs.put.push_literals.Given as goal

-- the text so far, with what is left to write, is the whole text
abbrev pub invariant-loop-literal : goal.invariant-loop-literal
invariant-loop-literal l =
    string_bytes l.text ++ flat_map (λ literal. 32 ∷ literal_text literal) (drop l.literal-index l.literals)
    ≡ string_bytes l.initial.text ++ flat_map (λ literal. 32 ∷ literal_text literal) l.literals
