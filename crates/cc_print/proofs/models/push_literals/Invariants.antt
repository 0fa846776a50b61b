use Rattle.std.proofs.Common.{◌≡◌, ◌+◌, ◌++◌, drop, string_bytes}
use Rattle.cc_print.specs.Models.{model_words}
use Rattle.cc_print.proofs.models.push_literals.Given as goal

-- what is there, with the literals of the values that are left, is the whole
abbrev pub invariant-loop-value : goal.invariant-loop-value
invariant-loop-value l =
    (l.variable ≡ 1 + l.value-index)
    × (string_bytes l.text ++ model_words l.variable (drop l.value-index l.row) ≡ string_bytes l.initial.text ++ model_words 1 l.row)
