-- The lines of Err.
use Rattle.std.specs.Prelude.{ℕ, List, [], ◌∷◌, ◌++◌, codes, if◌then◌else◌, ◌==◌}
use Rattle.cc_defs.specs.declared.refusal.Refusal.{Refusal}
use Rattle.cc_print.specs.Refusals.{refusal_line}

abbrev pub usage_line : List ℕ
usage_line = codes "usage: ccalc [--mode list|check|make|convert|why|export|models|modelscheck|sure|surecheck|general|generalcheck|forever|forevercheck] [--query LABEL] [--count N] [--budget B] [--after KEY] [--log NAME] [--form 1|2] [--to NAME] [--key KEY] [--horizon M] [--size N] [FILE]" ++ 10 ∷ []

-- A refusal is told by its line; that of the words by a second one too.
abbrev pub refusal_text : Refusal → List ℕ → List ℕ
refusal_text refusal file = refusal_line refusal file ++ (if refusal.number == 1 then usage_line else [])

abbrev pub read_fault_line : List ℕ
read_fault_line = codes "ccalc: read fault" ++ 10 ∷ []

abbrev pub write_fault_line : List ℕ
write_fault_line = codes "ccalc: write fault" ++ 10 ∷ []

abbrev pub memory_line : List ℕ
memory_line = codes "ccalc: out of memory" ++ 10 ∷ []
