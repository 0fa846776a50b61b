-- The line of a refusal.
use Rattle.std.specs.Prelude.{ℕ, ◌==◌, if◌then◌else◌, List, [], ◌∷◌, ◌++◌, Option, Some, None, codes, decimal}
use Rattle.cc_defs.specs.declared.refusal.Refusal.{Refusal}
use Rattle.cc_defs.specs.declared.refusal.LimitAt.{LimitAt}
use Rattle.cc_defs.specs.Limits.{limit_name, limit_number}
use Rattle.cc_defs.specs.Refusals.{refusal_name}

-- the file and the line; a refusal without a place has line 0
abbrev pub place_text : Refusal → List ℕ → List ℕ
place_text refusal file = if refusal.line == 0 then [] else file ++ codes ":" ++ decimal refusal.line ++ codes ": "

-- the limit that was passed, and its number
abbrev pub limit_text : Option LimitAt → List ℕ
limit_text None = []
limit_text (Some limit) = codes " " ++ limit_name limit ++ codes " " ++ decimal (limit_number limit)

abbrev pub refusal_line : Refusal → List ℕ → List ℕ
refusal_line refusal file =
    codes "ccalc: " ++ place_text refusal file ++ decimal refusal.number ++ codes " " ++ refusal_name refusal.number ++ limit_text refusal.limit ++ 10 ∷ []
