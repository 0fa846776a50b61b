-- Models of a CNF, and what a checker says of a log of models, as lines.
use Rattle.std.specs.Prelude.{ℕ, ◌+◌, ◌==◌, List, [], ◌∷◌, ◌++◌, codes, decimal}
use Rattle.cc_defs.specs.declared.log.LogVerdict.{LogVerdict}
use Rattle.cc_defs.specs.declared.log.LogVerdict.TheVariants as verdicts
use Rattle.cc_defs.specs.LogTexts.{literal_text}
use Rattle.cc_print.specs.Verdicts.{verdict_line}

-- a literal for each value, of the variables from this one on
abbrev pub model_words : ℕ → List ℕ → List ℕ
model_words variable [] = []
model_words variable (value ∷ values) =
    codes " " ++ literal_text (record { variable = variable; positive = value == 1 }) ++ model_words (variable + 1) values

abbrev pub model_line : ℕ → List ℕ → List ℕ
model_line number row = codes "model " ++ decimal number ++ codes ":" ++ model_words 1 row ++ 10 ∷ []

-- an accepted log of models has no horizons to speak of
abbrev pub models_verdict_line : LogVerdict → List ℕ
models_verdict_line (verdicts.Accepted first last blocked) = codes "log accepted: blocked " ++ decimal blocked ++ 10 ∷ []
models_verdict_line (verdicts.Refused line cause) = verdict_line (verdicts.Refused line cause)
