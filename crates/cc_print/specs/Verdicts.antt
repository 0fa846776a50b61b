-- What a checker says of a log, as a line.
use Rattle.std.specs.Prelude.{ℕ, List, [], ◌∷◌, ◌++◌, codes, decimal}
use Rattle.cc_defs.specs.declared.log.LogVerdict.{LogVerdict}
use Rattle.cc_defs.specs.declared.log.LogVerdict.TheVariants as verdicts
use Rattle.cc_defs.specs.LogTexts.{cause_words}

abbrev pub verdict_line : LogVerdict → List ℕ
verdict_line (verdicts.Accepted from to blocked) =
    codes "log accepted: horizons " ++ decimal from ++ codes " to " ++ decimal to ++ codes ", blocked " ++ decimal blocked ++ 10 ∷ []
verdict_line (verdicts.Refused line cause) = codes "log refused: line " ++ decimal line ++ codes ", " ++ cause_words cause ++ 10 ∷ []
