-- Readers of the parts of a query.
use Rattle.std.specs.Prelude.{Bool, true, false, Some, codes}
use Rattle.cc_defs.specs.declared.signature.At.{At}
use Rattle.cc_defs.specs.declared.signature.At.TheVariants as ats
use Rattle.cc_defs.specs.declared.token.Mark.TheVariants as marks
use Rattle.cc_defs.specs.Trees.{PlainQueryItem, Label, Range, Condition}
use Rattle.cc_syntax.specs.Readers.{Reader, given, ◌>>=◌, numeral_at, label_at, sign_at, word_at, listed_at, ◌▷◌}
use Rattle.cc_syntax.specs.Formulas.{formula_at}

-- the formulas of a condition
abbrev pub condition_at : Bool → At → Reader PlainQueryItem
condition_at claim at tokens = (sign_at marks.Colon ▷ listed_at formula_at marks.Comma) tokens >>= λ read. Some (Condition claim at read.0, read.1)

abbrev pub step_at : Reader At
step_at tokens =
    given (word_at (codes "maxstep") tokens) (numeral_at tokens >>= λ read. Some (ats.Number read.0, read.1)) (λ rest. Some (ats.Last, rest))

unfoldable pub stepped_at : Bool → Reader PlainQueryItem
stepped_at claim tokens = step_at tokens >>= λ at. condition_at claim at.0 at.1

-- a number, or two with the mark between them
unfoldable pub range_at : Reader PlainQueryItem
range_at tokens =
    numeral_at tokens >>= λ lo.
    given (sign_at marks.DotDot lo.1) (Some (Range lo.0 lo.0, lo.1)) (λ rest. numeral_at rest >>= λ hi. Some (Range lo.0 hi.0, hi.1))

-- behind `maxstep`
abbrev pub last_at : Reader PlainQueryItem
last_at tokens = given (sign_at marks.DoubleColon tokens) (condition_at false ats.Last tokens) range_at

abbrev pub labelled_at : Reader PlainQueryItem
labelled_at tokens = (sign_at marks.DoubleColon ▷ label_at) tokens >>= λ read. Some (Label read.0, read.1)

unfoldable pub query_item_at : Reader PlainQueryItem
query_item_at tokens =
    given (word_at (codes "label") tokens) (
    given (word_at (codes "claim") tokens) (
    given (word_at (codes "maxstep") tokens) (stepped_at false tokens) last_at)
    (sign_at marks.DoubleColon ▷ stepped_at true))
    labelled_at
