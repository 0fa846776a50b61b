-- Readers of laws.
use Rattle.std.specs.Prelude.{Bool, true, false, ◌||◌, if◌then◌else◌, List, ◌∷◌, Option, Some, None, codes}
use Rattle.cc_defs.specs.declared.token.Mark.TheVariants as marks
use Rattle.cc_defs.specs.Trees.{PlainTerm, PlainTree, PlainLaw, PlainPart, Caused, Constraint, Always, Nonexecutable, Default, Exogenous, Inertial, Causes, MayCause, NoConcurrency, Law}
use Rattle.cc_defs.specs.Grammar.{Terminal, Word, Number, Sign, is_name, is_value_word}
use Rattle.cc_syntax.specs.Readers.{Reader, given, ◌>>=◌, word_at, optional_at, paired}
use Rattle.cc_syntax.specs.Terms.{term_at}
use Rattle.cc_syntax.specs.Formulas.{formula_at}

abbrev pub if_at : Reader (Option PlainTree)
if_at = optional_at formula_at (codes "if")

-- `F if G after H`
unfoldable pub caused_at : (PlainTree → Option PlainTree → Option PlainTree → PlainLaw) → Reader PlainLaw
caused_at make tokens =
    formula_at tokens >>= λ f. if_at f.1 >>= λ g. optional_at formula_at (codes "after") g.1 >>= λ h.
    Some (make f.0 g.0 h.0, h.1)

-- `F if G`
unfoldable pub effect_at : (PlainTree → Option PlainTree → PlainLaw) → Reader PlainLaw
effect_at make = paired make formula_at if_at

unfoldable pub alone_at : (PlainTree → PlainLaw) → Reader PlainLaw
alone_at make tokens = formula_at tokens >>= λ f. Some (make f.0, f.1)

unfoldable pub of_term_at : (PlainTerm → PlainLaw) → Reader PlainLaw
of_term_at make tokens = term_at tokens >>= λ c. Some (make c.0, c.1)

-- a law that begins with its word
unfoldable pub worded_at : Reader PlainLaw
worded_at tokens =
    given (word_at (codes "caused") tokens) (
    given (word_at (codes "constraint") tokens) (
    given (word_at (codes "always") tokens) (
    given (word_at (codes "nonexecutable") tokens) (
    given (word_at (codes "default") tokens) (
    given (word_at (codes "exogenous") tokens) (
    given (word_at (codes "inertial") tokens) None
    (of_term_at Inertial)) (of_term_at Exogenous)) (caused_at Default)) (effect_at Nonexecutable)) (alone_at Always)) (alone_at Constraint)) (caused_at Caused)

-- what an action does, behind it
abbrev pub acted_at : PlainTree → Reader PlainLaw
acted_at action tokens =
    given (word_at (codes "causes") tokens)
    (word_at (codes "may") tokens >>= λ rest. word_at (codes "cause") rest >>= effect_at (MayCause action))
    (effect_at (Causes action))

-- a law that begins with a formula
unfoldable pub acting_at : Reader PlainLaw
acting_at tokens = formula_at tokens >>= λ action. acted_at action.0 action.1

-- whether a formula may begin here
abbrev pub opens_formula : List Terminal → Bool
opens_formula (Sign marks.Minus ∷ rest) = true
opens_formula (Sign marks.LeftParen ∷ rest) = true
opens_formula (Sign marks.LeftBracket ∷ rest) = true
opens_formula (Number digits ∷ rest) = true
opens_formula (Word text ∷ rest) = is_name text || is_value_word text
opens_formula tokens = false

abbrev pub law_at : Reader PlainLaw
law_at tokens = if opens_formula tokens then acting_at tokens else worded_at tokens

-- a law with its test
unfoldable pub tested_law_at : Reader PlainPart
tested_law_at tokens =
    given (word_at (codes "noconcurrency") tokens)
    (paired Law law_at (optional_at formula_at (codes "where")) tokens)
    (λ rest. Some (Law NoConcurrency None, rest))
