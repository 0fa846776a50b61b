use Rattle.std.proofs.Common.{◌∙◌, ◌++◌, List, ℕ, ap, codes, decimal}
use Rattle.cc_print.proofs.Joins.{four}
use Rattle.cc_print.proofs.verdicts.refused.Goals as goal

pub returns : goal.returns
returns c = c.of.ensures ∙ c.in_ok-text.ensures.ok ∙ ap (λ (told : List ℕ). codes "log refused: line " ++ told)
    (four (decimal c.args.line) (codes ", ") c.words-words.result.now (codes "\n")
    ∙ ap (λ (words : List ℕ). decimal c.args.line ++ codes ", " ++ words ++ codes "\n") c.words-words.ensures)
