use Rattle.std.proofs.Common.{◌∙◌, ◌++◌, List, ℕ, ap, codes, decimal}
use Rattle.cc_print.proofs.Joins.{six}
use Rattle.cc_print.proofs.verdicts.accepted.Goals as goal

pub returns : goal.returns
returns c = c.of.ensures ∙ c.in_ok-text.ensures.ok ∙ ap (λ (told : List ℕ). codes "log accepted: horizons " ++ told)
    (six (decimal c.args.from) (codes " to ") (decimal c.args.to) (codes ", blocked ") (decimal c.args.blocked) (codes "\n"))
