use Rattle.std.proofs.Common.{◌≡◌, ◌∙◌, List, ℕ, IfOk, codes, decimal, subst}
use Rattle.cc_defs.specs.Events.{of_horizon}
use Rattle.cc_print.proofs.Joins.{three}
use Rattle.cc_print.proofs.texts.listed_line.Goals as goal

pub returns : goal.returns
returns c =
    subst (λ said. IfOk c.horizon_line.result (λ (text : List ℕ). text ≡ of_horizon c.args.horizon said))
    (c.deref.ensures ∙ c.in_ok-line.ensures.ok ∙ three c.args.said.now (decimal c.args.listed) (codes " listed")) c.horizon_line.ensures
