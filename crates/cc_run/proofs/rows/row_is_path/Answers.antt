use Rattle.std.proofs.Common.{subst}
use Rattle.std.specs.Prelude.{◌↔◌, IsTrue}
use Rattle.cc_defs.specs.Paths.{IsPath}
use Rattle.cc_run.proofs.WhyTold.{rules_fit}
use Rattle.cc_run.proofs.rows.row_is_path.Goals as goal

pub returns-clause-unrefused : goal.returns-clause-unrefused
returns-clause-unrefused c = λ d of. rules_fit d c.args.key.now.horizon (c.in_ok-theory.ensures.few d of)

pub returns-clause-is : goal.returns-clause-is
returns-clause-is c = λ d of.
    subst (λ n. IsTrue c.is_history.result ↔ IsPath d n c.args.key.now.row) c.in_ok-theory.ensures.horizon
    (subst (λ row. IsTrue c.is_history.result ↔ IsPath d c.in_ok-theory.theory.horizon row) c.items.ensures (c.is_history.ensures d (c.in_ok-theory.ensures.of d of)))
