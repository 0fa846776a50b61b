use Rattle.std.proofs.Common.{subst}
use Rattle.std.specs.Prelude.{◌↔◌, IsTrue}
use Rattle.cc_defs.specs.Paths.{IsPath}
use Rattle.cc_tests_runs.proofs.calls.is_path.Goals as goal

pub returns : goal.returns
returns c = λ d of.
    subst (λ n. IsTrue c.is_history.result ↔ IsPath d n c.args.row.now) c.in_ok-theory.ensures.horizon
    (c.is_history.ensures d (c.in_ok-theory.ensures.of d of))
