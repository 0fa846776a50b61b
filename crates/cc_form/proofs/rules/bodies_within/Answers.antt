use Rattle.std.proofs.Common.{ℕ, List, sym, subst}
use Rattle.std.specs.List.{AllByRecursion}
use Rattle.cc_form.specs.Making.{IsBodyOver}
use Rattle.cc_form.specs.Places.{position_sizes}
use Rattle.cc_form.proofs.Standing.{rules_stand}
use Rattle.cc_form.proofs.rules.bodies_within.Goals as goal

pub bodies-requires-clause-fits : goal.bodies-requires-clause-fits
bodies-requires-clause-fits c =
    let f = c.requires.fits in
    subst (λ (p : List ℕ). AllByRecursion (IsBodyOver p c.args.stride) c.args.rules.now) (sym f.2)
    (subst (λ (n : ℕ). AllByRecursion (IsBodyOver (position_sizes f.0 c.args.horizon) n) c.args.rules.now) (sym f.1) (rules_stand f.0 c.args.horizon c.args.rules.now c.requires.horizon f.3))
