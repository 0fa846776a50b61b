use Rattle.std.proofs.Common.{ap}
use Rattle.cc_defs.specs.Resolved as resolved
use Rattle.cc_laws.proofs.ActionNames.{plain_constant}
use Rattle.cc_laws.proofs.values.equation_of.Goals as goal

pub returns : goal.returns
returns c = ap (λ (term : resolved.Term). resolved.Equal term (resolved.plain_term c.args.value)) (plain_constant c.args.symbol c.args.args)
