use Rattle.std.proofs.Common.{refl}
use Rattle.cc_defs.specs.LogBytes.{binary_header}
use Rattle.cc_check.proofs.Headers.{at_front, not_at}
use Rattle.cc_convert.proofs.said.version_of.Goals as goal

pub returns-in-Some-clause-second : goal.returns-in-Some-clause-second
returns-in-Some-clause-second c = ((λ is. (_, at_front binary_header c.args.bytes.now _ c.in-Some.ensures.cases.0 c.in-Some.ensures.cases.1)), (λ there. refl))

pub returns-in-None-clause-second : goal.returns-in-None-clause-second
returns-in-None-clause-second c = ((λ is. absurd cc), (λ (rest, is). absurd (not_at binary_header c.args.bytes.now c.in-None.ensures.cases rest is)))
