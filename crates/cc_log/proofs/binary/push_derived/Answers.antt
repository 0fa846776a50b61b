use Rattle.std.proofs.Common.{arith}
use Rattle.std.proofs.lemmas.Grind.{common_steps}
use Rattle.cc_log.proofs.WrittenBytes.{derived_bytes}
use Rattle.cc_log.proofs.binary.push_derived.Goals as goal

pub returns : goal.returns
returns c = grind (arith, common_steps, derived_bytes)
