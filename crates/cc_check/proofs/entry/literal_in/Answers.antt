use Rattle.cc_log.proofs.NumberBytes.{literal_within}
use Rattle.cc_check.proofs.entry.literal_in.Goals as goal

pub returns : goal.returns
returns c = literal_within c.args.bytes.now c.in-Some.number c.in-Some.rest.now c.in-Some.ensures c.if-number-lt2.false
