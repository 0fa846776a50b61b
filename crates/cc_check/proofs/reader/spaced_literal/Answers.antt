use Rattle.std.proofs.Common.{ap, ◌∙◌}
use Rattle.std.proofs.lemmas.List.{take_rest}
use Rattle.cc_check.specs.Readers.{signed_of}
use Rattle.cc_check.proofs.Taken.{signed_plain}
use Rattle.cc_check.proofs.reader.spaced_literal.Goals as goal

pub returns : goal.returns
returns c = signed_plain _ c.signed_at.result c.signed_at.ensures ∙ ap signed_of (take_rest c.args.bytes.now 1)
