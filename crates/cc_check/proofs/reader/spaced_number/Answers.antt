use Rattle.std.proofs.Common.{ap, ◌∙◌}
use Rattle.std.proofs.lemmas.List.{take_rest}
use Rattle.cc_log.specs.Fronts.{number_of}
use Rattle.cc_check.proofs.Taken.{number_plain}
use Rattle.cc_check.proofs.reader.spaced_number.Goals as goal

pub returns : goal.returns
returns c = number_plain _ c.number_at.result c.number_at.ensures ∙ ap number_of (take_rest c.args.bytes.now 1)
