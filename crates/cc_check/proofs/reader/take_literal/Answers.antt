use Rattle.std.proofs.Common.{ap, sym, ◌∙◌}
use Rattle.cc_defs.specs.declared.log.Version.{Version}
use Rattle.cc_check.specs.Readers.{literal_taken}
use Rattle.cc_check.proofs.Taken.{literal_plain}
use Rattle.cc_check.proofs.reader.take_literal.Goals as goal

pub returns-in-Second : goal.returns-in-Second
returns-in-Second c =
    literal_plain c.args.bytes.now c.literal_in.result c.literal_in.ensures ∙ ap (λ (v : Version). literal_taken v c.args.bytes.now) (sym c.in-Second.is)
