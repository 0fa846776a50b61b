use Rattle.std.proofs.Common.{ap, sym, ◌∙◌}
use Rattle.cc_defs.specs.declared.log.Version.{Version}
use Rattle.cc_check.specs.Readers.{number_taken}
use Rattle.cc_check.proofs.Taken.{entry_plain}
use Rattle.cc_check.proofs.reader.take_number.Goals as goal

pub returns-in-Second : goal.returns-in-Second
returns-in-Second c =
    entry_plain c.args.bytes.now c.number_in.result c.number_in.ensures ∙ ap (λ (v : Version). number_taken v c.args.bytes.now) (sym c.in-Second.is)
