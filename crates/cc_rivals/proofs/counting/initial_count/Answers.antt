use Rattle.std.proofs.Common.{◌∙◌, ap, length, sym}
use Rattle.cc_defs.specs.declared.signature.Kind.{Kind}
use Rattle.cc_rivals.specs.Making.{initial_value}
use Rattle.cc_wide.specs.WideLists.{initial_wide}
use Rattle.cc_rivals.proofs.Counts.{length_values}
use Rattle.cc_rivals.proofs.counting.initial_count.Goals as goal

pub returns-in-Simple : goal.returns-in-Simple
returns-in-Simple c = λ number.
    let size = length c.args.constant.now.domain in
    ap length c.items.ensures ∙ length_values (initial_value number) size ∙ ap (λ (kind : Kind). length (initial_wide kind number size)) (sym c.in-Simple.is)
