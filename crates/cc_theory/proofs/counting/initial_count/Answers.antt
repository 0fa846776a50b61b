use Rattle.std.proofs.Common.{◌∙◌, ap, length, sym}
use Rattle.cc_defs.specs.declared.signature.Kind.{Kind}
use Rattle.cc_theory.specs.Making.{initial_of, initial_rule}
use Rattle.cc_theory.proofs.Made.{length_values}
use Rattle.cc_theory.proofs.counting.initial_count.Goals as goal

pub returns-in-Simple : goal.returns-in-Simple
returns-in-Simple c = λ number.
    let size = length c.args.constant.now.domain in
    ap length c.items.ensures ∙ length_values (initial_rule number) size ∙ ap (λ (kind : Kind). length (initial_of kind number size)) (sym c.in-Simple.is)
