use Rattle.std.proofs.Common.{◌∙◌, ap}
use Rattle.std.specs.Option.{option_map}
use Rattle.cc_defs.specs.Resolved.{plain_formula}
use Rattle.cc_laws.specs.Expansion.{body_of, after_of}
use Rattle.cc_laws.specs.Views.{persistence_of, scope_of}
use Rattle.cc_laws.specs.Vocabulary.{vocabulary_of}
use Rattle.cc_laws.proofs.Valued.{value_made, equal_to}
use Rattle.cc_laws.proofs.values.value_law.Goals as goal

pub returns : goal.returns
returns c =
    let frame = c.args.frame in
    let p = persistence_of c.args.persistence in
    value_made (vocabulary_of c.args.table.now) frame.ranges.items c.add_domain.new.ranges.items (plain_formula frame.test) (scope_of frame.names) frame.names.next frame.file frame.line p c.args.symbol
    c.args.args.items c.of.result c.in_ok-variable.variable (plain_formula c.in_ok-parts.parts.body) (option_map plain_formula c.in_ok-parts.parts.after) _
    c.in_ok-variable.ensures.added c.of.ensures c.in_ok-variable.ensures.place
    (c.in_ok-parts.ensures.body ∙ ap (λ args. body_of p (equal_to c.args.symbol args c.in_ok-variable.variable)) c.deref.ensures.value)
    (c.in_ok-parts.ensures.after ∙ ap (λ args. after_of p (equal_to c.args.symbol args c.in_ok-variable.variable)) c.deref.ensures.value)
    c.base_law.ensures
