use Rattle.std.proofs.Common.{◌≡◌, ◌∙◌, map, subst, ap, sym}
use Rattle.std.specs.Prelude.{IfOk}
use Rattle.cc_defs.specs.Resolved.{plain_base_law}
use Rattle.cc_defs.specs.Trees.{plain_law}
use Rattle.cc_laws.specs.Expansion.{split}
use Rattle.cc_laws.specs.Shortened.{short_with}
use Rattle.cc_laws.specs.Views.{frame_from}
use Rattle.cc_laws.specs.Vocabulary.{vocabulary_of}
use Rattle.cc_laws.proofs.Shortened.{of_others, short_laws}
use Rattle.cc_laws.proofs.expansion.laws_with.Goals as goal

pub returns-then-is_short : goal.returns-then-is_short
returns-then-is_short c =
    let v = vocabulary_of c.args.table.now in
    let frame = frame_from v c.args.source.now in
    let law = plain_law c.args.law.now in
    subst (λ w. IfOk c.split.result (λ made. map plain_base_law made.items ≡ w))
    (ap (λ later. split v frame (short_with later law)) c.is_later-later.ensures ∙ short_laws v frame law (sym c.is_short.ensures ∙ c.if-is_short.true)) c.split.ensures

pub returns : goal.returns
returns c =
    let v = vocabulary_of c.args.table.now in
    let frame = frame_from v c.args.source.now in
    let law = plain_law c.args.law.now in
    subst (λ w. IfOk c.other_laws.result (λ made. map plain_base_law made.items ≡ w)) (of_others v frame law (sym c.is_short.ensures ∙ c.if-is_short.false)) c.other_laws.ensures
