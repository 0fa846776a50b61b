use Rattle.std.proofs.Common.{rules, ◌≡◌, ◌∙◌, ◌∷◌, [], map, IfOk, ap, subst}
use Rattle.cc_defs.specs.Trees.{plain_law, plain_tree}
use Rattle.cc_laws.specs.Views.{frame_from}
use Rattle.cc_laws.specs.Vocabulary.{vocabulary_of}
use Rattle.cc_wide.specs.WideLaws.{WideBase, plain_wide_base}
use Rattle.cc_laws.proofs.Shortened.{headless, whole_head}
use Rattle.cc_laws.proofs.WithMade.{only_so}
use Rattle.cc_laws.proofs.wide.whole_laws.Goals as goal

pub returns-in_ok-whole-in-Caused : goal.returns-in_ok-whole-in-Caused
returns-in_ok-whole-in-Caused c =
    let v = vocabulary_of c.args.table.now in
    let frame = frame_from v c.args.source.now in
    let law = plain_law c.args.law.now in
    subst (λ w. IfOk c.only.result (λ made. map plain_wide_base made.items ≡ w))
    (ap (λ (one : WideBase). one ∷ []) c.in_ok-whole-in-Caused.ensures
    ∙ whole_head v frame law c.is_later-later.result (plain_tree c.deref.result.now) c.is_later-later.ensures (search rules))
    (only_so plain_wide_base c.only.result c.in_ok-whole-in-Caused.whole c.only.ensures)

pub returns-in_default : goal.returns-in_default
returns-in_default c =
    let none = c.in_default in
    let v = vocabulary_of c.args.table.now in
    ap (map plain_wide_base) c.new.ensures.items
    ∙ headless v (frame_from v c.args.source.now) c.args.law.now none.not-Caused none.not-Default none.not-Causes none.not-MayCause
