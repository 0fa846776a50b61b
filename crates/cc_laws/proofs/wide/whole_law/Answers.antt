use Rattle.std.proofs.Common.{◌∙◌, ◌+◌, List, ℕ, ap}
use Rattle.std.specs.Prelude.{Option}
use Rattle.std.specs.Option.{option_map}
use Rattle.cc_defs.specs.declared.law.Range.{Range}
use Rattle.cc_defs.specs.declared.signature.LawKind.{LawKind}
use Rattle.cc_defs.specs.Resolved.{Formula, plain_formula}
use Rattle.cc_defs.specs.Trees.{plain_tree}
use Rattle.cc_laws.specs.Expansion.{Frame, part, part_brackets}
use Rattle.cc_laws.specs.Resolving.{resolve}
use Rattle.cc_laws.specs.Views.{plain_caused, scope_of}
use Rattle.cc_laws.specs.Vocabulary.{vocabulary_of}
use Rattle.cc_laws.specs.Widening.{whole_law}
use Rattle.cc_wide.specs.WideLaws.{WideBase}
use Rattle.cc_wide.specs.WideLaws as wide
use Rattle.cc_laws.proofs.wide.whole_law.Goals as goal

abbrev built : ℕ → ℕ → List Range → Formula → Formula → Option Formula → Formula → LawKind → WideBase
built file line over head body after test kind =
    wide.One (record { ranges = over; head = head; body = body; after = after; test = test; kind = kind; file = file; line = line })

pub returns : goal.returns
returns c =
    let v = vocabulary_of c.args.table.now in
    let law = plain_caused c.args.law.now c.args.later in
    let kept = c.in_ok-frame.frame in
    let parts = c.in_ok-parts.ensures in
    let make = built kept.file kept.line in
    let made = c.in_ok-parts.parts in
    let h = plain_formula made.head in
    let b = plain_formula made.body in
    let a = option_map plain_formula made.after in
    let k = c.class_of.result in
    let scope = scope_of kept.names in
    let next = kept.names.next in
    let head = resolve v scope (next + part_brackets law.body + part_brackets law.after) (plain_tree c.args.head.now) in
    let body = part v scope next law.body in
    let after = option_map (resolve v scope (next + part_brackets law.body)) law.after in
    let test = plain_formula kept.test in
    ap (λ w. make w h b a test k) c.of.ensures
    ∙ ap (λ w. make kept.ranges.items w b a test k) parts.head
    ∙ ap (λ w. make kept.ranges.items head w a test k) parts.body
    ∙ ap (λ w. make kept.ranges.items head body w test k) parts.after
    ∙ ap (λ w. make kept.ranges.items head body after test w) c.class_of.ensures
    ∙ ap (λ (frame : Frame). whole_law v frame law (plain_tree c.args.head.now)) c.in_ok-frame.ensures
