use Rattle.std.proofs.Common.{◌≡◌, ◌∙◌, map, subst, ap}
use Rattle.std.specs.Prelude.{IfOk}
use Rattle.cc_defs.specs.Resolved.{plain_base_law}
use Rattle.cc_defs.specs.Trees.{plain_term}
use Rattle.cc_laws.specs.Expansion.{Frame, subject_laws}
use Rattle.cc_laws.specs.Views.{frame_of, persistence_of}
use Rattle.cc_laws.specs.Vocabulary.{vocabulary_of}
use Rattle.cc_laws.proofs.Expanded.{subject_made}
use Rattle.cc_laws.proofs.WithMade.{only_so}
use Rattle.cc_laws.proofs.expansion.subject_laws.Goals as goal

pub returns-in_ok-law-in-Constant : goal.returns-in_ok-law-in-Constant
returns-in_ok-law-in-Constant c =
    let v = vocabulary_of c.args.table.now in
    let p = persistence_of c.args.persistence in
    let term = plain_term c.args.constant.now in
    subst (λ w. IfOk c.only.result (λ made. map plain_base_law made.items ≡ w))
    (subject_made v (frame_of c.in_ok-frame.frame) p term c.in_ok-symbol.field-0 c.in-Constant.symbol c.in-Constant.args (plain_base_law c.in_ok-law-in-Constant.law)
    c.in-Constant.is c.in_ok-symbol.ensures c.in_ok-law-in-Constant.ensures
    ∙ ap (λ (frame : Frame). subject_laws v frame p term) c.in_ok-frame.ensures)
    (only_so plain_base_law c.only.result c.in_ok-law-in-Constant.law c.only.ensures)
