use Rattle.std.proofs.Common.{◌≡◌, IfOk, map, subst, sym, ◌∙◌, ap}
use Rattle.cc_defs.specs.declared.tree.LawTree.{LawTree}
use Rattle.cc_defs.specs.Resolved.{plain_base_law}
use Rattle.cc_defs.specs.Trees.{plain_law}
use Rattle.cc_laws.specs.Shortened.{other_laws}
use Rattle.cc_laws.specs.Views.{frame_from}
use Rattle.cc_laws.specs.Vocabulary.{vocabulary_of}
use Rattle.cc_laws.proofs.Shortened.{none_of_others}
use Rattle.cc_laws.proofs.expansion.other_laws.Goals as goal

pub returns-in-Exogenous : goal.returns-in-Exogenous
returns-in-Exogenous c =
    let v = vocabulary_of c.args.table.now in
    subst (λ (law : LawTree). IfOk c.subject_laws.result (λ made. map plain_base_law made.items ≡ other_laws v (frame_from v c.args.source.now) (plain_law law))) (sym c.in-Exogenous.is) c.subject_laws.ensures

pub returns-in-Inertial : goal.returns-in-Inertial
returns-in-Inertial c =
    let v = vocabulary_of c.args.table.now in
    subst (λ (law : LawTree). IfOk c.subject_laws-in-Inertial.result (λ made. map plain_base_law made.items ≡ other_laws v (frame_from v c.args.source.now) (plain_law law))) (sym c.in-Inertial.is) c.subject_laws-in-Inertial.ensures

pub returns-in_default : goal.returns-in_default
returns-in_default c =
    let v = vocabulary_of c.args.table.now in
    ap (map plain_base_law) c.new.ensures.items
    ∙ none_of_others v (frame_from v c.args.source.now) c.args.law.now c.in_default.not-Exogenous c.in_default.not-Inertial c.in_default.not-NoConcurrency
