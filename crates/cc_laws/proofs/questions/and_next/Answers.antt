use Rattle.std.proofs.Common.{◌≡◌, ◌∙◌, ◌+◌, List, [], IfOk, OnOk, ap, refl, subst}
use Rattle.cc_defs.specs.Resolved.{Formula, Both, plain_formula}
use Rattle.cc_defs.specs.Trees.{plain_tree}
use Rattle.cc_laws.specs.declared.names.Binding.{Binding}
use Rattle.cc_laws.specs.Resolving.{brackets, resolve}
use Rattle.cc_laws.specs.Views.{inside, scope_of}
use Rattle.cc_laws.specs.Vocabulary.{vocabulary_of}
use Rattle.cc_laws.proofs.questions.and_next.Goals as goal

pub returns-clause-made : goal.returns-clause-made
returns-clause-made c =
    let v = vocabulary_of c.args.table.now in
    let old = c.args.names.now in
    let formula = plain_tree c.args.formula.now in
    ap (λ (f : Formula). Both f (plain_formula c.in_ok-next.next.value)) (ap plain_formula c.in_ok-made.ensures.ok)
    ∙ ap (Both (plain_formula c.args.made))
    (ap plain_formula c.in_ok-next.ensures.ok ∙ c.in_ok-resolve.ensures.made ∙ ap (λ (items : List Binding). resolve v (inside [] items) old.next formula) c.requires)

pub returns-clause-kept : goal.returns-clause-kept
returns-clause-kept c = c.in_ok-resolve.ensures.kept ∙ c.requires

pub returns-clause-next : goal.returns-clause-next
returns-clause-next c = c.in_ok-resolve.ensures.next
