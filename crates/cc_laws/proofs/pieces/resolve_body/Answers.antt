use Rattle.std.proofs.Common.{◌≡◌, ◌∙◌, Bool, Option, Some, None, IfOk, ap, subst, sym}
use Rattle.std.specs.Prelude.{if◌then◌else◌, option_map}
use Rattle.cc_defs.specs.declared.tree.LawTree.{LawTree}
use Rattle.cc_defs.specs.declared.tree.Tree.{Tree}
use Rattle.cc_defs.specs.Resolved.{Not, plain_formula}
use Rattle.cc_defs.specs.Trees.{PlainTree, boxed_tree, plain_law, plain_tree}
use Rattle.cc_laws.specs.Expansion.{both}
use Rattle.cc_laws.specs.Resolving.{resolve}
use Rattle.cc_laws.specs.Shortened.{short_with}
use Rattle.cc_laws.specs.Views.{scope_of}
use Rattle.cc_laws.specs.Vocabulary.{vocabulary_of}
use Rattle.cc_laws.proofs.WithMade.{some_as}
use Rattle.cc_laws.proofs.pieces.resolve_body.Goals as goal

pub returns-in-Constraint-clause-made : goal.returns-in-Constraint-clause-made
returns-in-Constraint-clause-made c =
    let resolved = resolve (vocabulary_of c.args.table.now) (scope_of c.args.names.now) c.args.names.now.next in
    subst (λ (part : Option PlainTree). IfOk c.some.result (λ made. option_map plain_formula made ≡ option_map resolved part))
    (sym (ap (λ (law : LawTree). (short_with c.args.later (plain_law law)).body) c.in-Constraint.is))
    (some_as plain_formula c.resolve_not.result c.some.result _ _ (ap (λ (tree : Tree). Not (resolved (plain_tree tree))) c.deref.ensures) c.some.ensures c.resolve_not.ensures.made)

pub returns-in-Default-clause-made : goal.returns-in-Default-clause-made
returns-in-Default-clause-made c =
    let resolved = resolve (vocabulary_of c.args.table.now) (scope_of c.args.names.now) c.args.names.now.next in
    subst (λ (part : Option PlainTree). IfOk c.some-in-Default.result (λ made. option_map plain_formula made ≡ option_map resolved part))
    (sym (ap (λ (law : LawTree). (short_with c.args.later (plain_law law)).body) c.in-Default.is))
    (some_as plain_formula c.resolve_both.result c.some-in-Default.result _ _ (ap (λ (tree : Tree). resolved (both (plain_tree tree) (option_map boxed_tree c.in-Default.body))) c.deref-in-Default.ensures) c.some-in-Default.ensures c.resolve_both.ensures.made)

pub returns-in-MayCause-clause-made : goal.returns-in-MayCause-clause-made
returns-in-MayCause-clause-made c =
    let resolved = resolve (vocabulary_of c.args.table.now) (scope_of c.args.names.now) c.args.names.now.next in
    subst (λ (part : Option PlainTree). IfOk c.some-in-MayCause.result (λ made. option_map plain_formula made ≡ option_map resolved part))
    (sym (ap (λ (law : LawTree). (short_with c.args.later (plain_law law)).body) c.in-MayCause.is))
    (some_as plain_formula c.resolve.result c.some-in-MayCause.result _ _ (ap (λ (tree : Tree). resolved (plain_tree tree)) c.deref-in-MayCause.ensures) c.some-in-MayCause.ensures c.resolve.ensures.made)

pub returns-else-later-clause-made : goal.returns-else-later-clause-made
returns-else-later-clause-made c =
    let resolved = resolve (vocabulary_of c.args.table.now) (scope_of c.args.names.now) c.args.names.now.next in
    let part = both (boxed_tree c.in-Causes.actions) (option_map boxed_tree c.in-Causes.body) in
    subst (λ (part : Option PlainTree). IfOk c.some-in-Causes.result (λ made. option_map plain_formula made ≡ option_map resolved part))
    (sym (ap (λ (law : LawTree). (short_with c.args.later (plain_law law)).body) c.in-Causes.is ∙ ap (λ (later : Bool). if later then None else Some part) c.if-later.false))
    (some_as plain_formula c.resolve_both-in-Causes.result c.some-in-Causes.result _ _ (ap (λ (tree : Tree). resolved (both (plain_tree tree) (option_map boxed_tree c.in-Causes.body))) c.deref-in-Causes.ensures) c.some-in-Causes.ensures c.resolve_both-in-Causes.ensures.made)

pub returns-then-later-clause-made : goal.returns-then-later-clause-made
returns-then-later-clause-made c =
    let resolved = resolve (vocabulary_of c.args.table.now) (scope_of c.args.names.now) c.args.names.now.next in
    let part = both (boxed_tree c.in-Causes.actions) (option_map boxed_tree c.in-Causes.body) in
    sym (ap (λ (law : LawTree). option_map resolved (short_with c.args.later (plain_law law)).body) c.in-Causes.is ∙ ap (λ (later : Bool). option_map resolved (if later then None else Some part)) c.if-later.true)
