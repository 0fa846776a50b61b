use Rattle.std.proofs.Common.{◌≡◌, ◌∙◌, Bool, Option, Some, None, IfOk, ap, subst, sym}
use Rattle.std.specs.Prelude.{if◌then◌else◌, option_map}
use Rattle.cc_defs.specs.declared.tree.LawTree.{LawTree}
use Rattle.cc_defs.specs.declared.tree.Tree.{Tree}
use Rattle.cc_defs.specs.Resolved.{Not, plain_formula}
use Rattle.cc_defs.specs.Trees.{PlainTree, boxed_tree, plain_law, plain_tree}
use Rattle.cc_laws.specs.Expansion.{both}
use Rattle.cc_laws.specs.Resolving.{resolve}
use Rattle.cc_laws.specs.Shortened.{short_with}
use Rattle.cc_laws.specs.Views.{scope_of}
use Rattle.cc_laws.specs.Vocabulary.{vocabulary_of}
use Rattle.cc_laws.proofs.WithMade.{some_as}
use Rattle.cc_laws.proofs.pieces.resolve_after.Goals as goal

pub returns-in-Always-clause-made : goal.returns-in-Always-clause-made
returns-in-Always-clause-made c =
    let resolved = resolve (vocabulary_of c.args.table.now) (scope_of c.args.names.now) c.args.names.now.next in
    subst (λ (part : Option PlainTree). IfOk c.some.result (λ made. option_map plain_formula made ≡ option_map resolved part))
    (sym (ap (λ (law : LawTree). (short_with c.args.later (plain_law law)).after) c.in-Always.is))
    (some_as plain_formula c.resolve_not.result c.some.result _ _ (ap (λ (tree : Tree). Not (resolved (plain_tree tree))) c.deref.ensures) c.some.ensures c.resolve_not.ensures.made)

pub returns-else-not-later-clause-made : goal.returns-else-not-later-clause-made
returns-else-not-later-clause-made c =
    let resolved = resolve (vocabulary_of c.args.table.now) (scope_of c.args.names.now) c.args.names.now.next in
    let part = both (boxed_tree c.in-Causes.actions) (option_map boxed_tree c.in-Causes.body) in
    subst (λ (part : Option PlainTree). IfOk c.some-in-Causes.result (λ made. option_map plain_formula made ≡ option_map resolved part))
    (sym (ap (λ (law : LawTree). (short_with c.args.later (plain_law law)).after) c.in-Causes.is ∙ ap (λ (later : Bool). if later then Some part else None) c.if-not-later.false))
    (some_as plain_formula c.resolve_both.result c.some-in-Causes.result _ _ (ap (λ (tree : Tree). resolved (both (plain_tree tree) (option_map boxed_tree c.in-Causes.body))) c.deref-in-Causes.ensures) c.some-in-Causes.ensures c.resolve_both.ensures.made)

pub returns-then-not-later-clause-made : goal.returns-then-not-later-clause-made
returns-then-not-later-clause-made c =
    let resolved = resolve (vocabulary_of c.args.table.now) (scope_of c.args.names.now) c.args.names.now.next in
    let part = both (boxed_tree c.in-Causes.actions) (option_map boxed_tree c.in-Causes.body) in
    sym (ap (λ (law : LawTree). option_map resolved (short_with c.args.later (plain_law law)).after) c.in-Causes.is ∙ ap (λ (later : Bool). option_map resolved (if later then Some part else None)) c.if-not-later.true)
