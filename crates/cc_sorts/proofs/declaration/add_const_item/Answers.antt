use Rattle.std.proofs.Common.{ap, ◌∙◌, ◌++◌, List, ◌∷◌, [], append_assoc, map}
use Rattle.cc_defs.specs.Declarations.{Declaration, Constant, Kinds}
use Rattle.cc_defs.specs.Trees.{plain_shape, plain_kind}
use Rattle.cc_defs.specs.declared.tree.Shape.{Shape}
use Rattle.cc_sorts.specs.Declaring.{plain_declaration, plain_declarations}
use Rattle.cc_sorts.proofs.Adding.{pushed-last}
use Rattle.cc_sorts.proofs.declaration.add_const_item.Goals as goal

pub returns : goal.returns
returns c = λ file line.
    let kinds = Kinds (map plain_shape c.args.item.now.shapes) (plain_kind c.args.item.now.kind)
    in let shapes : List Shape → List Declaration = λ items. map (λ shape. Constant shape (plain_kind c.args.item.now.kind) file line) (map plain_shape items)
    in pushed-last (plain_declaration file line) c.add_constants.new.found.items c.push.new.self.items _ c.in_ok-push.ensures.items
    ∙ ap (λ xs. xs ++ kinds ∷ []) (c.in_ok-add_constants.ensures file line)
    ∙ ap (λ items. (plain_declarations file line c.args.found.now.items ++ shapes items) ++ kinds ∷ []) c.items.ensures
    ∙ append_assoc (plain_declarations file line c.args.found.now.items) (shapes c.args.item.now.shapes) (kinds ∷ [])
