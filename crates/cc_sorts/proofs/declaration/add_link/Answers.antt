use Rattle.std.proofs.Common.{◌∙◌, ◌++◌, ◌∷◌, [], ap, append_assoc}
use Rattle.cc_defs.specs.Declarations.{Link, Subsort}
use Rattle.cc_sorts.specs.Declaring.{plain_declaration, plain_declarations}
use Rattle.cc_sorts.proofs.Adding.{pushed-last}
use Rattle.cc_sorts.proofs.declaration.add_link.Goals as goal

pub returns : goal.returns
returns c = λ file line.
    pushed-last (plain_declaration file line) c.push.new.self.items c.push-2.new.self.items _ c.in_ok-push-2.ensures.items
    ∙ ap (λ xs. xs ++ Subsort c.args.upper.now c.args.name.now ∷ []) (pushed-last (plain_declaration file line) c.args.found.now.items c.push.new.self.items _ c.in_ok-push.ensures.items)
    ∙ append_assoc (plain_declarations file line c.args.found.now.items) (Link c.args.name.now ∷ []) (Subsort c.args.upper.now c.args.name.now ∷ [])
