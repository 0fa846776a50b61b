use Rattle.std.proofs.Common.{◌≡◌, ◌∙◌, ◌+◌, [], List, ℕ, IfOk, OnOk, ap, subst}
use Rattle.std.specs.Option.{option_map}
use Rattle.cc_defs.specs.Resolved.{plain_formula}
use Rattle.cc_defs.specs.Trees.{plain_tree}
use Rattle.cc_laws.specs.declared.names.Binding.{Binding}
use Rattle.cc_laws.specs.Expansion.{part, part_brackets}
use Rattle.cc_laws.specs.Resolving.{resolve}
use Rattle.cc_laws.specs.Views.{inside, plain_caused, scope_of}
use Rattle.cc_laws.specs.Vocabulary.{vocabulary_of}
use Rattle.cc_laws.proofs.wide.whole_parts.Goals as goal

pub returns-clause-body : goal.returns-clause-body
returns-clause-body c =
    let v = vocabulary_of c.args.table.now in
    let old = c.args.names.now in
    c.in_ok-body.ensures.made

pub returns-clause-after : goal.returns-clause-after
returns-clause-after c =
    let v = vocabulary_of c.args.table.now in
    let law = plain_caused c.args.law.now c.args.later in
    let old = c.args.names.now in
    let new = c.written_body.new.names in
    c.in_ok-after.ensures.made
    ∙ ap (λ (items : List Binding). option_map (resolve v (inside [] items) new.next) law.after)
    c.in_ok-body.ensures.kept
    ∙ ap (λ (n : ℕ). option_map (resolve v (scope_of old) n) law.after)
    c.in_ok-body.ensures.next

pub returns-clause-head : goal.returns-clause-head
returns-clause-head c =
    let v = vocabulary_of c.args.table.now in
    let law = plain_caused c.args.law.now c.args.later in
    let head = plain_tree c.args.head.now in
    let old = c.args.names.now in
    let new = c.resolve_after.new.names in
    c.in_ok-head.ensures.made
    ∙ ap (λ (items : List Binding). resolve v (inside [] items) new.next head)
    (c.in_ok-after.ensures.kept ∙ c.in_ok-body.ensures.kept)
    ∙ ap (λ (n : ℕ). resolve v (scope_of old) n head)
    (c.in_ok-after.ensures.next ∙ ap (λ (n : ℕ). n + part_brackets law.after) c.in_ok-body.ensures.next)
