use Rattle.std.proofs.Common.{◌∙◌, ◌+◌, [], List, ℕ, Bool, Some, ap, sym}
use Rattle.std.specs.Prelude.{if◌then◌else◌}
use Rattle.std.specs.Option.{option_map}
use Rattle.cc_defs.specs.Resolved as resolved
use Rattle.cc_defs.specs.Resolved.{plain_formula}
use Rattle.cc_laws.specs.declared.names.Binding.{Binding}
use Rattle.cc_laws.specs.Expansion.{part, part_brackets}
use Rattle.cc_laws.specs.Resolving.{resolve}
use Rattle.cc_laws.specs.Views.{inside, plain_caused, scope_of}
use Rattle.cc_laws.specs.Vocabulary.{vocabulary_of}
use Rattle.cc_laws.proofs.expansion.law_parts.Goals as goal

pub returns-clause-after : goal.returns-clause-after
returns-clause-after c =
    let v = vocabulary_of c.args.table.now in
    let law = plain_caused c.args.law.now c.args.later in
    let old = c.args.names.now in
    let new = c.written_body.new.names in
    c.in_ok-after.ensures.made
    ∙ ap (λ (items : List Binding). option_map (resolve v (inside [] items) new.next) law.after)
    c.in_ok-body.ensures.kept
    ∙ ap (λ (n : ℕ). option_map (resolve v (scope_of old) n) law.after)
    c.in_ok-body.ensures.next
    ∙ sym (ap (λ (b : Bool). if b then Some (part v (scope_of old) old.next law.body) else option_map (resolve v (scope_of old) (old.next + part_brackets law.body)) law.after) c.if-denied.false)

pub returns-clause-body : goal.returns-clause-body
returns-clause-body c =
    let v = vocabulary_of c.args.table.now in
    let body = part v (scope_of c.args.names.now) c.args.names.now.next (plain_caused c.args.law.now c.args.later).body in
    c.in_ok-body.ensures.made
    ∙ sym (ap (λ (b : Bool). if b then resolved.Truth else body) c.if-denied.false)

pub returns-then-denied-clause-after : goal.returns-then-denied-clause-after
returns-then-denied-clause-after c =
    let v = vocabulary_of c.args.table.now in
    let old = c.args.names.now in
    let law = plain_caused c.args.law.now c.args.later in
    let body = part v (scope_of old) old.next law.body in
    ap Some c.in_ok-body.ensures.made
    ∙ sym (ap (λ (b : Bool). if b then Some body else option_map (resolve v (scope_of old) (old.next + part_brackets law.body)) law.after) c.if-denied.true)

pub returns-then-denied-clause-body : goal.returns-then-denied-clause-body
returns-then-denied-clause-body c =
    sym (ap (λ (b : Bool). if b then resolved.Truth else part (vocabulary_of c.args.table.now) (scope_of c.args.names.now) c.args.names.now.next (plain_caused c.args.law.now c.args.later).body) c.if-denied.true)
