use Rattle.std.proofs.Common.{List, sym, ap, subst, ◌≡◌, ◌∙◌, map}
use Rattle.std.specs.Prelude.{Option, Some, IfOk}
use Rattle.std.specs.Option.{option_map}
use Rattle.cc_defs.specs.Resolved.{Head, plain_head}
use Rattle.cc_defs.specs.Trees.{plain_sum, plain_term}
use Rattle.cc_laws.specs.Heads.{both_heads, only_if}
use Rattle.cc_laws.specs.Views.{scope_of}
use Rattle.cc_laws.specs.Vocabulary.{vocabulary_of}
use Rattle.cc_laws.proofs.HeadTests.{denied_left, denied_right}
use Rattle.cc_laws.proofs.head_parts.add_denied_equation.Goals as goal

pub returns-in-Some : goal.returns-in-Some
returns-in-Some c =
    subst (λ (heads : Option (List Head)). IfOk c.add_opposite.result (λ definite. only_if definite (Some (map plain_head c.add_opposite.new.found.items)) ≡ both_heads (Some (map plain_head c.args.found.now.items)) heads))
    (sym (denied_left (vocabulary_of c.args.table.now) (scope_of c.args.names.now) (plain_sum c.args.left.now) (plain_sum c.args.right.now) (plain_term c.in-Some.pair.0.now, plain_term c.in-Some.pair.1.now) (sym c.truth_beside.ensures ∙ ap (option_map (λ pair. (plain_term pair.0.now, plain_term pair.1.now))) c.in-Some.is))) c.add_opposite.ensures

pub returns-in-Some-truth_beside : goal.returns-in-Some-truth_beside
returns-in-Some-truth_beside c =
    subst (λ (heads : Option (List Head)). IfOk c.add_opposite-in-Some-truth_beside.result (λ definite. only_if definite (Some (map plain_head c.add_opposite-in-Some-truth_beside.new.found.items)) ≡ both_heads (Some (map plain_head c.args.found.now.items)) heads))
    (sym (denied_right (vocabulary_of c.args.table.now) (scope_of c.args.names.now) (plain_sum c.args.left.now) (plain_sum c.args.right.now) (Some (plain_term c.in-Some-truth_beside.pair.0.now, plain_term c.in-Some-truth_beside.pair.1.now)) (sym c.truth_beside.ensures ∙ ap (option_map (λ pair. (plain_term pair.0.now, plain_term pair.1.now))) c.in-None.is) (sym c.truth_beside-in-None.ensures ∙ ap (option_map (λ pair. (plain_term pair.0.now, plain_term pair.1.now))) c.in-Some-truth_beside.is))) c.add_opposite-in-Some-truth_beside.ensures
