use Rattle.std.proofs.Common.{◌∙◌, Option, Some, None, ℕ, sym, ap}
use Rattle.std.specs.Prelude.{if◌then◌else◌}
use Rattle.std.specs.Option.{option_map, option_or}
use Rattle.cc_defs.specs.Trees.{boxed_tree, plain_law}
use Rattle.cc_laws.specs.FreeVariables.{optional}
use Rattle.cc_laws.specs.LawFaults.{has_indefinite_head}
use Rattle.cc_laws.specs.Vocabulary.{vocabulary_of}
use Rattle.cc_laws.proofs.Widened.{least_fault}
use Rattle.cc_laws.proofs.checks.law_fault.Goals as goal

pub returns-in-Some : goal.returns-in-Some
returns-in-Some c =
    let v = vocabulary_of c.args.table.now in
    let law = plain_law c.args.law.now in
    let last : Option ℕ = if has_indefinite_head v law then Some 11 else None in
    sym (least_fault v law (optional (option_map boxed_tree c.args.test.now)) _ c.in_ok-number.ensures ∙ ap (λ (o : Option ℕ). option_or o last) c.in-Some.is)

pub returns-then-has_indefinite_head : goal.returns-then-has_indefinite_head
returns-then-has_indefinite_head c =
    let v = vocabulary_of c.args.table.now in
    let law = plain_law c.args.law.now in
    let last : Option ℕ = if has_indefinite_head v law then Some 11 else None in
    sym (least_fault v law (optional (option_map boxed_tree c.args.test.now)) _ c.in_ok-number.ensures
    ∙ ap (λ (o : Option ℕ). option_or o last) c.in_default.is
    ∙ ap (λ b. if b then Some 11 else None) (sym c.has_indefinite_head.ensures ∙ c.if-has_indefinite_head.true))
