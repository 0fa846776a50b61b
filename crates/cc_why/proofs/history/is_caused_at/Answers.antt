use Rattle.std.proofs.Common.{◌≡◌, ◌∙◌, ◌<◌, ◌%◌, ℕ, List, Some, ap, length, option_map, slice_get, subst, sym}
use Rattle.std.specs.Prelude.{slice_index}
use Rattle.std.specs.List.{AllByRecursion, AllZip, list_any}
use Rattle.std.proofs.lemmas.Bool.{lt-ltb}
use Rattle.cc_defs.specs.Signatures.{Signature, ground_constants}
use Rattle.cc_defs.specs.declared.signature.Const.{Const}
use Rattle.cc_theory.specs.Theories.{IsRuleOf}
use Rattle.cc_theory.specs.declared.rule.TimedRule.{TimedRule}
use Rattle.cc_why.specs.Meeting.{holds_in, is_cause}
use Rattle.cc_why.proofs.Loops.{causes_below, causes_found, unless_single}
use Rattle.cc_why.proofs.history.is_caused_at.Goals as goal

pub is_caused-requires-clause-numbers : goal.is_caused-requires-clause-numbers
is_caused-requires-clause-numbers c =
    let rules = c.args.theory.now.rules in
    let row = c.args.row.now in
    subst (λ (r : List TimedRule). AllByRecursion (λ number. number < length r) c.completion-numbers.result.now) (sym c.rules.ensures.rules)
    (subst (λ (n : List ℕ). AllByRecursion (λ number. number < length rules) n) (sym c.completion-numbers.ensures)
    (causes_below rules c.args.position (slice_index row c.args.position)))

pub returns : goal.returns
returns c = λ meant are.
    let theory = c.args.theory.now in
    let row = c.args.row.now in
    c.is_caused.ensures meant (subst (λ (r : List TimedRule). AllZip (IsRuleOf c.args.stride) r meant) (sym c.rules.ensures.rules) are)
    ∙ ap (λ (n : List ℕ). list_any (λ number. holds_in row (slice_get meant number)) n) c.completion-numbers.ensures
    ∙ causes_found row c.args.stride c.args.position theory.rules meant are
    ∙ unless_single (slice_get (ground_constants theory.signature) (c.args.position % length (ground_constants theory.signature))) c.domain_size.result
    (list_any (is_cause row c.args.position) meant)
    (subst (λ (s : Signature). option_map (λ (constant : Const). length constant.domain) (slice_get (ground_constants s) (c.args.position % length (ground_constants s))) ≡ Some c.domain_size.result) c.sig.ensures c.domain_size.ensures)
    (lt-ltb 1 c.domain_size.result c.if-domain_size-le1.false)
