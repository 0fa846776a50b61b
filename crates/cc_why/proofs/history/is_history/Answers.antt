use Rattle.std.proofs.Common.{◌∙◌, List, ap, length, refl, subst}
use Rattle.cc_defs.specs.TimedRules.{timed_rules}
use Rattle.cc_theory.specs.declared.rule.TimedRule.{TimedRule}
use Rattle.cc_theory.specs.Making.{stride_of}
use Rattle.cc_theory.specs.Theories.{AreRulesAt}
use Rattle.cc_why.proofs.Meets.{path_then, path_else, rules_are}
use Rattle.cc_why.proofs.Rows.{atoms_there, bare, bare_signature, count_is, rules_stand}
use Rattle.cc_why.proofs.history.is_history.Goals as goal

pub meets_rules-requires : goal.meets_rules-requires
meets_rules-requires c =
    let theory = c.args.theory.now in
    let b = bare theory.signature in
    let of = bare_signature theory.signature in
    let long = count_is c.positions_have_sizes.ensures b theory.signature of theory.horizon c.args.row.now (c.requires.row b of) in
    rules_stand theory.signature theory.horizon (length c.args.row.now) c.stride-stride.result long (c.stride-stride.ensures ∙ ap stride_of c.sig.ensures) c.rules.result.now c.rules.ensures.fit

pub has_causes-requires-clause-rules : goal.has_causes-requires-clause-rules
has_causes-requires-clause-rules c =
    let theory = c.args.theory.now in
    let b = bare theory.signature in
    let of = bare_signature theory.signature in
    let long = count_is c.positions_have_sizes.ensures b theory.signature of theory.horizon c.args.row.now (c.requires.row b of) in
    rules_stand theory.signature theory.horizon (length c.args.row.now) c.stride-stride.result long (c.stride-stride.ensures ∙ ap stride_of c.sig.ensures) theory.rules
    (subst (λ (r : List TimedRule). AreRulesAt theory.signature theory.horizon r) c.rules.ensures.rules c.rules.ensures.fit)

pub has_causes-requires-clause-atoms : goal.has_causes-requires-clause-atoms
has_causes-requires-clause-atoms c =
    let theory = c.args.theory.now in
    let b = bare theory.signature in
    let of = bare_signature theory.signature in
    atoms_there c.positions_have_sizes.ensures b theory.signature of theory.horizon c.args.row.now (c.requires.row b of)

pub returns-then-meets_rules : goal.returns-then-meets_rules
returns-then-meets_rules c = λ d of.
    let theory = c.args.theory.now in
    let have = c.positions_have_sizes.ensures in
    let complete = c.models_meet_completion.ensures in
    let paths = c.models_are_paths.ensures in
    let row = c.args.row.now in
    let is = c.requires.row d of.signature in
    let fit = subst (λ (r : List TimedRule). AreRulesAt theory.signature theory.horizon r) c.rules.ensures.rules c.rules.ensures.fit in
    let met = rules_are have complete paths theory d of fit row is c.stride-stride.result c.sig.result.now c.rules.result.now c.stride-stride.ensures c.sig.ensures c.rules.ensures.rules in
    let caused = rules_are have complete paths theory d of fit row is c.stride-stride.result c.sig.result.now theory.rules c.stride-stride.ensures c.sig.ensures refl in
    path_then have complete paths theory d of fit row is c.meets_rules.result c.has_causes.result c.if-meets_rules.true
    (c.meets_rules.ensures (timed_rules d theory.horizon) met) (c.has_causes.ensures (timed_rules d theory.horizon) caused)

pub returns-else-meets_rules : goal.returns-else-meets_rules
returns-else-meets_rules c = λ d of.
    let theory = c.args.theory.now in
    let have = c.positions_have_sizes.ensures in
    let complete = c.models_meet_completion.ensures in
    let paths = c.models_are_paths.ensures in
    let row = c.args.row.now in
    let is = c.requires.row d of.signature in
    let fit = subst (λ (r : List TimedRule). AreRulesAt theory.signature theory.horizon r) c.rules.ensures.rules c.rules.ensures.fit in
    let met = rules_are have complete paths theory d of fit row is c.stride-stride.result c.sig.result.now c.rules.result.now c.stride-stride.ensures c.sig.ensures c.rules.ensures.rules in
    path_else have complete paths theory d of fit row is c.meets_rules.result c.if-meets_rules.false (c.meets_rules.ensures (timed_rules d theory.horizon) met)
