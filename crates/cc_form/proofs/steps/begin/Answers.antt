use Rattle.std.proofs.Common.{◌∙◌, ◌+◌, List, ap, arith}
use Rattle.cc_theory.specs.declared.rule.TimedRule.{TimedRule}
use Rattle.cc_theory.specs.Making.{all_initial, stride_of}
use Rattle.cc_form.specs.Making.{made_bodies}
use Rattle.cc_form.specs.Places.{position_sizes}
use Rattle.cc_form.proofs.Gathering.{fits_as, initial_still}
use Rattle.cc_form.proofs.Stepping.{initial_fit}
use Rattle.cc_form.proofs.steps.begin.Goals as goal

pub ruled-requires-clause-fits : goal.ruled-requires-clause-fits
ruled-requires-clause-fits c =
    let s = c.args.sig.now in
    let give = c.laws_give_rules.ensures s c.args.laws.now c.requires.laws 2 in
    fits_as c.args.writer.now.places (position_sizes s 2) (c.from.result + c.from-2.result) (stride_of s) c.deref.result.now (all_initial 0 s.fluents) c.requires.places
    (let f = c.from.ensures ∙ c.fluents.ensures in let a = c.from-2.ensures ∙ c.actions.ensures in omega arith) (c.deref.ensures.value ∙ c.in_ok-rules.ensures)
    (initial_fit s c.args.laws.now give)

pub returns-clause-last : goal.returns-clause-last
returns-clause-last c =
    let s = c.args.sig.now in
    let w = c.args.writer.now in
    let stride = c.from.result + c.from-2.result in
    c.in_ok-ruled.ensures.last ∙ ap (λ (r : List TimedRule). (made_bodies w.places stride w.last r).last) (c.deref.ensures.value ∙ c.in_ok-rules.ensures) ∙ initial_still w.places stride w.last 0 s.fluents
