use Rattle.std.proofs.Common.{◌∙◌, List, length, map, refl, ap, subst}
use Rattle.cc_defs.specs.ClauseForms.{all_written}
use Rattle.cc_defs.specs.ClauseLists.{completion_from, denials_of}
use Rattle.cc_defs.specs.Clauses.{Literal}
use Rattle.cc_theory.specs.declared.rule.TimedRule.{TimedRule}
use Rattle.cc_form.specs.Machine.{IsBuilt}
use Rattle.cc_form.specs.Making.{bodied, made_bodies}
use Rattle.cc_form.specs.Store.{Gives}
use Rattle.cc_form.proofs.Finishing.{bodies_long, rules_done}
use Rattle.cc_form.proofs.form.add_rules.Goals as goal

pub complete-requires-clause-bodies : goal.complete-requires-clause-bodies
complete-requires-clause-bodies c =
    ap length (c.deref.ensures.value ∙ c.in_ok-bodies.ensures.literals) ∙ bodies_long c.write_first.new.writer.places c.args.stride c.write_first.new.writer.last c.rules.result.now ∙ ap length c.rules.ensures.rules

pub deny_falsity-requires : goal.deny_falsity-requires
deny_falsity-requires c =
    ap length (c.deref-2.ensures.value ∙ c.in_ok-bodies.ensures.literals) ∙ bodies_long c.write_first.new.writer.places c.args.stride c.write_first.new.writer.last c.rules.result.now ∙ ap length c.rules.ensures.rules

pub returns : goal.returns
returns c =
    let b = c.args.writer.now in
    let rules = c.args.theory.now.rules in
    let made = c.bodies_within.new.writer in
    let between = c.write_first.new.writer in
    rules_done b between made _ c.args.stride rules c.in_ok-bodies.bodies.items c.complete.new.store.kept
    c.requires.last c.in_ok-write_first.ensures.clauses c.write_first.ensures.places c.write_first.ensures.last
    (subst (λ (r : List TimedRule). IsBuilt between made (made_bodies between.places c.args.stride between.last r).last (made_bodies between.places c.args.stride between.last r).clauses) c.rules.ensures.rules c.in_ok-bodies.ensures.built)
    (c.in_ok-bodies.ensures.literals ∙ ap (λ (r : List TimedRule). map (λ rule. rule.body) (made_bodies between.places c.args.stride between.last r).rules) c.rules.ensures.rules)
    (subst (λ (l : List Literal). Gives made.store.kept c.complete.new.store.kept (all_written (completion_from made.places (bodied rules l) 0 made.places))) c.deref.ensures.value c.in_ok-complete.ensures)
    (subst (λ (l : List Literal). Gives c.complete.new.store.kept c.deny_falsity.new.store.kept (all_written (denials_of (bodied rules l)))) c.deref-2.ensures.value c.in_ok-deny_falsity.ensures)
    refl refl
