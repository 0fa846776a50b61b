use Rattle.std.proofs.Common.{◌∙◌, ◌≤◌, ℕ, List, sym, ap, subst}
use Rattle.cc_defs.specs.ClauseForms.{true_variable}
use Rattle.cc_theory.specs.Making.{rules_for, stride_of}
use Rattle.cc_form.specs.Machine.{IsPast}
use Rattle.cc_form.specs.Making.{rules_list}
use Rattle.cc_form.specs.Parts.{first_clauses}
use Rattle.cc_form.specs.Store.{Gives}
use Rattle.cc_form.proofs.Joining.{atoms_below, can_place, clauses_given, last_same, over_steps}
use Rattle.cc_form.proofs.Parts.{adds_err}
use Rattle.cc_form.proofs.template.place_steps.Goals as goal

pub way_to-way-requires : goal.way_to-way-requires
way_to-way-requires c =
    let s = c.args.sig.now in
    let give = c.laws_give_rules.ensures s c.args.laws.now c.requires.laws 2 in
    atoms_below s c.args.laws.now give c.args.steps.now c.requires.steps c.args.horizon c.requires.some c.args.writer.now.last (c.requires.last ∙ ap true_variable c.requires.places)

pub returns-in_err-last : goal.returns-in_err-last
returns-in_err-last c =
    let s = c.args.sig.now in
    let w = c.args.writer.now in
    let give = c.laws_give_rules.ensures s c.args.laws.now c.requires.laws 2 in
    let same = last_same s c.args.laws.now give c.args.steps.now c.requires.steps c.args.horizon c.requires.some w.last (c.requires.last ∙ ap true_variable c.requires.places) c.way_to-way.result c.way_to-way.ensures in
    let rules = rules_for s c.args.laws.now c.args.horizon in
    adds_err w w c.from_residual.result (rules_list w.places (stride_of s) rules) c.in_err-last.field-0.0 c.from_residual.ensures.1
    (subst (λ (p : List ℕ). IsPast (rules_list p (stride_of s) rules).last c.in_err-last.field-0.0) (sym c.requires.places)
    (subst (λ (n : ℕ). IsPast n c.in_err-last.field-0.0) same c.in_err-last.ensures.refused))

pub place_groups-requires : goal.place_groups-requires
place_groups-requires c =
    let s = c.args.sig.now in
    let give = c.laws_give_rules.ensures s c.args.laws.now c.requires.laws 2 in (
      c.args.steps.now.ends,
      over_steps s c.args.laws.now give c.args.steps.now c.requires.steps,
      can_place s c.args.laws.now give c.args.steps.now c.requires.steps c.args.horizon c.requires.some c.args.writer.now.last (c.requires.last ∙ ap true_variable c.requires.places) c.way_to-way.result c.way_to-way.ensures
          c.in_ok-last.ensures.within,
    )

pub returns : goal.returns
returns c =
    let s = c.args.sig.now in
    let w = c.args.writer.now in
    let m = c.args.horizon in
    let rules = rules_for s c.args.laws.now m in
    let give = c.laws_give_rules.ensures s c.args.laws.now c.requires.laws 2 in
    let truth = c.requires.last ∙ ap true_variable c.requires.places in
    let same = last_same s c.args.laws.now give c.args.steps.now c.requires.steps m c.requires.some w.last truth c.way_to-way.result c.way_to-way.ensures in
    let ends = ap (λ (p : List ℕ). (rules_list p (stride_of s) rules).last) c.requires.places in
    record {
      places = c.write_first.ensures.places;
      ends = c.in_ok-last.ensures.last ∙ same ∙ sym ends;
      within = subst (λ (n : ℕ). n ≤ 4000000) (same ∙ sym ends) c.in_ok-last.ensures.within;
      gives = subst (λ (p : List ℕ). Gives w.store.kept c.place_groups.new.store.kept (rules_list p (stride_of s) rules).clauses) (sym c.requires.places)
          (clauses_given s c.args.laws.now give c.args.steps.now c.requires.steps m c.requires.some w.last truth c.way_to-way.result c.way_to-way.ensures
          w.store.kept c.write_first.new.writer.store.kept c.place_groups.new.store.kept
          (subst (λ (p : List ℕ). Gives w.store.kept c.write_first.new.writer.store.kept (first_clauses p)) c.requires.places c.in_ok-write_first.ensures.clauses)
          c.in_ok-place_groups.ensures);
    }
