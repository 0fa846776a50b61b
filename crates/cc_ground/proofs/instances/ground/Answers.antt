use Rattle.std.proofs.Common.{◌≡◌, IfErr, IfOk, None, OnOk, map, subst}
use Rattle.cc_defs.specs.Resolved.{plain_base_law}
use Rattle.cc_ground.specs.Counting.{laws_refusal}
use Rattle.cc_defs.specs.GroundLaws.{ground_laws}
use Rattle.cc_arena.specs.GroundViews.{plain_ground_laws}
use Rattle.cc_defs.specs.Refusals.{IsRefusedBy}
use Rattle.cc_arena.specs.Meanings.{MeanLaws}
use Rattle.cc_defs.specs.Conditions.{AreGroundLaws}
use Rattle.cc_defs.specs.Universe.{universe}
use Rattle.cc_ground.proofs.FromDeclarations.{universe_is}
use Rattle.cc_ground.proofs.Making.{as_made}
use Rattle.cc_ground.proofs.instances.«ground».Goals as goal

pub returns-clause-made : goal.returns-clause-made
returns-clause-made c = λ declarations is of.
    subst (λ u. IfOk c.ground_laws.result (λ made. plain_ground_laws made ≡ ground_laws u (map plain_base_law c.args.laws.now))) (universe_is c.args.table.now declarations c.args.sig.now is of)
    c.ground_laws.ensures.made

pub returns-clause-unrefused : goal.returns-clause-unrefused
returns-clause-unrefused c = λ declarations is of.
    subst (λ u. OnOk c.ground_laws.result (laws_refusal u (map plain_base_law c.args.laws.now) ≡ None)) (universe_is c.args.table.now declarations c.args.sig.now is of)
    c.ground_laws.ensures.unrefused

pub returns-clause-refused : goal.returns-clause-refused
returns-clause-refused c = λ declarations is of.
    subst (λ u. IfErr c.ground_laws.result (IsRefusedBy (laws_refusal u (map plain_base_law c.args.laws.now)))) (universe_is c.args.table.now declarations c.args.sig.now is of)
    c.ground_laws.ensures.refused

pub returns-clause-meant : goal.returns-clause-meant
returns-clause-meant c = λ declarations is of.
    let laws = map plain_base_law c.args.laws.now in
    let u = universe declarations in
    as_made plain_ground_laws (MeanLaws u laws) c.ground_laws.result (ground_laws u laws)
    (c.ground_laws_mean_laws.ensures u (c.declared_have_own_values.ensures declarations of.2) laws)
    (subst (λ u. IfOk c.ground_laws.result (λ made. plain_ground_laws made ≡ ground_laws u laws)) (universe_is c.args.table.now declarations c.args.sig.now is of) c.ground_laws.ensures.made)

pub returns-clause-fits : goal.returns-clause-fits
returns-clause-fits c = λ declarations is of forms.
    let laws = map plain_base_law c.args.laws.now in
    let u = universe declarations in
    as_made plain_ground_laws (AreGroundLaws u) c.ground_laws.result (ground_laws u laws)
    (c.ground_laws_fit.ensures u (c.declared_have_their_kinds.ensures declarations) (c.declared_have_their_values.ensures declarations is.known) laws forms)
    (subst (λ u. IfOk c.ground_laws.result (λ made. plain_ground_laws made ≡ ground_laws u laws)) (universe_is c.args.table.now declarations c.args.sig.now is of) c.ground_laws.ensures.made)
