use Rattle.std.proofs.Common.{◌≡◌, IfErr, None, OnOk, Option, map, subst, sym}
use Rattle.cc_defs.specs.declared.refusal.Refusal.{Refusal}
use Rattle.cc_defs.specs.Refusals.{IsRefusedBy}
use Rattle.cc_defs.specs.Resolved.{plain_base_law}
use Rattle.cc_ground.specs.Views.{universe_of}
use Rattle.cc_ground.proofs.Ranging.{few_laws}
use Rattle.cc_ground.proofs.instances.laws_with.Goals as goal

pub returns-clause-unrefused : goal.returns-clause-unrefused
returns-clause-unrefused c =
    subst (λ (refusal : Option Refusal). OnOk c.laws_in_room.result (refusal ≡ None))
    (sym (few_laws (universe_of c.args.table.now c.args.sig.now) (map plain_base_law c.args.laws.now) c.count_all.result c.number.result c.in_ok-choices_of_laws.field-0 c.number-2.result c.count_all.ensures c.number.ensures
    c.if-count_all-number.false c.in_ok-choices_of_laws.ensures c.number-2.ensures c.if-branch-number.false))
    c.laws_in_room.ensures.unrefused

pub returns-clause-refused : goal.returns-clause-refused
returns-clause-refused c =
    subst (λ (refusal : Option Refusal). IfErr c.laws_in_room.result (IsRefusedBy refusal))
    (sym (few_laws (universe_of c.args.table.now c.args.sig.now) (map plain_base_law c.args.laws.now) c.count_all.result c.number.result c.in_ok-choices_of_laws.field-0 c.number-2.result c.count_all.ensures c.number.ensures
    c.if-count_all-number.false c.in_ok-choices_of_laws.ensures c.number-2.ensures c.if-branch-number.false))
    c.laws_in_room.ensures.refused
