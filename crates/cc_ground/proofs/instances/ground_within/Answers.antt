use Rattle.std.proofs.Common.{◌≡◌, IfErr, IfOk, List, None, OnOk, subst}
use Rattle.cc_arena.specs.GroundViews.{plain_ground_laws}
use Rattle.cc_defs.specs.GroundLaws.{PlainGroundLaw, ground_laws}
use Rattle.cc_defs.specs.Refusals.{IsRefusedBy}
use Rattle.cc_ground.specs.Counting.{node_refusal, nodes_in}
use Rattle.cc_ground.proofs.FromDeclarations.{of_declarations}
use Rattle.cc_ground.proofs.instances.ground_within.Goals as goal

pub returns-clause-made : goal.returns-clause-made
returns-clause-made c = λ declarations is of.
    subst (λ (laws : List PlainGroundLaw). IfOk c.laws_in_room.result (λ made. plain_ground_laws made ≡ laws))
    (of_declarations ground_laws c.args.table.now declarations c.args.sig.now _ _ is of c.items.ensures) c.laws_in_room.ensures.made

pub returns-clause-unrefused : goal.returns-clause-unrefused
returns-clause-unrefused c = λ declarations is of.
    subst (λ (laws : List PlainGroundLaw). OnOk c.laws_in_room.result (node_refusal (nodes_in laws) ≡ None))
    (of_declarations ground_laws c.args.table.now declarations c.args.sig.now _ _ is of c.items.ensures) c.laws_in_room.ensures.unrefused

pub returns-clause-refused : goal.returns-clause-refused
returns-clause-refused c = λ declarations is of.
    subst (λ (laws : List PlainGroundLaw). IfErr c.laws_in_room.result (IsRefusedBy (node_refusal (nodes_in laws))))
    (of_declarations ground_laws c.args.table.now declarations c.args.sig.now _ _ is of c.items.ensures) c.laws_in_room.ensures.refused
