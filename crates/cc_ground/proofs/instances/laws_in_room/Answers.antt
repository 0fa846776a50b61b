use Rattle.std.proofs.Common.{map, subst, sym}
use Rattle.cc_defs.specs.declared.refusal.Fault.{Fault}
use Rattle.cc_defs.specs.GroundLaws.{ground_laws}
use Rattle.cc_defs.specs.Refusals.{IsRefusedBy}
use Rattle.cc_defs.specs.Resolved.{plain_base_law}
use Rattle.cc_ground.specs.Counting.{node_refusal, nodes_in}
use Rattle.cc_ground.specs.Views.{universe_of}
use Rattle.cc_ground.proofs.instances.laws_in_room.Goals as goal

pub returns-in-Err-clause-refused : goal.returns-in-Err-clause-refused
returns-in-Err-clause-refused c =
    subst (λ (fault : Fault). IsRefusedBy (node_refusal (nodes_in (ground_laws (universe_of c.args.table.now c.args.sig.now) (map plain_base_law c.args.laws.now)))) fault)
    (sym c.fault_of.ensures) c.in-Err.ensures.refused
