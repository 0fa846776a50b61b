use Rattle.std.proofs.Common.{List, length}
use Rattle.cc_arena.specs.GroundViews.{plain_ground_query}
use Rattle.cc_defs.specs.declared.log.LogLine.{LogLine}
use Rattle.cc_defs.specs.Description.{Description}
use Rattle.cc_defs.specs.Resolved.{Query}
use Rattle.cc_list.specs.Asking.{AreOf}
use Rattle.cc_run.specs.Converted.{AreLeft}
use Rattle.cc_run.proofs.Converted.{TellsLines}
use Rattle.cc_run.proofs.modes.convert.give_lines.Given as goal

-- some of the lines were told in the other version, and the others are left
abbrev pub invariant-loop-rest : goal.invariant-loop-rest
invariant-loop-rest g l =
    let desk = g.D.Desk in
    let key = l.prepared.key in
    (d : Description) (q : Query) (said : List LogLine) → AreOf l.described.sig l.prepared.laws (plain_ground_query l.prepared.query) d q →
    AreLeft d q key l.version 1 l.bytes said →
    TellsLines d q key l.version said l.own l.rest
    (desk.seen l.initial.desk) (desk.seen l.desk)

abbrev pub decreases-loop-rest : goal.decreases-loop-rest
decreases-loop-rest g l = length l.rest
