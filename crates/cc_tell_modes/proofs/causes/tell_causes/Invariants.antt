use Rattle.std.proofs.Common.{◌≡◌, ℕ, map, Some}
use Rattle.cc_defs.specs.Description.{Description}
use Rattle.cc_defs.specs.Resolved.{plain_base_law}
use Rattle.cc_tell.specs.Names.{AreNamesOf}
use Rattle.cc_why.specs.declared.cause.Cause.{Cause}
use Rattle.cc_why.specs.Causes.{causes_at}
use Rattle.cc_tell_modes.proofs.CauseLines.{AreToldTo}
use Rattle.cc_tell_modes.proofs.causes.tell_causes.Given as goal

-- the lines of the positions before this one were given
abbrev pub invariant-loop-position : goal.invariant-loop-position
invariant-loop-position g l =
    let desk = g.D.Desk in
    (d : Description) (horizon : ℕ) → AreNamesOf l.table l.sig d → d.laws ≡ map plain_base_law l.laws →
    map (λ (cause : Cause). Some cause) l.causes ≡ causes_at d horizon l.row →
    AreToldTo d l.files horizon l.row l.position
    (desk.seen l.initial.desk) (desk.seen l.desk)
