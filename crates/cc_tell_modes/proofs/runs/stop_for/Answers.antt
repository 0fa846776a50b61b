use Rattle.cc_tell_modes.proofs.RunsTelling.{memory_stops}
use Rattle.cc_tell_modes.proofs.runs.stop_for.Goals as goal

pub returns-in-OutOfMemory : goal.returns-in-OutOfMemory
returns-in-OutOfMemory g c = memory_stops c.args.fault _ c.in-OutOfMemory.is
