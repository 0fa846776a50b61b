use Rattle.cc_text.proofs.Cuts.{cuts_or_stops}
use Rattle.cc_text.proofs.theorems.cuts_or_stops.Goals as goal

pub returns : goal.returns
returns c = cuts_or_stops
