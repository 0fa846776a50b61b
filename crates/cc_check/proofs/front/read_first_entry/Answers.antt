use Rattle.cc_check.proofs.FirstTexts.{entry_first, unread_first}
use Rattle.cc_check.proofs.front.read_first_entry.Goals as goal

pub returns-in-Some : goal.returns-in-Some
returns-in-Some c = entry_first c.args.bytes.now c.in-Some.line c.in-Some.rest.now c.in-Some.ensures

pub returns-in-None : goal.returns-in-None
returns-in-None c = unread_first c.args.bytes.now c.in-None.ensures c.requires
