use Rattle.std.proofs.Common.{None, Some, string_bytes}
use Rattle.cc_sorts.proofs.Entries.{value_there}
use Rattle.cc_sorts.proofs.dictionary.Dictionary.value.Goals as goal

pub returns-in-Some : goal.returns-in-Some
returns-in-Some g c =
    value_there string_bytes c.self.inside.entries.entries c.args.self.now c.args.number (Some (c.in-Some.field-0-0.now, c.in-Some.value.now)) c.self.view_is c.in-Some.ensures.entry

pub returns-in-None : goal.returns-in-None
returns-in-None g c = value_there string_bytes c.self.inside.entries.entries c.args.self.now c.args.number None c.self.view_is c.in-None.ensures.entry
