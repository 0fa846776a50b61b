use Rattle.std.proofs.Common.{◌∙◌, ap, Some, string_bytes}
use Rattle.cc_sorts.proofs.Entries.{name_there}
use Rattle.cc_sorts.proofs.dictionary.Dictionary.name.Goals as goal

pub returns-in-Some : goal.returns-in-Some
returns-in-Some g c =
    ap Some c.as_str.ensures.value
    ∙ name_there string_bytes c.self.inside.entries.entries c.args.self.now c.args.number (c.in-Some.name.now, c.in-Some.field-0-1.now) c.self.view_is c.in-Some.ensures.entry
