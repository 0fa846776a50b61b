use Rattle.std.proofs.Common.{[]}
use Rattle.cc_sorts.proofs.Tabled.{shown_is}
use Rattle.cc_sorts.proofs.table.Table.new.Goals as goal

pub returns : goal.returns
returns c = shown_is c.in_ok-new.field-0 [] c.in_ok-new.ensures.nothing
