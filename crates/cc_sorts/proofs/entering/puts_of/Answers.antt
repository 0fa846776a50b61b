use Rattle.std.proofs.Common.{◌∙◌, length, flat_map, ap, sym}
use Rattle.cc_defs.specs.Declarations.{put_declared}
use Rattle.cc_sorts.specs.Declaring.{plain_declaration}
use Rattle.cc_sorts.proofs.Walks.{count_numbers}
use Rattle.cc_sorts.proofs.entering.puts_of.Goals as goal

pub returns-in-Numbers-clause-counted : goal.returns-in-Numbers-clause-counted
returns-in-Numbers-clause-counted c = λ file line.
    c.count_of.ensures.counted ∙ count_numbers c.in-Numbers.low c.in-Numbers.high _
    ∙ sym (ap (λ declaration. length (flat_map put_declared (plain_declaration file line declaration))) c.in-Numbers.is)
