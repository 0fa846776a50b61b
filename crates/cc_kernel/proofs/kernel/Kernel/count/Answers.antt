use Rattle.std.proofs.Common.{◌∙◌, sym, arith}
use Rattle.cc_kernel.proofs.Entries.{length_of_entries}
use Rattle.cc_kernel.proofs.Views.{count_here}
use Rattle.cc_kernel.proofs.kernel.Kernel.count.Goals as goal

pub overflow_cast-result : goal.overflow_cast-result
overflow_cast-result c =
    let few = c.self.invariant.sound.entries_few in
    let count = length_of_entries c.self.inside.clauses c.self.inside.later.items in
    omega arith

pub returns : goal.returns
returns c = c.count.ensures ∙ sym (count_here c.self.inside c.args.self.now c.self.view_is)
