use Rattle.std.proofs.Common.{arith, refl}
use Rattle.cc_kernel.proofs.Entries.{entries_of_axioms, are_axioms}
use Rattle.cc_kernel.proofs.Views.{sound_of}
use Rattle.cc_kernel.proofs.kernel.Kernel.of.Goals as goal

pub invariant_of-result : goal.invariant_of-result
invariant_of-result c = record {
  later_few = rw c.new.ensures.items (omega arith);
  sound = rw (c.new.ensures.items, c.new-4.ensures.items, entries_of_axioms c.args.axioms) (sound_of c.args.variables c.args.axioms c.first_empty_of-first.result c.requires.variables c.requires.few c.requires.clauses c.requires.over c.first_empty_of-first.ensures);
}

pub returns-clause-kernel : goal.returns-clause-kernel
returns-clause-kernel c = rw (c.new.ensures.items, c.new-4.ensures.items, entries_of_axioms c.args.axioms) refl

pub returns-clause-axioms : goal.returns-clause-axioms
returns-clause-axioms c = rw (c.new.ensures.items, entries_of_axioms c.args.axioms) (are_axioms c.args.axioms)
