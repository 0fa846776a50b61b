use Rattle.std.proofs.Common.{refl}
use Rattle.cc_kernel.specs.declared.kernel.Origin.TheVariants as origins
use Rattle.cc_kernel.specs.declared.kernel.Later.TheVariants as laters
use Rattle.cc_kernel.specs.Parts.{entries_of}
use Rattle.cc_kernel.proofs.Entries.{later_entries}
use Rattle.cc_kernel.proofs.Views.{entries_added, given_sound}
use Rattle.cc_kernel.proofs.kernel.Kernel.block.Goals as goal

pub invariant_of-self-2 : goal.invariant_of-self-2
invariant_of-self-2 c =
    let entries_are = later_entries c.self.inside.clauses c.add.new.clauses c.self.inside.later.items c.add.new.later.items c.args.clause.now laters.Block
    c.self.invariant.later_few c.in_ok-add.ensures.clauses c.in_ok-add.ensures.later in
    record {
      later_few = entries_are.0;
      sound =
          given_sound c.self.inside c.args.self.now c.self.view_is c.self.inside.empty c.empty_with-self-inside.result c.args.clause.now origins.Block
          (entries_of c.add.new.clauses c.add.new.later.items) c.count-number.result c.self.invariant.sound c.requires.clause c.requires.over c.requires.few refl
          (entries_are.1) c.count-number.ensures c.empty_with-self-inside.ensures;
    }

pub returns-clause-added : goal.returns-clause-added
returns-clause-added c =
    let entries_are = later_entries c.self.inside.clauses c.add.new.clauses c.self.inside.later.items c.add.new.later.items c.args.clause.now laters.Block
    c.self.invariant.later_few c.in_ok-add.ensures.clauses c.in_ok-add.ensures.later in
    entries_added c.self.inside c.args.self.now c.self.view_is (entries_of c.add.new.clauses c.add.new.later.items) c.args.clause.now origins.Block (entries_are.1)
