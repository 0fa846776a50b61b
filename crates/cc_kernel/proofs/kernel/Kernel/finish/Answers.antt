use Rattle.std.proofs.Common.{◌∙◌}
use Rattle.cc_kernel.specs.declared.kernel.Later.TheVariants as laters
use Rattle.cc_kernel.specs.Parts.{entries_of, IsKernel}
use Rattle.cc_kernel.proofs.Entries.{later_entries}
use Rattle.cc_kernel.proofs.Views.{some_is, staged_inside, entries_finished, finished_sound}
use Rattle.cc_kernel.proofs.kernel.Kernel.finish.Goals as goal

pub invariant_of-self-2 : goal.invariant_of-self-2
invariant_of-self-2 c =
    let entries_are = later_entries c.self.inside.clauses c.add.new.clauses c.self.inside.later.items c.add.new.later.items c.as_slice-stage.result.now laters.Derived
    c.self.invariant.later_few c.in_ok-add.ensures.clauses c.in_ok-add.ensures.later in
    let staged = some_is c.args.self.now.staged c.requires.staged in
    record {
      later_few = entries_are.0;
      sound =
          finished_sound c.self.inside c.args.self.now c.self.view_is c.resolvents_are_sound.ensures c.self.inside.empty c.empty_with-self-inside.result
          c.as_slice-stage.result.now (staged.0) (entries_of c.add.new.clauses c.add.new.later.items) c.count-number.result c.self.invariant.sound (staged.1)
          c.requires.few (c.as_slice-stage.ensures.value ∙ c.in_ok-write_to.ensures ∙ (staged_inside c.self.inside c.args.self.now c.self.view_is (staged.0) (staged.1)).1) (entries_are.1)
          c.count-number.ensures c.empty_with-self-inside.ensures;
    }

pub returns-clause-added : goal.returns-clause-added
returns-clause-added c =
    let entries_are = later_entries c.self.inside.clauses c.add.new.clauses c.self.inside.later.items c.add.new.later.items c.as_slice-stage.result.now laters.Derived
    c.self.invariant.later_few c.in_ok-add.ensures.clauses c.in_ok-add.ensures.later in
    let staged = some_is c.args.self.now.staged c.requires.staged in (
      staged.0,
      staged.1,
      entries_finished c.self.inside c.args.self.now c.self.view_is (entries_of c.add.new.clauses c.add.new.later.items) c.as_slice-stage.result.now (staged.0)
          (c.as_slice-stage.ensures.value ∙ c.in_ok-write_to.ensures ∙ (staged_inside c.self.inside c.args.self.now c.self.view_is (staged.0) (staged.1)).1) (entries_are.1),
    )

pub returns-clause-follow : goal.returns-clause-follow
returns-clause-follow c =
    let kernel : IsKernel _ = invariant_of-self-2 c in
    kernel.sound.derived
