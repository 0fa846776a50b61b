use Rattle.cc_form.proofs.Definitions.{same_written}
use Rattle.cc_form.proofs.defining.define_same.Goals as goal

pub returns : goal.returns
returns c = same_written c.write_three-4.result c.args.store.now.kept c.write_three.new.self.kept c.write_three-2.new.self.kept c.write_three-3.new.self.kept c.write_three-4.new.self.kept
    c.args.x c.args.f c.args.g c.opposite.result c.opposite-2.result c.opposite-3.result c.opposite-4.result c.opposite-5.result c.opposite-6.result
    c.opposite.ensures c.opposite-2.ensures c.opposite-3.ensures c.opposite-4.ensures c.opposite-5.ensures c.opposite-6.ensures
    c.in_ok-write_three.ensures c.in_ok-write_three-2.ensures c.in_ok-write_three-3.ensures c.write_three-4.ensures
