use Rattle.std.proofs.Common.{arith}
use Rattle.cc_check.proofs.Places.{none_read, one_comes, read_on, section_there, there}
use Rattle.cc_check.proofs.sections.Sections.section.Goals as goal

pub loop-init : goal.loop-init
loop-init c = none_read c.args.self.now c.again-rest.result c.again-rest.ensures.same

pub loop-preserved : goal.loop-preserved
loop-preserved c =
    read_on c.args.self.now c.loop.rest c.loop.counter c.loop.invariant c.next.new.self c.args.i c.requires
    (there c.again-rest.result c.args.self.now c.again-rest.ensures.same c.again-rest.ensures.there) (omega arith) c.next.result c.next.ensures.next c.next.ensures.shorter

pub unreachable-requires : goal.unreachable-requires
unreachable-requires c =
    one_comes c.args.self.now c.loop.rest c.loop.counter c.loop.invariant c.next-2.new.self c.args.i c.requires
    (there c.again-rest.result c.args.self.now c.again-rest.ensures.same c.again-rest.ensures.there) (c.in-None.ensures.next) c.loop.auto.counter-end

pub returns-clause-section : goal.returns-clause-section
returns-clause-section c =
    section_there c.args.self.now c.loop.rest c.loop.counter c.loop.invariant c.next-2.new.self c.args.i (omega arith) c.in-Some.section c.in-Some.ensures.next
