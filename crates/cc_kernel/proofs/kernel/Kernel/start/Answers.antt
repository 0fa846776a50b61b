use Rattle.std.proofs.Common.{sym, subst}
use Rattle.cc_defs.specs.Clauses.{IsClause, IsNumbered, IsOver}
use Rattle.cc_kernel.specs.Kernels.{KernelView, clauses_of}
use Rattle.cc_kernel.specs.Parts.{IsSound}
use Rattle.cc_kernel.proofs.Kernels.{clause_there, over_at, sound_started}
use Rattle.cc_kernel.proofs.Views.{there_inside, numbered_here, sound_here, started_is}
use Rattle.cc_kernel.proofs.kernel.Kernel.start.Goals as goal

pub numbered-clause-requires-clause-most : goal.numbered-clause-requires-clause-most
numbered-clause-requires-clause-most c = there_inside c.self.inside c.args.self.now c.self.view_is c.args.id c.requires

facts : (c : goal.After-begin_with-arg-2-1) → IsClause c.numbered-clause.result.now × IsOver c.args.self.now.variables c.numbered-clause.result.now
facts c =
    clause_there c.args.self.now c.self.inside.empty c.args.id c.numbered-clause.result.now
    (sound_here c.self.inside c.args.self.now c.self.view_is c.self.inside.empty c.self.invariant.sound)
    (numbered_here c.self.inside c.args.self.now c.self.view_is c.args.id c.numbered-clause.result.now c.numbered-clause.ensures)

pub begin_with-requires-clause-clause : goal.begin_with-requires-clause-clause
begin_with-requires-clause-clause c = (facts c).0

pub begin_with-requires-clause-some : goal.begin_with-requires-clause-some
begin_with-requires-clause-some c literal here = (over_at c.args.self.now.variables c.numbered-clause.result.now literal (facts c).1 here).0

read : (c : goal.After-self-1) → IsNumbered (clauses_of c.args.self.now) c.args.id c.numbered-clause.result.now
read c = numbered_here c.self.inside c.args.self.now c.self.view_is c.args.id c.numbered-clause.result.now c.numbered-clause.ensures

pub invariant_of-self-2 : goal.invariant_of-self-2
invariant_of-self-2 c = record {
  later_few = c.self.invariant.later_few;
  sound =
      subst (λ (v : KernelView). IsSound v c.self.inside.empty)
      (sym (started_is c.self.inside c.args.self.now c.self.view_is c.begin_with.new.stage c.numbered-clause.result.now c.begin_with.new.chain.items c.args.id
      c.in_ok-begin_with.ensures.stage c.in_ok-begin_with.ensures.chain))
      (sound_started c.args.self.now c.self.inside.empty c.args.id c.numbered-clause.result.now
      (sound_here c.self.inside c.args.self.now c.self.view_is c.self.inside.empty c.self.invariant.sound) (read c));
}

pub returns-clause-started : goal.returns-clause-started
returns-clause-started c = (
  c.numbered-clause.result.now,
  read c,
  started_is c.self.inside c.args.self.now c.self.view_is c.begin_with.new.stage c.numbered-clause.result.now c.begin_with.new.chain.items c.args.id
      c.in_ok-begin_with.ensures.stage c.in_ok-begin_with.ensures.chain,
)
