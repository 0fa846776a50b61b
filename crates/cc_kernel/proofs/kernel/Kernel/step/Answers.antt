use Rattle.std.proofs.Common.{◌∷◌, [], refl, sym, subst}
use Rattle.cc_defs.specs.Clauses.{Clash, IsClause, IsResolvent}
use Rattle.cc_kernel.specs.Kernels.{KernelView}
use Rattle.cc_kernel.specs.Parts.{IsSound}
use Rattle.cc_kernel.proofs.Kernels.{sound_stepped}
use Rattle.cc_kernel.proofs.Views.{numbered_most, sound_here, stepped_is, parents, resolved}
use Rattle.cc_kernel.proofs.kernel.Kernel.step.Goals as goal

pub numbered-other-requires-clause-most : goal.numbered-other-requires-clause-most
numbered-other-requires-clause-most c = numbered_most c.self.inside c.args.self.now c.self.view_is c.args.id (c.requires.1) (c.requires.3)

both : (c : goal.After-resolve_with-arg-2-1) → IsClause c.self.inside.stage × IsClause c.numbered-other.result.now × Clash c.self.inside.stage c.numbered-other.result.now c.args.pivot
both c =
    parents c.self.inside c.args.self.now c.self.view_is c.args.pivot c.args.id c.self.inside.stage c.numbered-other.result.now c.requires refl
    c.numbered-other.ensures c.self.inside.empty c.self.invariant.sound

pub resolve_with-requires-clause-clause : goal.resolve_with-requires-clause-clause
resolve_with-requires-clause-clause c = (both c).1

pub resolve_with-requires-clause-clash : goal.resolve_with-requires-clause-clash
resolve_with-requires-clause-clash c = (both c).2

resolves : (c : goal.In_ok-resolve_with) → IsResolvent (c.requires.0) (c.requires.1) c.args.pivot c.resolve_with.new.stage
resolves c =
    resolved c.self.inside c.args.self.now c.self.view_is c.args.pivot c.args.id c.self.inside.stage c.numbered-other.result.now c.requires refl
    c.numbered-other.ensures c.resolve_with.new.stage c.in_ok-resolve_with.ensures.stage

pub returns-clause-resolved : goal.returns-clause-resolved
returns-clause-resolved c = (
  c.requires.0,
  c.requires.1,
  c.resolve_with.new.stage,
  c.requires.2,
  c.requires.3,
  resolves c,
  stepped_is c.self.inside c.args.self.now c.self.view_is (c.requires.0) c.resolve_with.new.stage c.resolve_with.new.chain.items (c.args.pivot ∷ c.args.id ∷ [])
      (c.requires.2) c.in_ok-resolve_with.ensures.chain,
)

pub invariant_of-self-2 : goal.invariant_of-self-2
invariant_of-self-2 c = record {
  later_few = c.self.invariant.later_few;
  sound =
      subst (λ (v : KernelView). IsSound v c.self.inside.empty)
      (sym (stepped_is c.self.inside c.args.self.now c.self.view_is (c.requires.0) c.resolve_with.new.stage c.resolve_with.new.chain.items
      (c.args.pivot ∷ c.args.id ∷ []) (c.requires.2) c.in_ok-resolve_with.ensures.chain))
      (sound_stepped c.args.self.now c.self.inside.empty c.args.pivot c.args.id (c.requires.0) (c.requires.1) c.resolve_with.new.stage
      (sound_here c.self.inside c.args.self.now c.self.view_is c.self.inside.empty c.self.invariant.sound) (c.requires.2) (c.requires.3)
      (resolves c));
}
