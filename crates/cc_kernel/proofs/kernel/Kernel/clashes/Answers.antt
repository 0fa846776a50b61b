use Rattle.std.proofs.Common.{◌∙◌, List, Some, ap, sym}
use Rattle.cc_defs.specs.Clauses.{Literal}
use Rattle.cc_kernel.proofs.Views.{clashes_with, numbered_here, some_is, staged_inside, there_inside}
use Rattle.cc_kernel.proofs.kernel.Kernel.clashes.Goals as goal

pub numbered-requires-clause-most : goal.numbered-requires-clause-most
numbered-requires-clause-most c = there_inside c.self.inside c.args.self.now c.self.view_is c.args.id c.requires.there

pub returns : goal.returns
returns c =
    let staged = some_is c.args.self.now.staged c.requires.staged in
    clashes_with c.args.self.now c.args.pivot c.args.id c.self.inside.stage c.numbered.result.now c.clashes.result
    (staged.1 ∙ ap (λ (clause : List Literal). Some clause) (sym (staged_inside c.self.inside c.args.self.now c.self.view_is (staged.0) (staged.1)).1))
    (numbered_here c.self.inside c.args.self.now c.self.view_is c.args.id c.numbered.result.now c.numbered.ensures) c.clashes.ensures
