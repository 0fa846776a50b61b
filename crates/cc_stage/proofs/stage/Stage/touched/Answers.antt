use Rattle.std.proofs.Common.{List, sym, subst}
use Rattle.std.specs.Prelude.{Contains}
use Rattle.cc_clauses.proofs.Literals.{among}
use Rattle.cc_clauses.specs.Merging.{code}
use Rattle.cc_defs.specs.Clauses.{Literal, IsIn}
use Rattle.cc_stage.proofs.Marked.{at_code, in_marked}
use Rattle.cc_stage.specs.Marks.{clause_of}
use Rattle.cc_stage.proofs.stage.Stage.touched.Goals as goal

pub returns : goal.returns
returns c literal here =
    let marks = c.self.inside.marks.items in
    let at = subst (λ (ls : List Literal). Contains ls literal) (sym c.self.view_is) here in
    let is = in_marked marks literal (among (clause_of marks) literal at) in
    subst (λ (ls : List Literal). IsIn ls literal) (sym c.deref.ensures.value)
    (subst (λ (l : Literal). IsIn c.self.inside.touched.items l) (at_code literal) (c.self.invariant (code literal) is))
