use Rattle.std.proofs.Common.{◌∙◌, List, arith, subst, sym}
use Rattle.std.specs.List.{AllByRecursion}
use Rattle.cc_defs.specs.Clauses.{IsLiteralOver, Literal}
use Rattle.cc_rivals.proofs.Denials.{denial_over}
use Rattle.cc_rivals.proofs.draft.deny_row.Goals as goal

pub clause-requires : goal.clause-requires
clause-requires c =
    subst (λ (l : List Literal). AllByRecursion (IsLiteralOver c.args.draft.now.last) l) (sym (c.deref.ensures.value ∙ c.in_ok-clause.ensures))
    (denial_over c.args.draft.now.last 1 c.args.sizes.now c.args.row.now c.requires.row (omega arith) (let less = c.requires.sizes in omega arith))
