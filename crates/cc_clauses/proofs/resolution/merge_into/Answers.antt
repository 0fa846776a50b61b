use Rattle.std.proofs.Common.{◌∙◌, ◌+◌, ◌∷◌, ◌++◌, List, ap, drop, sym}
use Rattle.std.proofs.lemmas.List.{at_drop_all, drop_more}
use Rattle.cc_defs.specs.Clauses.{Literal}
use Rattle.cc_clauses.specs.Merging.{merge}
use Rattle.cc_clauses.proofs.resolution.merge_into.Goals as goal

pub loop-literal-preserved : goal.loop-literal-preserved
loop-literal-preserved c =
    let rest = drop (c.loop-literal.literal-index + 1) c.args.short.now in
    let here = drop_more c.args.short.now c.loop-literal.literal-index c.literal-item.result c.loop-literal-test.true ∙ ap (λ (l : Literal). l ∷ rest) (sym c.literal-item.is) in (
      c.in_ok-rest.ensures.clause,
      c.in_ok-rest.ensures.written rest ∙ ap (λ (ls : List Literal). c.loop-literal.out.items ++ merge ls c.loop-literal.rest.now) (sym here) ∙ c.loop-literal.invariant.1,
    )

pub returns : goal.returns
returns c =
    c.in_ok-extend_from_slice.ensures.items
    ∙ sym (at_drop_all (λ (ls : List Literal). c.loop-literal.out.items ++ merge ls c.loop-literal.rest.now) c.args.short.now c.loop-literal.literal-index c.loop-literal-test.false) ∙ c.loop-literal.invariant.1
