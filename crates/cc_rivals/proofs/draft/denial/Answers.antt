use Rattle.std.proofs.Common.{◌∙◌, ◌++◌, List, ℕ, ap, append-nil, arith, drop, sym}
use Rattle.std.proofs.lemmas.List.{drop_all}
use Rattle.cc_defs.specs.Sections.{denial_from}
use Rattle.cc_rivals.proofs.Denials.{row_at, sum_at}
use Rattle.cc_rivals.proofs.draft.denial.Goals as goal

pub bounds-row-index : goal.bounds-row-index
bounds-row-index c = (row_at c.args.sizes.now c.args.row.now c.loop-index.index c.loop-index.invariant.is_row c.loop-index-test.true).0

pub overflow_add-first : goal.overflow_add-first
overflow_add-first c =
    let low = row_at c.args.sizes.now c.args.row.now c.loop-index.index c.loop-index.invariant.is_row c.loop-index-test.true in
    let most = sum_at c.args.sizes.now c.loop-index.index c.loop-index-test.true in
    let within = c.loop-index.invariant.within in omega (arith, low.1)

pub negative-requires-clause-most : goal.negative-requires-clause-most
negative-requires-clause-most c =
    let low = row_at c.args.sizes.now c.args.row.now c.loop-index.index c.loop-index.invariant.is_row c.loop-index-test.true in
    let most = sum_at c.args.sizes.now c.loop-index.index c.loop-index-test.true in
    let within = c.loop-index.invariant.within in omega (arith, low.1)

pub overflow_add-first-in-loop-index : goal.overflow_add-first-in-loop-index
overflow_add-first-in-loop-index c =
    let most = sum_at c.args.sizes.now c.loop-index.index c.loop-index-test.true in
    let within = c.loop-index.invariant.within in omega arith

pub returns : goal.returns
returns c =
    let items = c.loop-index.clause.items in
    let i = c.loop-index.index in
    sym (append-nil items) ∙ ap (λ (l : List ℕ). items ++ denial_from c.loop-index.first l (drop i c.args.row.now)) (sym (drop_all i c.args.sizes.now c.loop-index-test.false)) ∙ c.loop-index.invariant.denials
