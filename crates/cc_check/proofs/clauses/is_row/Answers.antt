use Rattle.std.proofs.Common.{List, ℕ, subst, sym}
use Rattle.std.proofs.lemmas.Bool.{false≢true}
use Rattle.cc_defs.specs.Rows.{IsRow}
use Rattle.cc_check.specs.Readers.{numbers_of}
use Rattle.cc_check.proofs.Literals.{none_says, row_done, row_long, row_more, row_past, row_short}
use Rattle.cc_check.proofs.clauses.is_row.Goals as goal

pub returns-in_default : goal.returns-in_default
returns-in_default c = (
  λ never. absurd (false≢true never),
  λ is.
      absurd (row_short c.sizes-sizes.result.now (numbers_of c.args.row.now) c.loop-size.size-index (numbers_of c.loop-size.indexes) c.loop-size.invariant
      c.loop-size-test.true c.in_default.ensures (rw c.sizes-sizes.ensures.sizes is)),
)

pub returns-then-index-size : goal.returns-then-index-size
returns-then-index-size c = (
  λ never. absurd (false≢true never),
  λ is.
      absurd (row_past c.sizes-sizes.result.now (numbers_of c.args.row.now) c.loop-size.size-index (numbers_of c.loop-size.indexes) c.loop-size.invariant
      c.in-Some.index (numbers_of c.next.new.self) c.loop-size-test.true c.in-Some.ensures c.if-index-size.true (rw c.sizes-sizes.ensures.sizes is)),
)

pub loop-size-preserved : goal.loop-size-preserved
loop-size-preserved c =
    row_more c.sizes-sizes.result.now (numbers_of c.args.row.now) c.loop-size.size-index (numbers_of c.loop-size.indexes) c.loop-size.invariant
    c.in-Some.index (numbers_of c.next.new.self) c.loop-size-test.true c.in-Some.ensures c.if-index-size.false

pub returns : goal.returns
returns c =
    none_says (IsRow c.args.form.now.sizes (numbers_of c.args.row.now)) c.next-2.result c.is_none.result c.is_none.ensures c.next-2.ensures
    (λ nil. subst (λ (s : List ℕ). IsRow s (numbers_of c.args.row.now)) c.sizes-sizes.ensures.sizes
    (row_done c.sizes-sizes.result.now (numbers_of c.args.row.now) c.loop-size.size-index (numbers_of c.loop-size.indexes) c.loop-size.invariant c.loop-size-test.false nil))
    (λ index is h.
    row_long c.sizes-sizes.result.now (numbers_of c.args.row.now) c.loop-size.size-index (numbers_of c.loop-size.indexes) c.loop-size.invariant index (numbers_of c.next-2.new.self) c.loop-size-test.false is
    (subst (λ (s : List ℕ). IsRow s (numbers_of c.args.row.now)) (sym c.sizes-sizes.ensures.sizes) h))
