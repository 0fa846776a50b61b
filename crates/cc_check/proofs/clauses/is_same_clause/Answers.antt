use Rattle.std.proofs.Common.{◌≡◌, false, refl, sym, ◌∙◌}
use Rattle.std.proofs.lemmas.Bool.{false≢true}
use Rattle.cc_check.specs.Readers.{literals_of}
use Rattle.cc_check.proofs.Literals.{none_says, same_done, same_long, same_more, same_differs, same_short}
use Rattle.cc_check.proofs.clauses.is_same_clause.Goals as goal

pub loop-literal-preserved : goal.loop-literal-preserved
loop-literal-preserved c =
    same_more c.args.clause.now (literals_of c.args.literals.now) c.loop-literal.literal-index (literals_of c.loop-literal.others) c.loop-literal.invariant
    c.in-Some.named (literals_of c.next.new.self) c.literal-item.result c.loop-literal-test.true c.in-Some.ensures (sym c.literal-item.is ∙ c.if-not-is_same.ensures.0 refl)

pub returns-in_default : goal.returns-in_default
returns-in_default c = (
  λ never. absurd (false≢true never),
  λ is.
      absurd (same_short c.args.clause.now (literals_of c.args.literals.now) c.loop-literal.literal-index (literals_of c.loop-literal.others) c.loop-literal.invariant
      (record { variable = 0; positive = false }) c.loop-literal-test.true c.in_default.ensures is),
)

pub returns-then-not-is_same : goal.returns-then-not-is_same
returns-then-not-is_same c = (
  λ never. absurd (false≢true never),
  λ is.
      absurd (same_differs c.args.clause.now (literals_of c.args.literals.now) c.loop-literal.literal-index (literals_of c.loop-literal.others) c.loop-literal.invariant
      c.in-Some.named (literals_of c.next.new.self) c.literal-item.result c.loop-literal-test.true c.in-Some.ensures (λ e. false≢true (c.if-not-is_same.ensures.1 (c.literal-item.is ∙ e))) is),
)

pub returns : goal.returns
returns c =
    none_says (c.args.clause.now ≡ literals_of c.args.literals.now) c.next-2.result c.is_none.result c.is_none.ensures c.next-2.ensures
    (same_done c.args.clause.now (literals_of c.args.literals.now) c.loop-literal.literal-index (literals_of c.loop-literal.others) c.loop-literal.invariant c.loop-literal-test.false)
    (λ literal is. same_long c.args.clause.now (literals_of c.args.literals.now) c.loop-literal.literal-index (literals_of c.loop-literal.others) c.loop-literal.invariant literal (literals_of c.next-2.new.self) c.loop-literal-test.false is)
