use Rattle.std.proofs.Common.{inl, inr, refl}
use Rattle.std.proofs.lemmas.Bool.{false≢true}
use Rattle.cc_check.specs.Readers.{literals_of}
use Rattle.cc_check.proofs.Literals.{clause_done, clause_fails}
use Rattle.cc_check.proofs.clauses.is_clause_over.Goals as goal
use Rattle.cc_check.proofs.clauses.is_clause_over.Goals.{then-not-is_before-via-then-not-is_before, then-not-is_before-via-else-not-is_before+then-not-is_within}

pub returns : goal.returns
returns c = (
  λ _. clause_done c.args.variables (record { variable = c.loop-literal.variable; positive = c.loop-literal.positive }) (literals_of c.loop-literal.rest) (literals_of c.args.literals.now) c.loop-literal.invariant c.in_default.ensures,
  λ _. refl,
)

pub returns-then-not-is_before : goal.returns-then-not-is_before
returns-then-not-is_before c = (
  λ never. absurd (false≢true never),
  λ h.
      absurd (clause_fails c.args.variables (record { variable = c.loop-literal.variable; positive = c.loop-literal.positive }) (literals_of c.loop-literal.rest) (literals_of c.args.literals.now) c.loop-literal.invariant
      c.in-Some.literal (literals_of c.next.new.self) c.in-Some.ensures
      (elim c.then-not-is_before.branch [
        | then-not-is_before-via-then-not-is_before w ↦ inl (λ before. false≢true (w.if-not-is_before.ensures.1 before))
        | then-not-is_before-via-else-not-is_before+then-not-is_within w ↦ inr (λ within. false≢true (w.if-not-is_within.ensures.1 within))
      ])
      h),
)
