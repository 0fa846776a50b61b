-- The reader of formulas reads what the grammar spells.
use Rattle.std.proofs.Common.{◌≡◌, zero, suc, true, false, List, [], ◌∷◌, length, Some, None, refl, ap, arith}
use Rattle.cc_defs.specs.declared.token.Mark.TheVariants as marks
use Rattle.cc_defs.specs.Trees.{PlainTree, Comparison, IsEqual, Differs, IsLess, IsAtMost, IsMore, IsAtLeast}
use Rattle.cc_defs.specs.Grammar.{Terminal, Sign, comparing, formula}
use Rattle.cc_syntax.specs.declared.operators.Operator.{Operator}
use Rattle.cc_syntax.specs.declared.operators.Operator.TheVariants as operators
use Rattle.cc_syntax.specs.Operators.{comparison_at, operator_at}
use Rattle.cc_syntax.specs.Formulas.{Wants, Has, gone_on, run_from, formula_at}
use Rattle.cc_syntax.proofs.IsReader.{IsReader, ends_sum, ends_formula}
use Rattle.cc_syntax.proofs.Comparisons.{comparison-takes}
use Rattle.cc_syntax.proofs.TermReader.{none-of}
use Rattle.cc_syntax.proofs.Strengths.{mark_of, operator-takes, formula-shorter}
use Rattle.cc_syntax.proofs.FormulaTakes.{run-takes}
use Rattle.cc_syntax.proofs.FormulaAgain.{Gives, Follows, claim}

pub formula-sum : (rest : List Terminal) → ends_formula rest ≡ true → ends_sum rest ≡ true
formula-sum (Sign marks.LeftParen ∷ rest) e = absurd cc
formula-sum (Sign marks.Plus ∷ rest) e = absurd cc
formula-sum (Sign marks.Minus ∷ rest) e = absurd cc
formula-sum rest e = refl

comparison-bars : (comparison : Comparison) (rest : List Terminal) → ends_formula (Sign (comparing comparison) ∷ rest) ≡ false
comparison-bars IsEqual rest = refl
comparison-bars Differs rest = refl
comparison-bars IsLess rest = refl
comparison-bars IsAtMost rest = refl
comparison-bars IsMore rest = refl
comparison-bars IsAtLeast rest = refl

no-comparison : (rest : List Terminal) → ends_formula rest ≡ true → comparison_at rest ≡ None
no-comparison rest e =
    none-of (comparison_at rest) (λ read q.
    let same = ap ends_formula (comparison-takes rest read q) in
    let bar = comparison-bars read.0 read.1 in
    absurd cc)

operator-bars : (op : Operator) (rest : List Terminal) → ends_formula (Sign (mark_of op) ∷ rest) ≡ false
operator-bars operators.Both rest = refl
operator-bars operators.Either rest = refl
operator-bars operators.Implies rest = refl
operator-bars operators.Same rest = refl

no-operator : (rest : List Terminal) → ends_formula rest ≡ true → operator_at rest ≡ None
no-operator rest e =
    none-of (operator_at rest) (λ read q.
    let same = ap ends_formula (operator-takes rest read q) in
    let bar = operator-bars read.0 read.1 in
    absurd cc)

end-follows : (rest : List Terminal) → ends_formula rest ≡ true → Follows 4 rest
end-follows rest e = (formula-sum rest e, no-comparison rest e, λ read q. let none = no-operator rest e in absurd cc)

end-gives : (f : PlainTree) (rest : List Terminal) → ends_formula rest ≡ true → Gives [] (Has f rest) (Some (f, rest))
unfolding run_from gone_on
end-gives f rest e zero lt = absurd (omega arith)
end-gives f rest e (suc n) lt = rw (no-operator rest e) refl

formula-takes : (tokens : List Terminal) (read : PlainTree × List Terminal) → formula_at tokens ≡ Some read → formula read.0 tokens read.1
formula-takes tokens read e = run-takes (suc (length tokens)) ([], Wants tokens) tokens read refl e

formula-again : (f : PlainTree) (tokens rest : List Terminal) → formula f tokens rest → ends_formula rest ≡ true → formula_at tokens ≡ Some (f, rest)
formula-again f tokens rest p e =
    claim f 4 [] tokens rest (Some (f, rest)) p (omega arith) (end-follows rest e) (end-gives f rest e) (suc (length tokens)) (omega arith)

pub formula-reader : IsReader formula_at formula ends_formula
formula-reader = record { takes = formula-takes; again = formula-again; shorter = λ f tokens rest p. formula-shorter f 4 tokens rest p }
