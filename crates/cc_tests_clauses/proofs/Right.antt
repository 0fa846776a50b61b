-- A section for which the checker answers that it is right.
use Rattle.std.proofs.Common.{◌≡◌, ℕ, true}
use Rattle.cc_check.specs.declared.judge.Verdict.{Verdict}
use Rattle.cc_check.specs.declared.judge.Verdict.TheVariants as verdicts
use Rattle.cc_check.specs.declared.sections.Section.{Section}
use Rattle.cc_check.specs.Clauses.{IsVerdictOf}
use Rattle.cc_check.specs.SectionTexts.{IsFoundOf, IsRightOf}
use Rattle.cc_defs.specs.declared.log.EndWord.{EndWord}
use Rattle.cc_defs.specs.Sections.{Axioms, Finding, Right, Trailed, Wrong}

pub right_of : (axioms : Axioms) (section : Section) (verdict : Verdict) (word : EndWord) (blocks line : ℕ) → verdict ≡ verdicts.Right word blocks line →
    ((finding : Finding) × IsFoundOf true axioms section finding × IsVerdictOf finding verdict) → IsRightOf axioms section
right_of axioms section verdict word blocks line is (Right ending count last, found, told) = (ending, count, last, found)
right_of axioms section verdict word blocks line is (Trailed ending last reason, found, told) = absurd cc
right_of axioms section verdict word blocks line is (Wrong last reason, found, told) = absurd cc
