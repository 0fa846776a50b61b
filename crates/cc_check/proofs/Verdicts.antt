-- The verdict of a log by its split.
use Rattle.std.proofs.Common.{◌≡◌, ℕ, List, [], ◌∷◌, inl, inr, sym, subst}
use Rattle.cc_defs.specs.declared.log.Cause.{Cause}
use Rattle.cc_defs.specs.declared.log.LogVerdict.{LogVerdict}
use Rattle.cc_defs.specs.declared.log.LogVerdict.TheVariants as verdicts
use Rattle.cc_defs.specs.declared.log.Version.{Version}
use Rattle.cc_defs.specs.declared.log.Version.TheVariants.{First, Second}
use Rattle.cc_defs.specs.LogTexts.{lines_in}
use Rattle.cc_defs.specs.Logs.{SectionText, Subject, AreJudged, IsVerdict, IsVerdictOf, IsVerdictBehind, at_first}
use Rattle.cc_check.specs.Laws.{MisreadsAreVerdicts, SectionsGiveVerdicts}
use Rattle.cc_check.specs.Splits.{Split, Parts, Misread, IsSplit, IsSplitOf, IsSplitBehind}

-- what a split tells of each version's texts is a verdict, and so it is of the log
module _ (subject : Subject) (split : Split) (verdict : LogVerdict)
    (behind : (version : Version) (texts : List (List ℕ)) → IsSplitBehind version texts split → IsVerdictBehind version subject texts verdict)
    (headed : (texts : List (List ℕ)) → IsSplitOf texts split → IsVerdictOf subject texts verdict) where
  split_verdict : (bytes : List ℕ) → IsSplit bytes split → IsVerdict subject bytes verdict
  split_verdict bytes (inl (body, is, (texts, are, h))) = inl (body, is, (texts, are, behind Second texts h))
  split_verdict bytes (inr (other, h)) = inr (other, headed (lines_in bytes) h)

misread_behind : (subject : Subject) (line : ℕ) (reason : Cause) (version : Version) (texts : List (List ℕ)) → IsSplitBehind version texts (Misread line reason) →
    IsVerdictBehind version subject texts (verdicts.Refused line reason)
misread_behind subject line reason version [] is = cc
misread_behind subject line reason version (text ∷ texts) (inl (none, is)) = inl (none, cc)
misread_behind subject line reason version (text ∷ texts) (inr (inl (none, read, is))) = inr (inl (none, read, cc))
misread_behind subject line reason version (text ∷ texts) (inr (inr (sections, are, is))) = absurd cc

misread_of : (subject : Subject) (line : ℕ) (reason : Cause) (texts : List (List ℕ)) → IsSplitOf texts (Misread line reason) → IsVerdictOf subject texts (verdicts.Refused line reason)
misread_of subject line reason [] is = cc
misread_of subject line reason (text ∷ texts) (inl (other, is)) = inl (other, cc)
misread_of subject line reason (text ∷ texts) (inr (same, h)) = inr (same, misread_behind subject line reason First texts h)

module _ (subject : Subject) (sections : List SectionText) (verdict : LogVerdict) (judged : AreJudged subject (at_first subject) sections verdict) where
  parts_behind : (version : Version) (texts : List (List ℕ)) → IsSplitBehind version texts (Parts sections) → IsVerdictBehind version subject texts verdict
  parts_behind version [] is = absurd cc
  parts_behind version (text ∷ texts) (inl (none, is)) = absurd cc
  parts_behind version (text ∷ texts) (inr (inl (none, read, is))) = absurd cc
  parts_behind version (text ∷ texts) (inr (inr (others, are, is))) =
      let same : others ≡ sections = cc in
      inr (inr (others, are, subst (λ (xs : List SectionText). AreJudged subject (at_first subject) xs verdict) (sym same) judged))

  parts_of : (texts : List (List ℕ)) → IsSplitOf texts (Parts sections) → IsVerdictOf subject texts verdict
  parts_of [] is = absurd cc
  parts_of (text ∷ texts) (inl (other, is)) = absurd cc
  parts_of (text ∷ texts) (inr (same, h)) = inr (same, parts_behind First texts h)

pub misreads_are_verdicts : MisreadsAreVerdicts
misreads_are_verdicts subject bytes line cause h =
    split_verdict subject (Misread line cause) (verdicts.Refused line cause) (misread_behind subject line cause) (misread_of subject line cause) bytes h

pub sections_give_verdicts : SectionsGiveVerdicts
sections_give_verdicts subject bytes sections verdict h judged =
    split_verdict subject (Parts sections) verdict (parts_behind subject sections verdict judged) (parts_of subject sections verdict judged) bytes h
