-- A verdict within the limits is the verdict.
use Rattle.std.proofs.Common.{ℕ, inl, inr, Bool, true, false, List, [], ◌∷◌, Option}
use Rattle.cc_defs.specs.declared.log.EndWord.{EndWord}
use Rattle.cc_defs.specs.declared.log.EndWord.TheVariants as words
use Rattle.cc_defs.specs.declared.log.LogVerdict.{LogVerdict}
use Rattle.cc_defs.specs.declared.refusal.Refusal.{Refusal}
use Rattle.cc_defs.specs.Logs.{SectionText, Standing, Subject, AreJudged, IsContinued, IsFollowed}
use Rattle.cc_defs.specs.Sections.{Finding, Right, Trailed, Wrong}
use Rattle.cc_judge.specs.Judging.{AreJudgedWithin}

module _ (Goes Other : Standing → Type 0) (moves : (next : Standing) → Goes next → Other next) (standing : Standing) (verdict : LogVerdict) where
  continued : (conditions : Bool) (word : EndWord) (blocks line : ℕ) → IsContinued Goes standing conditions word blocks line verdict →
      IsContinued Other standing conditions word blocks line verdict
  continued true words.Empty blocks line is = moves _ is
  continued false words.Empty blocks line is = moves _ is
  continued true words.Found blocks line is = moves _ is
  continued false words.Found blocks line is = is
  continued true words.Spent blocks line is = is
  continued false words.Spent blocks line is = is

  followed : (conditions : Bool) (finding : Finding) → IsFollowed Goes standing conditions finding verdict → IsFollowed Other standing conditions finding verdict
  followed conditions (Right word blocks line) is = continued conditions word blocks line is
  followed conditions (Trailed word line reason) is = is
  followed conditions (Wrong line reason) is = is

pub judged_of_within : (subject : Subject) (limit : Bool → ℕ → Option Refusal) (Are : Bool → ℕ → Type 0) (standing : Standing) (sections : List SectionText) (verdict : LogVerdict) →
    AreJudgedWithin subject limit Are standing sections verdict → AreJudged subject standing sections verdict
judged_of_within subject limit Are standing [] verdict is = is
judged_of_within subject limit Are standing (section ∷ sections) verdict (inl other) = inl other
judged_of_within subject limit Are standing (section ∷ sections) verdict (inr (next, none, good, (finding, found, follows))) =
    inr (
      next,
      (
        finding,
        found,
        followed (λ (s : Standing). AreJudgedWithin subject limit Are s sections verdict) (λ (s : Standing). AreJudged subject s sections verdict)
            (λ s h. judged_of_within subject limit Are s sections verdict h) standing verdict section.conditions finding follows,
      ),
    )
