-- The header of a log, and the line behind it.
use Rattle.std.proofs.Common.{◌≡◌, ◌≢◌, ℕ, ◌≤◌, List, [], ◌∷◌, ◌++◌, None, Some, Option, true, false, eqb, length, drop, take, refl, sym, ap, subst, ◌∙◌, arith, length-append, inl, inr}
use Rattle.std.specs.Prelude.{Result, Ok, Err, IfErr, IfOk, IsErrAnd}
use Rattle.std.proofs.lemmas.Bool.{false≢true}
use Rattle.std.proofs.lemmas.Bool.Decides.{Decides-eqb}
use Rattle.std.proofs.lemmas.List.{nil_from_length, take_at, take-append-drop}
use Rattle.std.proofs.lemmas.Slice.Eq.{slice_eq-Decides}
use Rattle.std.specs.Cmp.Lexicographic.{pointwise}
use Rattle.cc_defs.specs.declared.log.Cause.{Cause}
use Rattle.cc_defs.specs.declared.log.Cause.TheVariants as causes
use Rattle.cc_defs.specs.declared.log.LogLine.TheVariants as lines
use Rattle.cc_defs.specs.declared.log.Version.{Version}
use Rattle.cc_defs.specs.declared.log.Version.TheVariants.{First, Second}
use Rattle.cc_defs.specs.LogBytes.{IsSpelled, binary_header}
use Rattle.cc_defs.specs.LogTexts.{header, lines_in}
use Rattle.cc_defs.specs.Logs.{IsNoHeading, IsNotBinary}
use Rattle.cc_check.specs.declared.fault.CheckFault.{CheckFault}
use Rattle.cc_check.specs.declared.fault.CheckFault.TheVariants as faults
use Rattle.cc_check.specs.declared.line.Heading.{Heading}
use Rattle.cc_check.specs.Parts.{AreSectionsBehind, AreSectionsOf, IsCut, IsRefusal, IsRefusalBehind, IsSecondAt, IsSecondIn}
use Rattle.cc_check.specs.SectionTexts.{SectionsAhead}
use Rattle.cc_check.specs.Splits.{Split, Parts, Misread, IsSplit, IsSplitOf, IsSplitBehind}
use Rattle.cc_check.specs.Texts.{AreTexts}
use Rattle.cc_check.proofs.FirstLines.{line_length, first_line_cut}
use Rattle.cc_check.proofs.FirstTexts.{none_of, one_more, same_first}
use Rattle.cc_check.proofs.EntryThere.{texts_there}
use Rattle.cc_check.proofs.SectionsThere.{sections_there}

pub as_err : {E A : Type 0} (P : E → Type 0) (r : Result A E) (fault : E) → IsErrAnd r (λ (given : E). given ≡ fault) → P fault → IfErr r P
as_err P (Ok value) fault is holds = tt
as_err P (Err given) fault is holds = subst P (sym is) holds

-- ---- the header

header_lines : (rest : List ℕ) → lines_in (header ++ rest) ≡ header ∷ lines_in rest
header_lines rest = refl

no_header_split : (bytes : List ℕ) → ((rest : List ℕ) → bytes ≢ header ++ rest) → IsSplitOf (lines_in bytes) (Misread 1 causes.Header)
no_header_split [] none = refl
no_header_split (byte ∷ bytes) none =
    let cut = first_line_cut (byte ∷ bytes) (line_length (byte ∷ bytes)) (omega arith) refl in
    subst (λ (ts : List (List ℕ)). IsSplitOf ts (Misread 1 causes.Header)) (sym cut.lines)
    (inl ((λ is. none (drop (line_length (byte ∷ bytes)) (byte ∷ bytes)) (cut.parts ∙ ap (λ (t : List ℕ). t ++ drop (line_length (byte ∷ bytes)) (byte ∷ bytes)) is)), refl))

pub no_header : (bytes : List ℕ) (fault : CheckFault) → fault ≡ faults.Refused 1 causes.Header → IsNotBinary bytes → ((rest : List ℕ) → bytes ≢ header ++ rest) →
    IsRefusal bytes fault
no_header bytes fault is other none = subst (IsRefusal bytes) (sym is) (inr (other, no_header_split bytes none))

-- ---- by what was tested

pub not_at : (front bytes : List ℕ) → pointwise eqb (take (length front) bytes) front ≡ false → (rest : List ℕ) → bytes ≢ front ++ rest
not_at front bytes other rest is =
    false≢true
    (sym other ∙ (slice_eq-Decides Decides-eqb (take (length front) bytes) front _ refl).1 (ap (take (length front)) is ∙ take_at front rest (length front) refl))

pub at_front : (front bytes body : List ℕ) → pointwise eqb (take (length front) bytes) front ≡ true → body ≡ drop (length front) bytes → bytes ≡ front ++ body
at_front front bytes body same is =
    sym (take-append-drop (length front) bytes)
    ∙ ap (λ (t : List ℕ). t ++ drop (length front) bytes) ((slice_eq-Decides Decides-eqb (take (length front) bytes) front _ refl).0 same)
    ∙ ap (λ (t : List ℕ). front ++ t) (sym is)

-- ---- what is behind it, in each version

header_in : Version → List ℕ
header_in First = header
header_in Second = binary_header

-- where bytes begin with the header of a version
abbrev Begin : Version → (bytes body : List ℕ) → Type 0
Begin First bytes body = IsNotBinary bytes × (bytes ≡ header ++ body)
Begin Second bytes body = bytes ≡ binary_header ++ body

module _ (bytes body : List ℕ) where
  split_behind : (version : Version) → Begin version bytes body → (texts : List (List ℕ)) (split : Split) → AreTexts version body texts → IsSplitBehind version texts split →
      IsSplit bytes split
  split_behind First (other, headed) texts split are h = inr (
    other,
    subst (λ (t : List ℕ). IsSplitOf (lines_in t) split) (sym headed) (inr (refl, subst (λ (ts : List (List ℕ)). IsSplitBehind First ts split) are h)),
  )
  split_behind Second headed texts split are h = inl (body, headed, (texts, are, h))

  sections_behind : (version : Version) → Begin version bytes body → (sections : SectionsAhead) → AreSectionsBehind version body sections → AreSectionsOf bytes sections
  sections_behind version begin sections (texts, are, (all, of, split)) = (all, of, split_behind version begin texts (Parts all) are split)

  pub ok_behind : {E : Type 0} (version : Version) → Begin version bytes body → (r : Result SectionsAhead E) → IfOk r (AreSectionsBehind version body) → IfOk r (AreSectionsOf bytes)
  ok_behind version begin (Ok sections) are = sections_behind version begin sections are
  ok_behind version begin (Err fault) are = tt

  refusal_behind : (version : Version) → Begin version bytes body → (fault : CheckFault) → IsRefusalBehind version body fault → IsRefusal bytes fault
  refusal_behind version begin (faults.Refused line reason) (texts, are, split) = split_behind version begin texts (Misread line reason) are split
  refusal_behind version begin faults.OutOfMemory none = tt

  pub err_behind : {A : Type 0} (version : Version) → Begin version bytes body → (r : Result A CheckFault) → IfErr r (IsRefusalBehind version body) → IfErr r (IsRefusal bytes)
  err_behind version begin (Ok value) is = tt
  err_behind version begin (Err fault) is = refusal_behind version begin fault is

-- ---- the line behind the header

refused_as : (version : Version) (body : List ℕ) (fault : CheckFault) (line : ℕ) (reason : Cause) → fault ≡ faults.Refused line reason →
    ((texts : List (List ℕ)) × AreTexts version body texts × IsSplitBehind version texts (Misread line reason)) → IsRefusalBehind version body fault
refused_as version body fault line reason is h = subst (IsRefusalBehind version body) (sym is) h

pub nothing_behind : (version : Version) (body : List ℕ) (fault : CheckFault) → fault ≡ faults.Refused 2 causes.Section → length body ≡ 0 → IsRefusalBehind version body fault
nothing_behind version body fault is nil =
    refused_as version body fault 2 causes.Section is ([], subst (λ (t : List ℕ). AreTexts version t []) (sym (nil_from_length body nil)) (none_of version), refl)

second_split : (version : Version) (text : List ℕ) (texts : List (List ℕ)) (cause : Cause) → IsNoHeading version text → IsSecondIn version text cause →
    IsSplitBehind version (text ∷ texts) (Misread 2 cause)
second_split version text texts causes.Form none h = inl (h, refl)
second_split version text texts causes.Section none h = inr (inl (none, h, refl))
second_split version text texts causes.Header none h = absurd h
second_split version text texts causes.Literal none h = absurd h
second_split version text texts causes.Number none h = absurd h
second_split version text texts causes.Pivot none h = absurd h
second_split version text texts causes.Clause none h = absurd h
second_split version text texts causes.Row none h = absurd h
second_split version text texts causes.NotRefuted none h = absurd h

module _ (version : Version) (body behind : List ℕ) (heading : Option Heading) (cut : IsCut version body heading behind) where
  pub second_wrong : (fault : CheckFault) (cause : Cause) → fault ≡ faults.Refused 2 cause → heading ≡ None → IsSecondAt version body cause → IsRefusalBehind version body fault
  second_wrong fault cause is none (text, rest, first, second) =
      let (more, are) = texts_there version rest in
      let no_heading : IsNoHeading version cut.text = rw none at cut.read in
      let same = same_first version body cut.text text behind rest cut.first first more are in
      refused_as version body fault 2 cause is (
        text ∷ more,
        one_more version body text rest first more are,
        second_split version text more cause (subst (IsNoHeading version) (sym same) no_heading) second,
      )

  pub first_read : (first : Heading) → heading ≡ Some first →
      AreSectionsBehind version body (record { version = version; line = 2; next = Some (record { conditions = first.conditions; horizon = first.horizon; behind = behind }) })
  first_read first some =
      let spelled : IsSpelled version cut.text (lines.Section first.conditions first.horizon) = rw some at cut.read in
      let (texts, are) = texts_there version behind in
      let (all, split) = sections_there version cut.text texts first.conditions first.horizon spelled 2 in
      (cut.text ∷ texts, one_more version body cut.text behind cut.first texts are, (all, (cut.text, texts, spelled, are, split), inr (inr (all, split, refl))))

  pub behind_few : length body ≤ 268435448 → length behind ≤ 268435448
  behind_few few = let e = ap length cut.first.parts ∙ length-append cut.text behind in omega arith
