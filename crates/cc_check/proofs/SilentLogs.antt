-- Logs of silent sections, one section after another.
use Rattle.std.proofs.Common.{◌≡◌, ◌≢◌, ℕ, ◌+◌, ◌-◌, ◌<◌, ◌≤◌, List, [], ◌∷◌, ◌++◌, Bool, true, false, length, Option, take, Some, None, refl, sym, ap, subst, ◌∙◌, arith, append-nil, length-append, inl, inr}
use Rattle.std.specs.Borrow.{Bor}
use Rattle.std.specs.List.{AllByRecursion}
use Rattle.std.specs.Bool.{MatchBool}
use Rattle.std.specs.Prelude.{Result, Ok, Err, IfOk, IfErr, MatchOption}
use Rattle.std.proofs.lemmas.List.{nil_from_length}
use Rattle.cc_defs.specs.declared.log.Cause.{Cause}
use Rattle.cc_defs.specs.declared.log.Cause.TheVariants as causes
use Rattle.cc_defs.specs.declared.refusal.Fault.{Fault}
use Rattle.cc_defs.specs.declared.refusal.Fault.TheVariants as faults
use Rattle.cc_defs.specs.declared.log.Version.TheVariants.{First}
use Rattle.cc_defs.specs.LogTexts.{lines_in}
use Rattle.cc_defs.specs.Refusals.{IsRefusedBy}
use Rattle.cc_defs.specs.Sections.{Axioms, Finding, IsFound}
use Rattle.cc_check.specs.declared.silent.Passed.{Passed}
use Rattle.cc_check.specs.declared.silent.Passed.TheVariants as passeds
use Rattle.cc_check.specs.declared.silent.Place.{Place}
use Rattle.cc_check.specs.declared.silent.SilentVerdict.{SilentVerdict}
use Rattle.cc_check.specs.declared.silent.SilentVerdict.TheVariants as verdicts
use Rattle.cc_check.specs.Clauses.{as_text}
use Rattle.cc_check.specs.Parts.{IsSecond}
use Rattle.cc_check.specs.Silent.{BeginsSection, IsEmptySection, IsNextSection, IsRightAt, IsSilentFault, IsSilentVerdictBehind, IsSilentVerdictOf, IsStopped, IsUnread, LeadsTo, PassesNoLimit, SilentSection, SilentSubject, ended_at, first_place, place_behind, refused_for}
use Rattle.cc_check.specs.SilentParts.{IsBehindFault, IsPassFault, IsPassedFrom, IsShorter, IsSilentInside}
use Rattle.cc_check.specs.Texts.{IsFirstLine}
use Rattle.cc_check.proofs.FirstTexts.{line_text_first}
use Rattle.cc_check.proofs.Parted.{InsideSoFar, all_are, before_are, before_is, cut_some, joined}

-- ---- what a text is read as

module _ {H : Type 0} (subject : SilentSubject H) (text : List ℕ) (read : Bool) where
  pub read_so : read ≡ true → MatchBool read ((heading : H) × subject.Reads text heading) (IsUnread subject text) → (heading : H) × subject.Reads text heading
  read_so is either = subst (λ (b : Bool). MatchBool b ((heading : H) × subject.Reads text heading) (IsUnread subject text)) is either

  pub unread_so : read ≡ false → MatchBool read ((heading : H) × subject.Reads text heading) (IsUnread subject text) → IsUnread subject text
  unread_so is either = subst (λ (b : Bool). MatchBool b ((heading : H) × subject.Reads text heading) (IsUnread subject text)) is either

module _ {H : Type 0} (subject : SilentSubject H) (text : List ℕ) (read : Option H) where
  pub some_read : (heading : H) → read ≡ Some heading → MatchOption read (IsUnread subject text) (subject.Reads text) → subject.Reads text heading
  some_read heading is either = subst (λ (o : Option H). MatchOption o (IsUnread subject text) (subject.Reads text)) is either

  pub none_read : read ≡ None → MatchOption read (IsUnread subject text) (subject.Reads text) → IsUnread subject text
  none_read is either = subst (λ (o : Option H). MatchOption o (IsUnread subject text) (subject.Reads text)) is either

-- a line is taken from what is left
pub fewer_behind : (rest text behind : List ℕ) (count all : ℕ) → IsFirstLine rest text behind → count + length rest ≤ all → count + 1 + length behind ≤ all
fewer_behind rest text behind count all cut few = let e = ap length cut.parts ∙ length-append text behind in let some = cut.some in omega arith

-- ---- the lines up to the next heading

module _ {H : Type 0} (subject : SilentSubject H) (all rest : List ℕ) (count : ℕ) (h : InsideSoFar First (IsUnread subject) all rest count) where
  pub silent_at : (text behind inside : List ℕ) → IsFirstLine rest text behind → ((heading : H) × subject.Reads text heading) →
      inside ≡ take (length all - length rest) all → IsSilentInside subject all inside count rest
  silent_at text behind inside cut read front =
      let some = cut_some First rest text behind (line_text_first rest text behind cut) in
      let are = before_are First (IsUnread subject) all rest count h some in
      let g = h.few in
      let whole = ap length h.parts ∙ length-append h.before rest in
      subst (λ (i : List ℕ). IsSilentInside subject all i count rest) (sym (before_is First (IsUnread subject) all rest count h inside front)) (record {
        unread = subst (AllByRecursion (IsUnread subject)) are h.none;
        counted = h.counted ∙ ap length are;
        parted = sym (joined First (IsUnread subject) all rest count h some (lines_in rest) refl) ∙ ap (λ (ts : List (List ℕ)). ts ++ lines_in rest) are;
        next = subst (BeginsSection subject) (sym cut.lines) read;
        few = omega arith;
        fewer = h.few;
      })

  pub silent_all : length rest ≡ 0 → IsSilentInside subject all all count rest
  silent_all nil =
      let nothing = nil_from_length rest nil in
      let are = all_are First (IsUnread subject) all rest count h nil in
      record {
        unread = subst (AllByRecursion (IsUnread subject)) are h.none;
        counted = h.counted ∙ ap length are;
        parted = sym (append-nil (lines_in all)) ∙ ap (λ (t : List ℕ). lines_in all ++ lines_in t) (sym nothing);
        next = subst (λ (t : List ℕ). BeginsSection subject (lines_in t)) (sym nothing) tt;
        few = omega arith;
        fewer = h.few;
      }

-- ---- a section

module _ {H : Type 0} (subject : SilentSubject H) (place : Place) (line : ℕ) (text behind : List ℕ) where
  pub unread_stops : (cause : Cause) (verdict : SilentVerdict) → IsUnread subject text → IsSecond text cause → verdict ≡ verdicts.Refused line cause →
      IsStopped subject (PassesNoLimit subject) place line (text ∷ lines_in behind) verdict
  unread_stops causes.Form verdict unread h is = inl (unread, h, is)
  unread_stops causes.Section verdict unread h is = inr (inl (unread, h, is))
  unread_stops causes.Header verdict unread h is = absurd h
  unread_stops causes.Literal verdict unread h is = absurd h
  unread_stops causes.Number verdict unread h is = absurd h
  unread_stops causes.Pivot verdict unread h is = absurd h
  unread_stops causes.Clause verdict unread h is = absurd h
  unread_stops causes.Row verdict unread h is = absurd h
  unread_stops causes.NotRefuted verdict unread h is = absurd h

  module _ (heading : H) (inside : List ℕ) (count : ℕ) (rest : List ℕ) (reads : subject.Reads text heading) (i : IsSilentInside subject behind inside count rest) where
    abbrev here : SilentSection H
    here = record { heading = heading; line = line; texts = lines_in inside }

    next_here : IsNextSection subject line (text ∷ lines_in behind) here (lines_in rest)
    next_here = record {
      text = text;
      parts = ap (λ (ts : List (List ℕ)). text ∷ ts) i.parted;
      line_is = refl;
      reads = reads;
      inside = i.unread;
      next = i.next;
    }

    pub not_right_stops : (verdict : SilentVerdict) → (IsRightAt subject place heading → ⊥) → verdict ≡ verdicts.Refused line causes.Section →
        IsStopped subject (PassesNoLimit subject) place line (text ∷ lines_in behind) verdict
    not_right_stops verdict wrong is = inr (inr (here, lines_in rest, next_here, inl (wrong, is)))

    module _ (right : IsRightAt subject place heading) where
      pub pass_fault : (fault : Fault) → IsRefusedBy (subject.limit heading) fault → IsPassFault subject place line (text ∷ lines_in behind) fault
      pass_fault (faults.Refused refusal) is = (here, lines_in rest, next_here, right, is)
      pass_fault faults.OutOfMemory is = tt

      module _ (form : Axioms) (made : form ≡ subject.axioms heading) (within : subject.limit heading ≡ None) (finding : Finding)
          (found : IsFound (as_text false) form form.clauses 0 (line + 1) (lines_in inside) finding) where
        found_here : IsFound (as_text false) (subject.axioms heading) ((subject.axioms heading).clauses) 0 (line + 1) (lines_in inside) finding
        found_here = subst (λ (a : Axioms). IsFound (as_text false) a a.clauses 0 (line + 1) (lines_in inside) finding) made found

        pub wrong_stops : (verdict : SilentVerdict) → refused_for finding ≡ Some verdict →
            IsStopped subject (PassesNoLimit subject) place line (text ∷ lines_in behind) verdict
        wrong_stops verdict is = inr (inr (here, lines_in rest, next_here, inr (right, within, (finding, found_here, is))))

        pub right_goes : (others : Bor (List ℕ)) → others.now ≡ rest → (closes : Bool) → closes ≡ subject.closes heading → refused_for finding ≡ None →
            IsPassedFrom subject place line (text ∷ lines_in behind) (passeds.Goes closes count others)
        right_goes others same closes closed is = (
          here,
          subst (λ (r : List ℕ). IsNextSection subject line (text ∷ lines_in behind) here (lines_in r)) (sym same) next_here,
          (right, within, (finding, found_here, is)),
          closed,
          i.counted,
        )

-- ---- sections one after another

module _ {H : Type 0} (subject : SilentSubject H) (Passes : H → Type 0) (section : SilentSection H) (behind : List (List ℕ)) (last : Place) (empty : IsEmptySection subject Passes last section) where
  leads_more : (place : Place) (line : ℕ) (texts : List (List ℕ)) (sections : List (SilentSection H)) (after : ℕ) (rest : List (List ℕ)) →
      LeadsTo subject Passes place line texts sections last after rest → IsNextSection subject after rest section behind →
      LeadsTo subject Passes place line texts (sections ++ section ∷ []) (place_behind subject last section.heading) (after + 1 + length section.texts) behind
  leads_more place line texts [] after rest (same_place, same_line, same) next = (
    behind,
    subst (λ (n : ℕ). IsNextSection subject n texts section behind) same_line
        (subst (λ (ts : List (List ℕ)). IsNextSection subject after ts section behind) same next),
    subst (λ (p : Place). IsEmptySection subject Passes p section) same_place empty,
    (ap (λ (p : Place). place_behind subject p section.heading) same_place, ap (λ (n : ℕ). n + 1 + length section.texts) same_line, refl),
  )
  leads_more place line texts (first ∷ sections) after rest (between, is_next, is_empty, more) next =
      (between, is_next, is_empty, leads_more (place_behind subject place first.heading) (line + 1 + length first.texts) between sections after rest more next)

pub record SilentSoFar {H : Type 0} (subject : SilentSubject H) (texts : List (List ℕ)) (place : Place) (line : ℕ) (rest : List ℕ) : Type 0 where
  pub sections : List (SilentSection H)
  pub leads : LeadsTo subject (PassesNoLimit subject) first_place 2 texts sections place line (lines_in rest)

-- the numbers of the lines and of the sections so far
pub record AreFewSoFar (count line : ℕ) (rest : List ℕ) : Type 0 where
  pub least : 2 ≤ line
  pub few : line + length rest ≤ 268435458
  pub fewer : count ≤ line

pub silent_begun : {H : Type 0} (subject : SilentSubject H) (body : List ℕ) → SilentSoFar subject (lines_in body) first_place 2 body
silent_begun subject body = record { sections = []; leads = (refl, refl, refl) }

pub few_begun : (body : List ℕ) → length body ≤ 268435456 → AreFewSoFar 0 2 body
few_begun body few = record { least = omega arith; few = omega arith; fewer = omega arith }

module _ (count line : ℕ) (rest : List ℕ) (h : AreFewSoFar count line rest) (text behind : List ℕ) (cut : IsFirstLine rest text behind) where
  pub cut_few : (length behind ≤ 268435456) × (line ≤ 268435457)
  cut_few =
      let e = ap length cut.parts ∙ length-append text behind in
      let some = cut.some in
      let f = h.few in
      let l = h.least in
      (omega arith, omega arith)

  module _ (passed : Passed) (closes : Bool) (more : ℕ) (others : Bor (List ℕ)) (is : passed ≡ passeds.Goes closes more others) (shorter : IsShorter (length behind) passed) where
    pub passed_shorter : length others.now < length rest
    passed_shorter =
        let less : more + length others.now ≤ length behind = subst (IsShorter (length behind)) is shorter in
        let e = ap length cut.parts ∙ length-append text behind in
        let some = cut.some in
        omega arith

    pub few_more : AreFewSoFar (count + 1) (line + 1 + more) others.now
    few_more =
        let less : more + length others.now ≤ length behind = subst (IsShorter (length behind)) is shorter in
        let e = ap length cut.parts ∙ length-append text behind in
        let some = cut.some in
        let f = h.few in
        let g = h.fewer in
        let l = h.least in
        record { least = omega arith; few = omega arith; fewer = omega arith }

module _ {H : Type 0} (subject : SilentSubject H) (texts : List (List ℕ)) (place : Place) (line : ℕ) (rest : List ℕ) (h : SilentSoFar subject texts place line rest) where
  pub silent_ends : length rest ≡ 0 → (verdict : SilentVerdict) → verdict ≡ ended_at subject place line → IsSilentVerdictBehind subject (PassesNoLimit subject) texts verdict
  silent_ends none verdict is = (
    h.sections,
    place,
    line,
    lines_in rest,
    h.leads,
    subst (λ (t : List ℕ). IsStopped subject (PassesNoLimit subject) place line (lines_in t) verdict) (sym (nil_from_length rest none)) is,
  )

  module _ (text behind : List ℕ) (cut : IsFirstLine rest text behind) where
    pub silent_more : (passed : Passed) (closes : Bool) (more : ℕ) (others : Bor (List ℕ)) → passed ≡ passeds.Goes closes more others →
        IsPassedFrom subject place line (text ∷ lines_in behind) passed →
        SilentSoFar subject texts (record { before = place.before + 1; is_closed = closes }) (line + 1 + more) others.now
    silent_more passed closes more others is from =
        let (section, next, empty, closed, lines) : IsPassedFrom subject place line (text ∷ lines_in behind) (passeds.Goes closes more others) =
        subst (IsPassedFrom subject place line (text ∷ lines_in behind)) is from in
        record {
          sections = h.sections ++ section ∷ [];
          leads = subst (λ (c : Bool). LeadsTo subject (PassesNoLimit subject) first_place 2 texts (h.sections ++ section ∷ []) (record { before = place.before + 1; is_closed = c })
              (line + 1 + more) (lines_in others.now)) (sym closed)
              (subst (λ (n : ℕ). LeadsTo subject (PassesNoLimit subject) first_place 2 texts (h.sections ++ section ∷ []) (place_behind subject place section.heading) (line + 1 + n)
              (lines_in others.now)) (sym lines)
              (leads_more subject (PassesNoLimit subject) section (lines_in others.now) place empty first_place 2 texts h.sections line (lines_in rest) h.leads
              (subst (λ (ts : List (List ℕ)). IsNextSection subject line ts section (lines_in others.now)) (sym cut.lines) next)));
        }

    pub silent_stops : (passed : Passed) (verdict : SilentVerdict) → passed ≡ passeds.Stops verdict → IsPassedFrom subject place line (text ∷ lines_in behind) passed →
        IsSilentVerdictBehind subject (PassesNoLimit subject) texts verdict
    silent_stops passed verdict is from = (
      h.sections,
      place,
      line,
      lines_in rest,
      h.leads,
      subst (λ (ts : List (List ℕ)). IsStopped subject (PassesNoLimit subject) place line ts verdict) (sym cut.lines)
          (subst (IsPassedFrom subject place line (text ∷ lines_in behind)) is from),
    )

    pub silent_past : (fault : Fault) → IsPassFault subject place line (text ∷ lines_in behind) fault → IsBehindFault subject texts fault
    silent_past (faults.Refused refusal) (section, after, next, right, limit) = record {
      sections = h.sections;
      place = place;
      line = line;
      rest = lines_in rest;
      leads = h.leads;
      section = section;
      behind = after;
      next = subst (λ (ts : List (List ℕ)). IsNextSection subject line ts section after) (sym cut.lines) next;
      right = right;
      limit = limit;
    }
    silent_past faults.OutOfMemory fault = tt

-- ---- the header

module _ {H : Type 0} (subject : SilentSubject H) (bytes : List ℕ) where
  pub nothing_there : (Passes : H → Type 0) (verdict : SilentVerdict) → length bytes ≡ 0 → verdict ≡ verdicts.Refused 1 causes.Header →
      IsSilentVerdictOf subject Passes (lines_in bytes) verdict
  nothing_there Passes verdict nil is =
      subst (λ (t : List ℕ). IsSilentVerdictOf subject Passes (lines_in t) verdict) (sym (nil_from_length bytes nil)) is

  module _ (text body : List ℕ) (cut : IsFirstLine bytes text body) where
    pub other_header : (Passes : H → Type 0) (verdict : SilentVerdict) → text ≢ subject.header → verdict ≡ verdicts.Refused 1 causes.Header →
        IsSilentVerdictOf subject Passes (lines_in bytes) verdict
    other_header Passes verdict other is = subst (λ (ts : List (List ℕ)). IsSilentVerdictOf subject Passes ts verdict) (sym cut.lines) (inl (other, is))

    pub behind_header : text ≡ subject.header → (Passes : H → Type 0) (verdict : SilentVerdict) → IsSilentVerdictBehind subject Passes (lines_in body) verdict →
        IsSilentVerdictOf subject Passes (lines_in bytes) verdict
    behind_header same Passes verdict is = subst (λ (ts : List (List ℕ)). IsSilentVerdictOf subject Passes ts verdict) (sym cut.lines) (inr (same, is))

    pub fault_behind : text ≡ subject.header → (fault : Fault) → IsBehindFault subject (lines_in body) fault → IsSilentFault subject bytes fault
    fault_behind same (faults.Refused refusal) is = (lines_in body, cut.lines ∙ ap (λ (t : List ℕ). t ∷ lines_in body) same, is)
    fault_behind same faults.OutOfMemory is = tt

-- ---- a verdict within the limits is the verdict

module _ {H : Type 0} (subject : SilentSubject H) where
  leads_weaker : (place : Place) (line : ℕ) (texts : List (List ℕ)) (sections : List (SilentSection H)) (last : Place) (after : ℕ) (rest : List (List ℕ)) →
      LeadsTo subject (PassesNoLimit subject) place line texts sections last after rest → LeadsTo subject (λ _. Unit {0}) place line texts sections last after rest
  leads_weaker place line texts [] last after rest h = h
  leads_weaker place line texts (first ∷ sections) last after rest (between, next, (right, within, found), more) =
      (between, next, (right, tt, found), leads_weaker (place_behind subject place first.heading) (line + 1 + length first.texts) between sections last after rest more)

  stopped_weaker : (place : Place) (line : ℕ) (texts : List (List ℕ)) (verdict : SilentVerdict) → IsStopped subject (PassesNoLimit subject) place line texts verdict →
      IsStopped subject (λ _. Unit {0}) place line texts verdict
  stopped_weaker place line [] verdict h = h
  stopped_weaker place line (text ∷ texts) verdict (inl h) = inl h
  stopped_weaker place line (text ∷ texts) verdict (inr (inl h)) = inr (inl h)
  stopped_weaker place line (text ∷ texts) verdict (inr (inr (section, behind, next, inl h))) = inr (inr (section, behind, next, inl h))
  stopped_weaker place line (text ∷ texts) verdict (inr (inr (section, behind, next, inr (right, within, found)))) =
      inr (inr (section, behind, next, inr (right, tt, found)))

  verdict_weaker : (texts : List (List ℕ)) (verdict : SilentVerdict) → IsSilentVerdictOf subject (PassesNoLimit subject) texts verdict →
      IsSilentVerdictOf subject (λ _. Unit {0}) texts verdict
  verdict_weaker [] verdict h = h
  verdict_weaker (text ∷ texts) verdict (inl h) = inl h
  verdict_weaker (text ∷ texts) verdict (inr (same, (sections, last, line, rest, leads, stopped))) =
      inr (same, (sections, last, line, rest, leads_weaker first_place 2 texts sections last line rest leads, stopped_weaker last line rest verdict stopped))

-- ---- the answers

module _ {H : Type 0} (subject : SilentSubject H) (Passes : H → Type 0) (bytes : List ℕ) (verdict : SilentVerdict) (refused : verdict ≡ verdicts.Refused 1 causes.Header) where
  pub no_header : length bytes ≡ 0 → IsSilentVerdictOf subject Passes (lines_in bytes) verdict
  no_header none = subst (λ (t : List ℕ). IsSilentVerdictOf subject Passes (lines_in t) verdict) (sym (nil_from_length bytes none)) refused

  pub wrong_header : (text body : List ℕ) → IsFirstLine bytes text body → text ≢ subject.header → IsSilentVerdictOf subject Passes (lines_in bytes) verdict
  wrong_header text body cut other = subst (λ (ts : List (List ℕ)). IsSilentVerdictOf subject Passes ts verdict) (sym cut.lines) (inl (other, refused))

module _ {H : Type 0} (subject : SilentSubject H) (bytes text body : List ℕ) (cut : IsFirstLine bytes text body) (same : text ≡ subject.header) where
  pub ok_within : (r : Result SilentVerdict Fault) → IfOk r (IsSilentVerdictBehind subject (PassesNoLimit subject) (lines_in body)) →
      IfOk r (IsSilentVerdictOf subject (PassesNoLimit subject) (lines_in bytes))
  ok_within (Ok verdict) is = behind_header subject bytes text body cut same (PassesNoLimit subject) verdict is
  ok_within (Err fault) is = tt

  pub ok_verdict : (r : Result SilentVerdict Fault) → IfOk r (IsSilentVerdictBehind subject (PassesNoLimit subject) (lines_in body)) →
      IfOk r (IsSilentVerdictOf subject (λ _. Unit {0}) (lines_in bytes))
  ok_verdict (Ok verdict) is = verdict_weaker subject (lines_in bytes) verdict (behind_header subject bytes text body cut same (PassesNoLimit subject) verdict is)
  ok_verdict (Err fault) is = tt

  pub err_fault : (r : Result SilentVerdict Fault) → IfErr r (IsBehindFault subject (lines_in body)) → IfErr r (IsSilentFault subject bytes)
  err_fault (Ok verdict) is = tt
  err_fault (Err fault) is = fault_behind subject bytes text body cut same fault is
