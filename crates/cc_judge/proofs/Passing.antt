-- What a section in its place does to the verdict of a log.
use Rattle.std.proofs.Common.{◌≡◌, ◌∙◌, ℕ, ◌+◌, ◌<◌, ◌⊎◌, inl, inr, Bool, true, false, not, List, Option, None, Result, Ok, Err, Bor, refl, sym, subst, ap, arith, option_map}
use Rattle.std.specs.Prelude.{IfErr}
use Rattle.std.specs.Result.{IsErrAnd}
use Rattle.std.proofs.lemmas.Bool.{cases_lt}
use Rattle.cc_clauses.specs.Laws.{DenialLeavesOthers, ResolventsAreSound}
use Rattle.cc_clauses.specs.RowsOf.{IsRowOf}
use Rattle.cc_defs.specs.declared.lists.Key.{Key}
use Rattle.cc_defs.specs.declared.log.Cause.{Cause}
use Rattle.cc_defs.specs.declared.log.EndWord.{EndWord}
use Rattle.cc_defs.specs.declared.log.EndWord.TheVariants as words
use Rattle.cc_defs.specs.declared.log.LogVerdict.{LogVerdict}
use Rattle.cc_defs.specs.declared.log.LogVerdict.TheVariants as verdicts
use Rattle.cc_defs.specs.declared.refusal.Fault.{Fault}
use Rattle.cc_defs.specs.declared.refusal.Fault.TheVariants as faults
use Rattle.cc_defs.specs.Description.{Description}
use Rattle.cc_defs.specs.GroundLaws.{PlainGroundQuery, StandsForQuery}
use Rattle.cc_check.specs.Clauses.{reading_as}
use Rattle.cc_defs.specs.Logs.{SectionText, Standing, IsContinued, IsFollowed, IsNext, IsTrailed}
use Rattle.cc_defs.specs.Refusals.{IsRefusedBy}
use Rattle.cc_defs.specs.Resolved.{Query}
use Rattle.cc_defs.specs.Sections.{Axioms, Finding, Right, Trailed, Wrong, IsFound}
use Rattle.cc_form.specs.Forms.{IsAxioms, TellsHistories, asked, form_of}
use Rattle.cc_lists.specs.Horizons.{refusal_at}
use Rattle.cc_lists.specs.Subjects.{AreGoodAxioms, subject_of}
use Rattle.cc_lists.proofs.GoodAxioms.{good_axioms}
use Rattle.cc_judge.specs.declared.standing.Next.{Next}
use Rattle.cc_judge.specs.declared.standing.Next.TheVariants as nexts
use Rattle.cc_judge.specs.declared.standing.Standing.{Standing as Held}
use Rattle.cc_judge.specs.Judging.{AreJudgedWithin, GoesOnBehind, ReachesLimit, limit_of}
use Rattle.cc_judge.specs.Single.{subject_over}
use Rattle.cc_judge.specs.Standings.{Scope, IsBehind, IsBehindFinding, IsBehindTrail, IsJudgedTo, IsOnly, IsPlaced, IsRowDenied, IsSectionFault, row_of, scope_of, scope_over, seen}
use Rattle.cc_judge.proofs.Blocking.{history_row, row_blocked}
use Rattle.cc_judge.proofs.Counting.{moved, trail_stays}
use Rattle.cc_judge.proofs.Placing.{next_of, tells_rows}

-- ---- what follows the end of a section

continued : (Goes : Standing → Type 0) (standing : Standing) (conditions : Bool) (word : EndWord) (blocks line : ℕ) (verdict : LogVerdict) (held : Held) →
    IsBehind standing conditions word blocks line (nexts.Goes held) → Goes (seen held) → IsContinued Goes standing conditions word blocks line verdict
continued Goes standing true words.Empty blocks line verdict held is goes = subst Goes is goes
continued Goes standing false words.Empty blocks line verdict held is goes = subst Goes is goes
continued Goes standing true words.Found blocks line verdict held is goes = subst Goes is goes
continued Goes standing false words.Found blocks line verdict held is goes = absurd cc
continued Goes standing true words.Spent blocks line verdict held is goes = absurd cc
continued Goes standing false words.Spent blocks line verdict held is goes = absurd cc

goes_on : (Goes : Standing → Type 0) (standing : Standing) (conditions : Bool) (word : EndWord) (blocks line : ℕ) (held : Held) →
    IsBehind standing conditions word blocks line (nexts.Goes held) → Goes (seen held) → GoesOnBehind Goes standing conditions word blocks line
goes_on Goes standing true words.Empty blocks line held is goes = subst Goes is goes
goes_on Goes standing false words.Empty blocks line held is goes = subst Goes is goes
goes_on Goes standing true words.Found blocks line held is goes = subst Goes is goes
goes_on Goes standing false words.Found blocks line held is goes = absurd cc
goes_on Goes standing true words.Spent blocks line held is goes = absurd cc
goes_on Goes standing false words.Spent blocks line held is goes = absurd cc

stopped : (Goes : Standing → Type 0) (standing : Standing) (conditions : Bool) (word : EndWord) (blocks line at : ℕ) (reason : Cause) →
    IsBehind standing conditions word blocks line (nexts.Wrong at reason) → IsContinued Goes standing conditions word blocks line (verdicts.Refused at reason)
stopped Goes standing true words.Empty blocks line at reason is = absurd is
stopped Goes standing false words.Empty blocks line at reason is = absurd is
stopped Goes standing true words.Found blocks line at reason is = absurd is
stopped Goes standing false words.Found blocks line at reason is = cc
stopped Goes standing true words.Spent blocks line at reason is = cc
stopped Goes standing false words.Spent blocks line at reason is = cc

trailed : (conditions : Bool) (word : EndWord) (line : ℕ) (because : Cause) (at : ℕ) (reason : Cause) → IsBehindTrail conditions word line because (nexts.Wrong at reason) →
    IsTrailed conditions word line because (verdicts.Refused at reason)
trailed true words.Empty line because at reason is = cc
trailed false words.Empty line because at reason is = cc
trailed true words.Found line because at reason is = cc
trailed false words.Found line because at reason is = cc
trailed true words.Spent line because at reason is = cc
trailed false words.Spent line because at reason is = cc

followed : (Goes : Standing → Type 0) (standing : Standing) (conditions : Bool) (finding : Finding) (at : ℕ) (reason : Cause) →
    IsBehindFinding standing conditions finding (nexts.Wrong at reason) → IsFollowed Goes standing conditions finding (verdicts.Refused at reason)
followed Goes standing conditions (Right word blocks line) at reason is = stopped Goes standing conditions word blocks line at reason is
followed Goes standing conditions (Trailed word line because) at reason is = trailed conditions word line because at reason is
followed Goes standing conditions (Wrong line because) at reason is = cc

module _ (scope : Scope) (standing : Standing) (section : SectionText) where
  pub at_limit : IsNext scope.subject standing section → (fault : Fault) → IsRefusedBy (scope.limit section.conditions section.horizon) fault → IsSectionFault scope standing section fault
  at_limit next (faults.Refused refusal) is = λ sections. (next, inl is)
  at_limit next faults.OutOfMemory is = tt

module _ (sound : ResolventsAreSound) (leaves : DenialLeavesOthers) (scope : Scope) (standing : Standing) (section : SectionText) where
  abbrev axioms : Axioms
  axioms = scope.subject.axioms section.conditions section.horizon

  -- the rows of its horizon are rows of its axioms
  abbrev HasRows : Type 0
  HasRows = (row : List ℕ) → scope.IsAt section.horizon row → IsRowOf axioms.sizes axioms.clauses row

  -- ---- a section that was checked

  denied : IsNext scope.subject standing section → HasRows → (word : EndWord) (blocks line : ℕ) (held : Held) →
      IsFound (reading_as section.version true) axioms axioms.clauses 0 (section.line + 1) section.texts (Right word blocks line) →
      IsBehind standing section.conditions word blocks line (nexts.Goes held) →
      (horizon : ℕ) (row : List ℕ) → horizon < held.horizon → scope.IsAt horizon row → (horizon < standing.horizon) ⊎ IsRowDenied section horizon row
  denied next has word blocks line held found is horizon row less there =
      let ends = moved standing section.conditions word blocks line held is in
      elim ends.1 [
        | inl same ↦ inl (omega arith)
        | inr up ↦ (let higher = up.1 in elim (cases_lt horizon standing.horizon) [
          | inl low ↦ inl low
          | inr most ↦ (let at : section.horizon ≡ horizon = next.horizon ∙ omega arith in
              inr (
                at,
                row_blocked sound leaves axioms section.version (section.line + 1) section.texts word blocks line found up.0 row
                    (has row (subst (λ (n : ℕ). scope.IsAt n row) (sym at) there)),
              ))
        ])
      ]

  pub in_place : IsNext scope.subject standing section → scope.limit section.conditions section.horizon ≡ None → scope.Are section.conditions section.horizon → HasRows → (finding : Finding) (next : Next) →
      IsFound (reading_as section.version true) axioms axioms.clauses 0 (section.line + 1) section.texts finding →
      IsBehindFinding standing section.conditions finding next → IsJudgedTo scope standing section next
  in_place at none good has finding (nexts.Wrong other because) found is = λ sections.
      inr (
        at,
        none,
        good,
        (
          finding,
          found,
          followed (λ after. AreJudgedWithin scope.subject scope.limit scope.Are after sections (verdicts.Refused other because)) standing section.conditions finding other because is,
        ),
      )
  in_place at none good has (Wrong line reason) (nexts.Goes held) found is = absurd cc
  in_place at none good has (Trailed word line reason) (nexts.Goes held) found is = absurd (trail_stays section.conditions word line reason held is)
  in_place at none good has (Right word blocks line) (nexts.Goes held) found is = record {
    within = λ sections verdict behind.
        inr (
          at,
          none,
          good,
          (
            Right word blocks line,
            found,
            continued (λ after. AreJudgedWithin scope.subject scope.limit scope.Are after sections verdict) standing section.conditions word blocks line verdict held is behind,
          ),
        );
    limited = λ sections refusal behind. (
      at,
      inr (
        none,
        (
          Right word blocks line,
          found,
          goes_on (λ after. ReachesLimit scope.subject scope.limit after sections refusal) standing section.conditions word blocks line held is behind,
        ),
      ),
    );
    denied = denied at has word blocks line held found is;
  }

-- ---- a section over axioms alone

only_next : (form : Axioms) (standing : Standing) (section : SectionText) → IsOnly standing section.conditions section.horizon → IsNext (subject_over form) standing section
only_next form standing section only =
    let first = only.2 in record { conditions = only.0; horizon = only.1 ∙ sym only.2; within = omega arith }

pub judged_over : (sound : ResolventsAreSound) (leaves : DenialLeavesOthers) (form : Axioms) (standing : Standing) (section : SectionText) (conditions : Bool) (finding : Finding) (next : Next) →
    conditions ≡ section.conditions → IsOnly standing section.conditions section.horizon →
    IsFound (reading_as section.version true) form form.clauses 0 (section.line + 1) section.texts finding → IsBehindFinding standing conditions finding next →
    IsJudgedTo (scope_over form) standing section next
judged_over sound leaves form standing section conditions finding next same only found behind =
    in_place sound leaves (scope_over form) standing section (only_next form standing section only) refl tt (λ row is. is) finding next found
    (subst (λ (b : Bool). IsBehindFinding standing b finding next) same behind)

-- ---- with what a call was given

pub as_err : {T : Type 0} (P : Fault → Type 0) (result : Result T Fault) (fault : Fault) → IsErrAnd result (λ given. given ≡ fault) → P fault → IfErr result P
as_err P (Ok x) fault same holds = tt
as_err P (Err given) fault same holds = subst P (sym same) holds

-- the axioms of a form are good, by what its type keeps
pub form_good : (form now : Axioms) → form ≡ now → IsAxioms form → AreGoodAxioms now
form_good form now same is =
    let done : Result (Unit {0}) (Unit {0}) = Ok tt in subst AreGoodAxioms same (good_axioms done form form.clauses form.variables refl refl is.each is.over is.least)

abbrev key_of : Option (Bor Key) → Option Key
key_of after = option_map (λ (key : Bor Key). key.now) after

pub section_at_limit : (query : PlainGroundQuery) (d : Description) (q : Query) (stands : StandsForQuery query d q) (after : Option (Bor Key)) (standing : Standing) (section : SectionText)
    (horizon : ℕ) (conditions : Bool) (fault : Fault) → horizon ≡ section.horizon → conditions ≡ section.conditions → IsPlaced query (key_of after) standing section.conditions section.horizon →
    IsRefusedBy (refusal_at d q horizon (not conditions) (key_of after)) fault → IsSectionFault (scope_of d q (key_of after)) standing section fault
section_at_limit query d q stands after standing section horizon conditions fault horizon_is conditions_is placed is =
    at_limit (scope_of d q (key_of after)) standing section (next_of query d q stands (key_of after) standing section placed) fault
    (subst (λ (b : Bool). IsRefusedBy (refusal_at d q section.horizon (not b) (key_of after)) fault) conditions_is
    (subst (λ (n : ℕ). IsRefusedBy (refusal_at d q n (not conditions) (key_of after)) fault) horizon_is is))

pub section_judged : (sound : ResolventsAreSound) (leaves : DenialLeavesOthers) (query : PlainGroundQuery) (d : Description) (q : Query) (stands : StandsForQuery query d q)
    (after : Option (Bor Key)) (standing : Standing) (section : SectionText) (horizon : ℕ) (conditions again : Bool) (form : Axioms) (finding : Finding) (next : Next) →
    horizon ≡ section.horizon → conditions ≡ section.conditions → again ≡ section.conditions → IsPlaced query (key_of after) standing section.conditions section.horizon →
    form ≡ form_of d q horizon (not conditions) (key_of after) → refusal_at d q horizon (not conditions) (key_of after) ≡ None → AreGoodAxioms form →
    TellsHistories d (asked (not conditions) q) horizon (option_map (λ (key : Bor Key). key.now.row) after) (form_of d q horizon (not conditions) (key_of after)) →
    IsFound (reading_as section.version true) form form.clauses 0 (section.line + 1) section.texts finding → IsBehindFinding standing again finding next → IsJudgedTo (scope_of d q (key_of after)) standing section next
section_judged sound leaves query d q stands after standing section horizon conditions again form finding next horizon_is conditions_is again_is placed made none good tells found behind =
    let form_is : form ≡ form_of d q section.horizon (not section.conditions) (key_of after) =
    made ∙ ap (λ (n : ℕ). form_of d q n (not conditions) (key_of after)) horizon_is ∙ ap (λ (b : Bool). form_of d q section.horizon (not b) (key_of after)) conditions_is in
    let found_here = subst (λ (f : Axioms). IsFound (reading_as section.version true) f f.clauses 0 (section.line + 1) section.texts finding) form_is found in
    let tells_there = subst (λ (n : ℕ). TellsHistories d (asked (not conditions) q) n (option_map (λ (key : Bor Key). key.now.row) after) (form_of d q n (not conditions) (key_of after))) horizon_is tells in
    let tells_here = subst (λ (b : Bool). TellsHistories d (asked (not b) q) section.horizon (option_map (λ (key : Bor Key). key.now.row) after) (form_of d q section.horizon (not b) (key_of after))) conditions_is tells_there in
    let none_here : limit_of d q (key_of after) section.conditions section.horizon ≡ None =
    subst (λ (b : Bool). refusal_at d q section.horizon (not b) (key_of after) ≡ None) conditions_is
    (subst (λ (n : ℕ). refusal_at d q n (not conditions) (key_of after) ≡ None) horizon_is none) in
    in_place sound leaves (scope_of d q (key_of after)) standing section (next_of query d q stands (key_of after) standing section placed) none_here (subst AreGoodAxioms form_is good)
    (history_row d q (not section.conditions) section.horizon (row_of (key_of after)) (form_of d q section.horizon (not section.conditions) (key_of after))
    (tells_rows d q section.horizon (not section.conditions) after tells_here)) finding next found_here
    (subst (λ (b : Bool). IsBehindFinding standing b finding next) again_is behind)
