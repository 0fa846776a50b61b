-- Which headings of rivals are right, and what an accepted log proves.
use Rattle.std.proofs.Common.{◌≡◌, ◌∙◌, ℕ, ◌≤◌, List, Option, None, Result, Ok, Err, IfErr, OnOk, sym, subst, ap, arith}
use Rattle.std.specs.Prelude.{◌↔◌, Bool, IsTrue}
use Rattle.std.specs.Option.{option_or}
use Rattle.cc_check.specs.declared.silent.SilentVerdict.{SilentVerdict}
use Rattle.cc_check.specs.Laws.{SilentSectionsHaveNoRows}
use Rattle.cc_check.specs.Silent.{IsSilentVerdict}
use Rattle.cc_defs.specs.declared.lists.Key.{Key}
use Rattle.cc_defs.specs.declared.refusal.Fault.{Fault}
use Rattle.cc_defs.specs.declared.refusal.Fault.TheVariants as faults
use Rattle.cc_defs.specs.declared.refusal.Refusal.{Refusal}
use Rattle.cc_defs.specs.GroundLaws.{PlainGroundQuery, StandsForQuery}
use Rattle.cc_defs.specs.Refusals.{IsRefusedBy}
use Rattle.cc_defs.specs.Resolved.{Query}
use Rattle.cc_defs.specs.Sections.{Axioms}
use Rattle.cc_defs.specs.Signatures.{Signature}
use Rattle.cc_silent.specs.GeneralLogs.{IsCandidateKey, ProvesHistories, general_subject, rivals_heading}
use Rattle.cc_silent.proofs.AcceptedSilent.{accepted_refutes}
use Rattle.cc_silent.proofs.SureChecking.{range_stands}
use Rattle.cc_silent.proofs.RivalHeadings.{no_header, one_heading}
use Rattle.cc_rivals.specs.Wides.{AreWideLawsFor, AreWideLawsOf, HistoriesHaveNoRivals, RivalListsTellRivals, candidates_refusal, rivals_refusal}
use Rattle.cc_wide.specs.declared.ground.WideGroundLaw.{WideGroundLaw}
use Rattle.cc_wide.specs.WideLaws.{WideDescription, frame}
use Rattle.cc_wide.specs.WideRules.{IsCandidate}

-- ---- which headings are right

module _ (query : PlainGroundQuery) (w : WideDescription) (q : Query) (stands : StandsForQuery query (frame w) q) (key : Key) where
  pub right_so : (query.lo ≤ key.horizon) × (key.horizon ≤ query.hi) → (told : Bool) → IsTrue told ↔ IsCandidate w q key.horizon key.row → IsTrue told ↔ IsCandidateKey w q key
  right_so (least, most) told is =
      let range = range_stands query (frame w) q stands in let lo = range.0 in let hi = range.1 in (
        (λ so. record { least = omega arith; most = omega arith; candidate = is.0 so }),
        (λ right. is.1 right.candidate),
      )

-- ---- which limit comes first

module _ (w : WideDescription) (q : Query) (key : Key) where
  pub first_refused : (fault : Fault) → IsRefusedBy (candidates_refusal w q key.horizon) fault → IsRefusedBy ((general_subject w q).limit key) fault
  first_refused (faults.Refused refusal) is = ap (λ (o : Option Refusal). option_or o (rivals_refusal w key.horizon key.row)) is
  first_refused faults.OutOfMemory is = tt

  module _ (none : candidates_refusal w q key.horizon ≡ None) where
    limit_is : (general_subject w q).limit key ≡ rivals_refusal w key.horizon key.row
    limit_is = ap (λ (o : Option Refusal). option_or o (rivals_refusal w key.horizon key.row)) none

    pub then_within : (r : Result Axioms Fault) → OnOk r (rivals_refusal w key.horizon key.row ≡ None) → OnOk r ((general_subject w q).limit key ≡ None)
    then_within (Ok form) is = limit_is ∙ is
    then_within (Err fault) is = tt

    pub then_refused : (r : Result Axioms Fault) → IfErr r (IsRefusedBy (rivals_refusal w key.horizon key.row)) → IfErr r (IsRefusedBy ((general_subject w q).limit key))
    then_refused (Ok form) is = tt
    then_refused (Err fault) is = subst (λ (o : Option Refusal). IsRefusedBy o fault) (sym limit_is) is

-- ---- what is proved

pub proves : (verdict : SilentVerdict) (signature : Signature) (laws : List WideGroundLaw) (w : WideDescription) (q : Query) (bytes : List ℕ) → SilentSectionsHaveNoRows → HistoriesHaveNoRivals → RivalListsTellRivals →
    AreWideLawsFor signature laws → AreWideLawsOf signature laws w → IsSilentVerdict (general_subject w q) bytes verdict → ProvesHistories w q bytes verdict
proves verdict signature laws w q bytes silent histories tell are of is = λ count accepted key there reads.
    let refuted = accepted_refutes (general_subject w q) silent one_heading no_header bytes verdict is count accepted (rivals_heading key.horizon key.row) there key reads in
    let candidate = refuted.right.candidate in
    (histories w q key.horizon key.row).1 (candidate, λ other rival. refuted.none other (((tell signature laws are w of key.horizon key.row candidate.interprets).rows other).1 rival))
