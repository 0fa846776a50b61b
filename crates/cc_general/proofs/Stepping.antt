-- A turn of a run over candidates is a step of it.
use Rattle.std.proofs.Common.{◌∙◌, subst, sym, ℕ, ◌<◌, List, Option, Result, Ok, Err, IfErr, IfOk, OnOk}
use Rattle.cc_defs.specs.declared.refusal.Fault.{Fault}
use Rattle.cc_defs.specs.declared.refusal.Fault.TheVariants as faults
use Rattle.cc_defs.specs.GroundLaws.{PlainGroundQuery, StandsForQuery}
use Rattle.cc_defs.specs.Resolved.{Query}
use Rattle.cc_defs.specs.Signatures.{Signature}
use Rattle.cc_general.specs.declared.turn.GeneralTurn.{GeneralTurn}
use Rattle.cc_general.specs.GeneralRuns.{GeneralRun, IsFairGeneral, ReachesGeneralLimit}
use Rattle.cc_general.specs.Generals.{GeneralView, IsGeneralOf, IsGoodEvent, IsRightFault, IsSame, IsWritable, Stands, TellsNext, left_of}
use Rattle.cc_general.specs.GeneralSteps.{GeneralSubject, IsAbout, StandsAt, Steps, fair_as}
use Rattle.cc_general.proofs.Writing.{more_written}
use Rattle.cc_rivals.specs.Wides.{AreWideLawsOf}
use Rattle.cc_turns.specs.Turns.{Behind, IsFaultBy}
use Rattle.cc_wide.specs.declared.ground.WideGroundLaw.{WideGroundLaw}
use Rattle.cc_wide.specs.WideLaws.{WideDescription, frame}

general_as : (old new : GeneralView) (w : WideDescription) (q : Query) → IsSame old new → IsGeneralOf old w q → IsGeneralOf new w q
general_as old new w q same is = record {
  laws = subst (λ (s : Signature). AreWideLawsOf s new.laws w) (sym same.signature) (subst (λ (l : List WideGroundLaw). AreWideLawsOf old.signature l w) (sym same.laws) is.laws);
  query = subst (λ (p : PlainGroundQuery). StandsForQuery p (frame w) q) (sym same.query) is.query;
}

about_same : (old new : GeneralView) (of : GeneralSubject) → IsSame old new → IsAbout old of → IsAbout new of
about_same old new of same about = record {
  general_of = general_as old new of.description of.query same about.general_of;
  count = same.count ∙ about.count;
  budget = same.budget ∙ about.budget;
}

behind : (old new : GeneralView) (turn : GeneralTurn) → IsSame old new → left_of new < left_of old → IsWritable old.signature turn →
    ((w : WideDescription) (q : Query) → IsGeneralOf old w q → IsGoodEvent w turn) →
    ((w : WideDescription) (q : Query) (run : GeneralRun) → IsGeneralOf old w q → Stands w q old run → TellsNext w q new run turn) →
    Behind IsAbout StandsAt Steps left_of old new turn
behind old new turn same less writable good tells = record { less = less; tells = each }
  where
    each : (of : GeneralSubject) (run : GeneralRun) → IsAbout old of → StandsAt old of run → (after : GeneralRun) × Steps of run turn after × StandsAt new of after
    each of run about here =
        let w = of.description in let q = of.query in
        let (after, open_yet, goes, next) = tells w q run about.general_of here.stands in
        let fair : IsFairGeneral w q of.count of.budget after = fair_as new of after (about_same old new of same about) next.fair in (
          after,
          record { open_yet = open_yet; goes = goes },
          record { stands = next; writable = more_written w q of.count of.budget run old.signature turn after goes fair writable (good w q about.general_of) here.writable },
        )

pub told_behind : (old new : GeneralView) (r : Result GeneralTurn Fault) → IsSame old new → OnOk r (left_of new < left_of old) → IfOk r (IsWritable old.signature) →
    ((w : WideDescription) (q : Query) → IsGeneralOf old w q → IfOk r (IsGoodEvent w)) →
    ((w : WideDescription) (q : Query) (run : GeneralRun) → IsGeneralOf old w q → Stands w q old run → IfOk r (TellsNext w q new run)) →
    IfOk r (Behind IsAbout StandsAt Steps left_of old new)
told_behind old new (Ok turn) same less writable good tells = behind old new turn same less writable good tells
told_behind old new (Err fault) same less writable good tells = tt

-- a refusal is the limit that the run comes to
pub refused_by : (old : GeneralView) (r : Result GeneralTurn Fault) → IfErr r (IsRightFault old) → (of : GeneralSubject) (run : GeneralRun) → IsAbout old of → StandsAt old of run →
    IfErr r (IsFaultBy (ReachesGeneralLimit of.description of.query of.count run))
refused_by old (Ok turn) right of run about here = tt
refused_by old (Err faults.OutOfMemory) right of run about here = tt
refused_by old (Err (faults.Refused refusal)) right of run about here =
    subst (λ (count : Option ℕ). ReachesGeneralLimit of.description of.query count run refusal) about.count (right of.description of.query run about.general_of here.stands)
