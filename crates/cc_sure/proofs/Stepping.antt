-- A turn of a run on certain and possible atoms is a step of it.
use Rattle.std.proofs.Common.{◌≡◌, ◌≢◌, ◌∙◌, refl, subst, sym, ℕ, ◌<◌, false, true, arith}
use Rattle.std.specs.List.{AllByRecursion}
use Rattle.std.specs.Prelude.{is_some}
use Rattle.cc_defs.specs.Description.{Description}
use Rattle.cc_defs.specs.LogTexts.{IsFormed}
use Rattle.cc_defs.specs.Resolved.{Query}
use Rattle.cc_sure.specs.Accepted.{IsWritableTold}
use Rattle.cc_sure.specs.declared.phase.Phase.{Phase}
use Rattle.cc_sure.specs.declared.phase.Phase.TheVariants as phases
use Rattle.cc_sure.specs.declared.turn.SureStep.{SureStep}
use Rattle.cc_sure.specs.declared.turn.SureTurn.{SureTurn}
use Rattle.cc_sure.specs.declared.turn.SureTurn.TheVariants as turns
use Rattle.cc_sure.specs.SureRuns.{SureRun, sure_horizon}
use Rattle.cc_sure.specs.Sures.{Awaits, GoesOn, HasMore, IsFewTurn, IsGoodTurn, IsSame, IsShortTurn, IsSureOf, Stands, SureView, TellsNext, left_of}
use Rattle.cc_sure.specs.SureSteps.{IsAbout, IsFitStep, StandsAt, Steps, SureSubject, is_last}
use Rattle.cc_sure.specs.SureTold.{SureTold}
use Rattle.cc_sure.proofs.EventsGrow.{all_more}
use Rattle.cc_sure.proofs.Fitting.{turn_fits}
use Rattle.cc_sure.proofs.Saying.{Says, is_of}
use Rattle.cc_turns.specs.Turns.{Behind}

-- ---- where the run ends

going_on : (run : SureRun) (phase : Phase) → phase ≢ phases.Ended → Awaits run phase → is_some run.ending ≡ false
going_on run phases.Looking more awaits = awaits.0
going_on run (phases.Asking form) more awaits = awaits.0
going_on run phases.Ended more awaits = absurd (more refl)

has_ended : (run : SureRun) (phase : Phase) → phase ≡ phases.Ended → Awaits run phase → is_some run.ending ≡ true
has_ended run phase over awaits = subst (Awaits run) over awaits

ends_last : (new : SureView) (turn : SureTurn) (after : SureRun) → GoesOn new turn → Awaits after new.phase → is_some after.ending ≡ is_last turn
ends_last new (turns.NoHistory empty) after goes awaits = going_on after new.phase goes awaits
ends_last new (turns.Example number row) after goes awaits = going_on after new.phase goes awaits
ends_last new (turns.Impossible position value lines) after goes awaits = going_on after new.phase goes awaits
ends_last new (turns.Answers position answers) after goes awaits = going_on after new.phase goes awaits
ends_last new turns.Complete after goes awaits = has_ended after new.phase goes awaits
ends_last new turns.NoneAtAll after goes awaits = has_ended after new.phase goes awaits
ends_last new (turns.Spent atom lines) after goes awaits = has_ended after new.phase goes awaits

-- ---- what it says can be written

written : (d : Description) (q : Query) (horizon : ℕ) (turn : SureTurn) (told : SureTold) → Says turn told → IsShortTurn turn → IsFewTurn turn → IsGoodTurn d q horizon turn →
    IsWritableTold d q horizon told
written d q horizon (turns.NoHistory empty) told is short few good = subst (IsWritableTold d q horizon) (sym is) tt
written d q horizon (turns.Example number row) told is short few good = subst (IsWritableTold d q horizon) (sym is) tt
written d q horizon (turns.Impossible position value lines) told (section, lines_are, is) short few good =
    let most = few.0 in let most_value = few.1 in
    subst (IsWritableTold d q horizon) (sym is) (omega arith, omega arith, subst (AllByRecursion IsFormed) lines_are short, good)
written d q horizon (turns.Answers position answers) told is short few good = subst (IsWritableTold d q horizon) (sym is) tt
written d q horizon turns.Complete told is short few good = subst (IsWritableTold d q horizon) (sym is.1) tt
written d q horizon turns.NoneAtAll told is short few good = subst (IsWritableTold d q horizon) (sym is.1) tt
written d q horizon (turns.Spent atom lines) told is short few good = subst (IsWritableTold d q horizon) (sym is.4) tt

-- ---- a step

module _ (old new : SureView) (turn : SureTurn) (horizon : ℕ) (at : horizon ≡ new.horizon) (short : IsShortTurn turn) (few : IsFewTurn turn)
    (tells : (d : Description) (q : Query) (run : SureRun) → IsSureOf old d q → Stands d q old run → TellsNext d q new run turn) where
  abbrev step : SureStep
  step = record { horizon = horizon; turn = turn }

  pub behind : HasMore old → IsSame old new → left_of new < left_of old → GoesOn new turn → ((d : Description) (q : Query) → IsSureOf old d q → IsGoodTurn d q new.horizon turn) →
      Behind IsAbout StandsAt Steps left_of old new step
  behind more same less goes good = record { less = less; tells = each }
    where
      each : (of : SureSubject) (run : SureRun) → IsAbout old of → StandsAt old of run → (after : SureRun) × Steps of run step after × StandsAt new of after
      each of run about here =
          let d = of.description in let q = of.query in
          let (after, told, is, all, next) = tells d q run about.sure_of here.stands in
          let fits = written d q (sure_horizon q after) turn told (is_of turn told is) short few
          (subst (λ (h : ℕ). IsGoodTurn d q h turn) next.at.horizon (good d q about.sure_of)) in (
            after,
            record {
              open_yet = going_on run old.phase more here.stands.awaits;
              told = told;
              is = is;
              all = all;
              horizon = at ∙ next.at.horizon;
              ended = ends_last new turn after goes next.awaits;
            },
            record {
              stands = next;
              writable = all_more q run after told here.stands.fair.begun next.fair.begun all (IsWritableTold d q) (λ h empty. tt) here.writable fits;
            },
          )

  pub fits : (of : SureSubject) (run : SureRun) → IsAbout old of → StandsAt old of run → IsFitStep old.signature step
  fits of run about here =
      let (after, told, is, all, next) = tells of.description of.query run about.sure_of here.stands in
      record {
        short = short;
        few = few;
        rows = turn_fits of.description of.query new.budget old.signature about.sure_of.laws.signature_is _ after horizon turn told next.fair (at ∙ next.at.horizon) (is_of turn told is) all;
      }
