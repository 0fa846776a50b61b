-- What a run on certain and possible atoms gives, event by event, and how it ends.
use Rattle.std.proofs.Common.{◌≡◌, ◌∙◌, refl, sym, ap, subst, ℕ, List, [], ◌∷◌, ◌++◌, append_assoc, codes, decimal, flat_map, length, map, Option, Some, None, inl, inr}
use Rattle.std.specs.Prelude.{IsSome, is_some}
use Rattle.cc_defs.specs.Description.{Description}
use Rattle.cc_defs.specs.Events.{of_horizon}
use Rattle.cc_defs.specs.LogTexts.{line_text}
use Rattle.cc_defs.specs.Resolved.{Query}
use Rattle.cc_defs.specs.Runs.{optional, range_of}
use Rattle.cc_defs.specs.Texts.{history_text, key_line}
use Rattle.cc_ports.specs.declared.desk.To.TheVariants as outputs
use Rattle.cc_lists.specs.Sections.{section_lines}
use Rattle.cc_run.specs.Modes.Surely.{EndsSurely, sure_line}
use Rattle.cc_run.specs.Sures.{surely_given}
use Rattle.cc_sure.specs.declared.turn.SureStep.{SureStep}
use Rattle.cc_sure.specs.declared.turn.SureTurn.{SureTurn}
use Rattle.cc_sure.specs.declared.turn.SureTurn.TheVariants as events
use Rattle.cc_silent.specs.Sought.{Sought, Any, With}
use Rattle.cc_silent.specs.SureLogs.{atom_heading, sure_header}
use Rattle.cc_sure.specs.SureRuns.{ReachesSureLimit, SureEnding, Complete, NoneAtAll, Spent, SureRun, settled_examples, sought_next, sure_horizon}
use Rattle.cc_sure.specs.Sures.{IsSureTurn, sought_atom}
use Rattle.cc_sure.specs.SureSteps.{IsRightRun, Steps, SureSubject, is_last}
use Rattle.cc_sure.specs.SureTold.{SureTold, ExampleIs, Ends, none_told, settled_told, sought_heading, sure_lines, sure_told, tried_told}
use Rattle.cc_sure.proofs.EventsGrow.{IsBegun, grows_by}
use Rattle.cc_sure.proofs.Saying.{Says, is_of}
use Rattle.cc_tell.specs.declared.status.Status.{Status}
use Rattle.cc_tell.specs.Givens.{given_to, Given, joined}
use Rattle.cc_tell_modes.specs.RunsTold.{EndsBy, GivesBy}
use Rattle.cc_tell_modes.specs.SureTexts.{ending_line, given_of, heading_of, status_behind}

some_of : {X : Type 0} (a b : X) → Some a ≡ Some b → a ≡ b
some_of a b e = cc

-- ---- what is given of an event is what is told of it

abbrev pub told_at : Description → (horizon : ℕ) → SureTold → Given
told_at d horizon told = record { out = sure_line d horizon told; err = []; log = sure_lines horizon told }

heading_is : (horizon : ℕ) (sought : Sought) → heading_of horizon (sought_atom sought) ≡ sought_heading horizon sought
heading_is horizon Any = refl
heading_is horizon (With position value) = refl

said_given : (d : Description) (horizon : ℕ) (event : SureTurn) (told : SureTold) → Says event told → given_of d horizon event ≡ told_at d horizon told
said_given d horizon (events.NoHistory empty) told is = ap (told_at d horizon) (sym is)
said_given d horizon (events.Example number row) told is =
    ap (given_to outputs.Out) (sym (append_assoc (of_horizon horizon (codes "example " ++ decimal number)) (history_text d horizon row) (key_line horizon row))) ∙ ap (told_at d horizon) (sym is)
said_given d horizon (events.Impossible position value lines) told (section, lines_are, is) =
    ap (λ l. given_to outputs.Log (atom_heading horizon position value ++ flat_map line_text l)) lines_are ∙ ap (told_at d horizon) (sym is)
said_given d horizon (events.Answers position answers) told is = ap (told_at d horizon) (sym is)
said_given d horizon events.Complete told (sought, is) = ap (told_at d horizon) (sym is)
said_given d horizon events.NoneAtAll told (sought, is) = ap (told_at d horizon) (sym is)
said_given d horizon (events.Spent atom lines) told (sought, section, atom_is, lines_are, is) =
    (λ i. given_of d horizon (events.Spent (atom_is i) (lines_are i)))
    ∙ (ap (λ heading. record { out = ending_line (Spent section); err = []; log = heading ++ flat_map line_text (section_lines section) }) (heading_is horizon sought)
    ∙ ap (told_at d horizon) (sym is))

pub event_given : (d : Description) (horizon : ℕ) (event : SureTurn) (told : SureTold) → IsSureTurn event told → given_of d horizon event ≡ told_at d horizon told
event_given d horizon event told is = said_given d horizon event told (is_of event told is)

-- ---- the ending

abbrev last_of : List SureTold → Option SureTold
last_of [] = None
last_of (told ∷ []) = Some told
last_of (told ∷ (other ∷ others)) = last_of (other ∷ others)

last_is : (before : List SureTold) (told : SureTold) → last_of (before ++ told ∷ []) ≡ Some told
last_is [] told = refl
last_is (one ∷ []) told = refl
last_is (one ∷ (other ∷ before)) told = last_is (other ∷ before) told

same_end : (one other : SureEnding) (sought sought_other : Sought) → Ends sought one ≡ Ends sought_other other → one ≡ other
same_end one other sought sought_other e = cc

-- a run that has ended tells its ending last
ending_is : (q : Query) (before : List SureTold) (after : SureRun) (sought : Sought) (ending : SureEnding) → sure_told q after ≡ before ++ Ends sought ending ∷ [] → IsSome after.ending →
    after.ending ≡ Some ending
ending_is q before after sought ending all ended = by_ending after.ending ended refl
  where
    by_ending : (o : Option SureEnding) → IsSome o → after.ending ≡ o → after.ending ≡ Some ending
    by_ending None some is = absurd cc
    by_ending (Some one) some is =
        let last = Ends (sought_next after after.first) one in
        let front = none_told (range_of q).0 after.empty ++ map (ExampleIs 1) (optional after.first) ++ settled_told (length (optional after.first)) 0 after.done
        ++ tried_told (length (settled_examples after)) (length after.done) 0 after.next in
        let whole : front ++ last ∷ [] ≡ sure_told q after = ap (λ (o : Option SureEnding). front ++ map (Ends (sought_next after after.first)) (optional o)) (sym is) in
        is ∙ ap Some (same_end one ending (sought_next after after.first) sought
        (some_of last (Ends sought ending) (sym (last_is front last) ∙ (ap last_of (whole ∙ all) ∙ last_is before (Ends sought ending)))))

said_ends : (d : Description) (q : Query) (budget : ℕ) (before : List SureTold) (after : SureRun) (event : SureTurn) (told : SureTold) → Says event told →
    sure_told q after ≡ before ++ told ∷ [] → is_some after.ending ≡ is_last event → EndsSurely d q budget after [] (status_behind event)
said_ends d q budget before after (events.NoHistory empty) told is all ended = refl
said_ends d q budget before after (events.Example number row) told is all ended = refl
said_ends d q budget before after (events.Impossible position value lines) told is all ended = refl
said_ends d q budget before after (events.Answers position answers) told is all ended = refl
said_ends d q budget before after events.Complete told (sought, is) all ended =
    inl (Complete, ending_is q before after sought Complete (all ∙ ap (λ t. before ++ t ∷ []) is) ended, refl, refl)
said_ends d q budget before after events.NoneAtAll told (sought, is) all ended =
    inl (NoneAtAll, ending_is q before after sought NoneAtAll (all ∙ ap (λ t. before ++ t ∷ []) is) ended, refl, refl)
said_ends d q budget before after (events.Spent atom lines) told (sought, section, atom_is, lines_are, is) all ended =
    inl (Spent section, ending_is q before after sought (Spent section) (all ∙ ap (λ t. before ++ t ∷ []) is) ended, refl, refl)

-- ---- how a run is told

module _ (of : SureSubject) where
  abbrev d : Description
  d = of.description

  abbrev q : Query
  q = of.query

  -- what a run gives grows by what is told
  pub surely_gives : GivesBy (IsRightRun of) (Steps of) (λ (state : Unit {0}) (step : SureStep). given_of d step.horizon step.turn) (λ state step. state) (λ run. tt) (surely_given d q)
  surely_gives = record { grows = grows; moves = λ run after step right right_after says. refl }
    where
      grown : (run after : SureRun) (told : SureTold) → IsBegun run → IsBegun after → sure_told q after ≡ sure_told q run ++ told ∷ [] →
          joined (surely_given d q run) (told_at d (sure_horizon q after) told) ≡ surely_given d q after
      grown run after told begun begun_after is = λ i. record {
        out = sym (grows_by q run after told begun begun_after is (sure_line d) (λ a b empty. refl)) i;
        err = [];
        log = (append_assoc sure_header (flat_map (sure_lines (sure_horizon q run)) (sure_told q run)) (sure_lines (sure_horizon q after) told)
            ∙ ap (λ (l : List ℕ). sure_header ++ l) (sym (grows_by q run after told begun begun_after is sure_lines (λ a b empty. refl)))) i;
      }

      grows : (run after : SureRun) (step : SureStep) → IsRightRun of run → IsRightRun of after → Steps of run step after →
          surely_given d q after ≡ joined (surely_given d q run) (given_of d step.horizon step.turn)
      grows run after step right right_after says = sym (
          ap (λ (g : Given). joined (surely_given d q run) g)
          (event_given d step.horizon step.turn says.told says.is ∙ ap (λ (h : ℕ). told_at d h says.told) says.horizon)
          ∙ grown run after says.told right.fair.begun right_after.fair.begun says.all)

  -- it ends as its last event says
  pub surely_ends : (run : SureRun) (err : List ℕ) (ends : Option Status) → EndsBy (ReachesSureLimit d q of.budget) (Steps of) (λ (step : SureStep). status_behind step.turn) run err ends →
      EndsSurely d q of.budget run err ends
  surely_ends run err None how = how
  surely_ends run err (Some status) (inr limit) = inr limit
  surely_ends run err (Some status) (inl (before, step, says, status_is, err_is)) =
      subst (λ (ends : Option Status). EndsSurely d q of.budget run err ends) status_is
      (subst (λ (text : List ℕ). EndsSurely d q of.budget run text (status_behind step.turn)) (sym err_is)
      (said_ends d q of.budget (sure_told q before) run step.turn says.told (is_of step.turn says.told says.is) says.all says.ended))
