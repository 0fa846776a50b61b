-- What is printed of a whole listing in general mode.
use Rattle.std.proofs.Common.{◌≡◌, ◌∙◌, refl, sym, ap, ap₂, ℕ, ◌+◌, ◌-◌, zero, suc, List, [], ◌∷◌, ◌++◌, length, map, Option, Some, arith, append_assoc, append-nil}
use Rattle.std.specs.Prelude.{codes, decimal, flat_map}
use Rattle.std.proofs.lemmas.List.{length-map}
use Rattle.cc_corollaries.specs.Corollaries.{none_text, numbered}
use Rattle.cc_corollaries.proofs.Printed.{out_both, up_front}
use Rattle.cc_defs.specs.declared.event.Event.TheVariants as events
use Rattle.cc_defs.specs.declared.event.Told.{Told}
use Rattle.cc_defs.specs.Declarations.{upto}
use Rattle.cc_defs.specs.Description.{Description}
use Rattle.cc_defs.specs.Events.{ending_text, of_horizon, out_text}
use Rattle.cc_defs.specs.Resolved.{Query}
use Rattle.cc_defs.specs.Runs.{optional, range_of, told}
use Rattle.cc_defs.specs.Texts.{history_text, key_line}
use Rattle.cc_general.specs.GeneralRuns.{GeneralEnding, GeneralRun, Shown, general_horizon, rows_shown}
use Rattle.cc_general.specs.GeneralTold.{ending_of, none_told, shown_told}
use Rattle.cc_run.specs.Modes.Generally.{general_text}
use Rattle.cc_wide.specs.WideLaws.{WideDescription, frame}

module _ (d : Description) where
  abbrev none_at : ℕ → List ℕ
  none_at horizon = of_horizon horizon (codes "no history")

  -- the horizons without a history
  nones_out : (first count : ℕ) → out_text d (none_told first count) ≡ flat_map (λ step. none_at (first + step)) (upto count)
  nones_out first zero = refl
  nones_out first (suc count) =
      let later : (step : ℕ) → first + 1 + step ≡ first + suc step = λ step. omega arith in
      let here : first ≡ first + 0 = omega arith in
      ap₂ (λ (a b : List ℕ). a ++ b)
      (append-nil (none_at first) ∙ ap none_at here)
      (nones_out (first + 1) count ∙ (λ i. flat_map (λ step. none_at (later step i)) (upto count)))
      ∙ sym (up_front (λ step. none_at (first + step)) count)

  -- the histories
  shown_out : (horizon number : ℕ) (rows : List (List ℕ)) → out_text d (shown_told horizon number rows) ≡ numbered d horizon number rows
  shown_out horizon number [] = refl
  shown_out horizon number (row ∷ rows) =
      ap₂ (λ (a b : List ℕ). a ++ b) (sym (append_assoc (of_horizon horizon (codes "history " ++ decimal number)) (history_text d horizon row) (key_line horizon row)))
      (shown_out horizon (number + 1) rows)

pub length_shown : (shown : List Shown) → length shown ≡ length (map (λ shown. shown.row) shown)
length_shown shown = sym (length-map shown (λ (shown : Shown). shown.row))

pub general_out : (w : WideDescription) (q : Query) (run : GeneralRun) (ending : GeneralEnding) → run.ending ≡ Some ending →
    general_text w q run ≡ none_text q (general_horizon q run) ++ numbered (frame w) (general_horizon q run) 1 (rows_shown run)
    ++ ending_text (ending_of (general_horizon q run) (length (rows_shown run)) ending)
general_out w q run ending ends =
    let d = frame w in
    let low = (range_of q).0 in
    let horizon = general_horizon q run in
    let rows = rows_shown run in
    let nones = none_told low run.empty in
    let of_end : ℕ → Option GeneralEnding → List Told = λ listed ending. map (λ ending. told (events.Ended (ending_of horizon listed ending))) (optional ending) in
    let long : run.empty ≡ horizon - low = omega arith in
    ap₂ (λ (listed : ℕ) (ending : Option GeneralEnding). out_text d (nones ++ shown_told horizon 1 rows ++ of_end listed ending)) (length_shown run.shown) ends
    ∙ out_both d (nones ++ shown_told horizon 1 rows) (of_end (length rows) (Some ending))
    ∙ ap₂ (λ (a b : List ℕ). a ++ b)
    (out_both d nones (shown_told horizon 1 rows)
    ∙ ap₂ (λ (a b : List ℕ). a ++ b)
    (nones_out d low run.empty ∙ ap (λ (n : ℕ). flat_map (λ step. of_horizon (low + step) (codes "no history")) (upto n)) long)
    (shown_out d horizon 1 rows))
    (append-nil (ending_text (ending_of horizon (length rows) ending) ++ []) ∙ append-nil (ending_text (ending_of horizon (length rows) ending)))
