-- What is printed of a listing.
use Rattle.std.proofs.Common.{◌≡◌, ◌∙◌, refl, sym, ap, ap₂, ℕ, ◌+◌, ◌-◌, zero, suc, Bool, false, List, [], ◌∷◌, ◌++◌, length, map, Option, Some, None, arith, append_assoc, append-nil}
use Rattle.std.specs.Prelude.{IsNone, codes, decimal, flat_map}
use Rattle.std.proofs.lemmas.Grind.{flat_map-append}
use Rattle.cc_corollaries.specs.Corollaries.{none_text, numbered}
use Rattle.cc_corollaries.proofs.Ended.{all_within}
use Rattle.cc_corollaries.proofs.Nones.{clash}
use Rattle.cc_defs.specs.declared.event.Ending.{Ending}
use Rattle.cc_defs.specs.declared.event.Event.TheVariants as events
use Rattle.cc_defs.specs.declared.event.Told.{Told}
use Rattle.cc_defs.specs.declared.log.EndWord.{EndWord}
use Rattle.cc_defs.specs.declared.log.LogLine.TheVariants as lines
use Rattle.cc_defs.specs.Declarations.{upto}
use Rattle.cc_defs.specs.Description.{Description}
use Rattle.cc_defs.specs.Events.{ending_text, of_horizon, out_text, told_text}
use Rattle.cc_defs.specs.Resolved.{Query}
use Rattle.cc_defs.specs.Runs.{AreDone, Claim, Conditions, Derive, Failure, Histories, Horizon, IsExhausted, IsTrueOf, Run, Section, Step, Tell, denied_rows, done_events, events_of, horizon_at, horizon_events, logged, optional, range_of, row_told, rows_of, said_of, section_events, step_events, told, told_row}
use Rattle.cc_defs.specs.Texts.{history_text, key_line}

-- ---- the numbers up to one

pub up_front : (f : ℕ → List ℕ) (n : ℕ) → flat_map f (upto (suc n)) ≡ f 0 ++ flat_map (λ k. f (suc k)) (upto n)
up_front f zero = refl
up_front f (suc n) =
    flat_map-append f (upto (suc n)) (suc n ∷ [])
    ∙ ap (λ (l : List ℕ). l ++ flat_map f (suc n ∷ [])) (up_front f n)
    ∙ append_assoc (f 0) (flat_map (λ k. f (suc k)) (upto n)) (flat_map f (suc n ∷ []))
    ∙ ap (λ (l : List ℕ). f 0 ++ l) (sym (flat_map-append (λ k. f (suc k)) (upto n) (n ∷ [])))

-- ---- a section

module _ (d : Description) where
  pub out_both : (one other : List Told) → out_text d (one ++ other) ≡ out_text d one ++ out_text d other
  out_both one other = flat_map-append (told_text d) one other

  steps_out : (horizon number : ℕ) (steps : List Step) → out_text d (step_events horizon number steps) ≡ numbered d horizon number (flat_map row_told steps)
  steps_out horizon number [] = refl
  steps_out horizon number (Derive clause chain ∷ steps) = steps_out horizon number steps
  steps_out horizon number (Tell row ∷ steps) =
      ap₂ (λ (a b : List ℕ). a ++ b) (sym (append_assoc (of_horizon horizon (codes "history " ++ decimal number)) (history_text d horizon row) (key_line horizon row)))
      (steps_out horizon (number + 1) steps)

  numbered_both : (horizon number : ℕ) (rows others : List (List ℕ)) →
      numbered d horizon number (rows ++ others) ≡ numbered d horizon number rows ++ numbered d horizon (number + length rows) others
  numbered_both horizon number [] others =
      let here : number ≡ number + 0 = omega arith in
      ap (λ (n : ℕ). numbered d horizon n others) here
  numbered_both horizon number (row ∷ rows) others =
      let front = of_horizon horizon (codes "history " ++ decimal number) ++ history_text d horizon row ++ key_line horizon row in
      let later : number + 1 + length rows ≡ number + suc (length rows) = omega arith in
      ap (λ (l : List ℕ). front ++ l)
      (numbered_both horizon (number + 1) rows others ∙ ap (λ (n : ℕ). numbered d horizon (number + 1) rows ++ numbered d horizon n others) later)
      ∙ sym (append_assoc front (numbered d horizon (number + 1) rows) (numbered d horizon (number + suc (length rows)) others))

  last_out : (horizon number : ℕ) (last : Option (List ℕ)) →
      out_text d (map (told_row (events.History horizon number)) (optional last)) ≡ numbered d horizon number (optional last)
  last_out horizon number None = refl
  last_out horizon number (Some row) =
      ap (λ (l : List ℕ). l ++ []) (sym (append_assoc (of_horizon horizon (codes "history " ++ decimal number)) (history_text d horizon row) (key_line horizon row)))

  word_out : (word : Option EndWord) → out_text d (map (λ w. logged (lines.End w)) (optional word)) ≡ []
  word_out None = refl
  word_out (Some word) = refl

  section_out : (conditions : Bool) (horizon : ℕ) (section : Section) → out_text d (section_events conditions horizon section) ≡ numbered d horizon 1 (rows_of section)
  section_out conditions horizon section =
      let steps = step_events horizon 1 section.steps in
      let number = length (denied_rows section) + 1 in
      let last = map (told_row (events.History horizon number)) (optional section.last) in
      let behind : number ≡ 1 + length (denied_rows section) = omega arith in
      out_both (steps ++ last) (map (λ w. logged (lines.End w)) (optional section.word))
      ∙ ap (λ (l : List ℕ). out_text d (steps ++ last) ++ l) (word_out section.word)
      ∙ append-nil (out_text d (steps ++ last))
      ∙ out_both steps last
      ∙ ap₂ (λ (a b : List ℕ). a ++ b) (steps_out horizon 1 section.steps)
      (last_out horizon number section.last ∙ ap (λ (n : ℕ). numbered d horizon n (optional section.last)) behind)
      ∙ sym (numbered_both horizon 1 (denied_rows section) (optional section.last))

-- ---- horizons that are done with

module _ (d : Description) (q : Query) (count : Option ℕ) (budget : ℕ) (no_claim : IsNone q.claim) where
  abbrev none_at : ℕ → List ℕ
  none_at horizon = of_horizon horizon (codes "no history")

  -- the next one, of a query without a claim
  told_none : (horizon : ℕ) (told : Horizon) → IsTrueOf d q (all_within count budget) horizon told → IsExhausted (all_within count budget) told →
      out_text d (horizon_events horizon told ++ said_of horizon told) ≡ none_at horizon
  told_none horizon (Histories section) (none, tells) (empty, no_rows, no_key) =
      out_both d (section_events false horizon section) (said_of horizon (Histories section))
      ∙ ap (λ (l : List ℕ). l ++ (none_at horizon ++ [] ++ []))
      (section_out d false horizon section ∙ ap (numbered d horizon 1) no_rows)
      ∙ append-nil (none_at horizon ++ [])
      ∙ append-nil (none_at horizon)
  told_none horizon (Conditions section) (claim, looks) empty = clash q.claim no_claim claim
  told_none horizon (Claim conditions section) (claim, looked, found, looks) empty = clash q.claim no_claim claim
  told_none horizon (Failure conditions section row) is exhausted = absurd exhausted

  done_out : (first : ℕ) (done : List Horizon) → AreDone d q (all_within count budget) first done →
      out_text d (done_events first done) ≡ flat_map (λ step. none_at (first + step)) (upto (length done))
  done_out first [] are = refl
  done_out first (told ∷ others) (is, exhausted, are) =
      let later : (step : ℕ) → first + 1 + step ≡ first + suc step = λ step. omega arith in
      let here : first ≡ first + 0 = omega arith in
      out_both d (horizon_events first told ++ said_of first told) (done_events (first + 1) others)
      ∙ ap₂ (λ (a b : List ℕ). a ++ b)
      (told_none first told is exhausted ∙ ap none_at here)
      (done_out (first + 1) others are ∙ (λ i. flat_map (λ step. none_at (later step i)) (upto (length others))))
      ∙ sym (up_front (λ step. none_at (first + step)) (length others))

-- ---- a listing

module _ (d : Description) (q : Query) (count : Option ℕ) (budget : ℕ) where
  pub listing_out : IsNone q.claim → (run : Run) → AreDone d q (all_within count budget) (range_of q).0 run.done → (section : Section) →
      run.next ≡ Some (Histories section) → (ending : Ending) → run.ending ≡ Some ending →
      out_text d (events_of (range_of q).0 run)
      ≡ none_text q (horizon_at (range_of q).0 run) ++ numbered d (horizon_at (range_of q).0 run) 1 (rows_of section) ++ ending_text ending
  listing_out no_claim run done section next ending ends =
      let low = (range_of q).0 in
      let horizon = horizon_at low run in
      let before = done_events low run.done in
      let of_next : Option Horizon → List Told = λ next. flat_map (horizon_events horizon) (optional next) in
      let of_end : Option Ending → List Told = λ ending. map (λ ending. told (events.Ended ending)) (optional ending) in
      let long : length run.done ≡ horizon - low = omega arith in
      ap₂ (λ (next : Option Horizon) (ending : Option Ending). out_text d (before ++ of_next next ++ of_end ending)) next ends
      ∙ out_both d (before ++ of_next (Some (Histories section))) (of_end (Some ending))
      ∙ ap₂ (λ (a b : List ℕ). a ++ b)
      (out_both d before (of_next (Some (Histories section)))
      ∙ ap₂ (λ (a b : List ℕ). a ++ b)
      (done_out d q count budget no_claim low run.done done ∙ ap (λ (n : ℕ). flat_map (λ step. of_horizon (low + step) (codes "no history")) (upto n)) long)
      (ap (out_text d) (append-nil (section_events false horizon section)) ∙ section_out d false horizon section))
      (append-nil (ending_text ending ++ []) ∙ append-nil (ending_text ending))
