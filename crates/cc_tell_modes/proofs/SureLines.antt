-- The lines of answers, and the lines of a section, one after another.
use Rattle.std.proofs.Common.{◌≡◌, ◌∙◌, refl, sym, ap, subst, zero, suc, ℕ, ◌+◌, ◌<◌, ◌≤◌, List, [], ◌∷◌, ◌++◌, append-nil, append_assoc, drop, flat_map, get_or, length, Result, Ok, Err, arith, add-one}
use Rattle.std.specs.List.{AllByRecursion}
use Rattle.std.specs.Prelude.{IsErrAnd}
use Rattle.std.proofs.lemmas.List.{drop_all}
use Rattle.cc_defs.specs.declared.log.LogLine.{LogLine}
use Rattle.cc_defs.specs.LogTexts.{IsFormed, line_text}
use Rattle.cc_defs.specs.Description.{Description}
use Rattle.cc_ports.specs.declared.desk.To.TheVariants as outputs
use Rattle.cc_ports.specs.Moments.{Moment}
use Rattle.cc_print.specs.Atoms.{atom_text}
use Rattle.cc_sure.specs.declared.answer.Answer.{Answer}
use Rattle.cc_tell.specs.declared.status.Stop.{Stop}
use Rattle.cc_tell_modes.specs.SureTexts.{answer_lines, answer_words}
use Rattle.cc_tell.specs.Steps.{Step}
use Rattle.cc_tell.specs.Givens.{given_to, joined, nothing}
use Rattle.cc_tell.proofs.GivenSteps.{step_as, step_cut, step_then}
use Rattle.cc_tell.proofs.LineSteps.{LinesSoFar, lines_begin, lines_end, lines_more, lines_stop}

-- ---- answers

module _ (d : Description) (position : ℕ) where
  abbrev pub answer_line : ℕ → Answer → List ℕ
  answer_line value answer = atom_text d position value ++ answer_words answer ++ 10 ∷ []

  answers_from : (answers : List Answer) (k value : ℕ) (none : Answer) → k < length answers →
      answer_lines d position value (drop k answers) ≡ answer_line value (get_or answers k none) ++ answer_lines d position (value + 1) (drop (suc k) answers)
  answers_from [] k value none low = absurd (omega arith)
  answers_from (answer ∷ answers) zero value none low =
      sym (append_assoc (atom_text d position value ++ answer_words answer) (10 ∷ []) (answer_lines d position (value + 1) answers))
  answers_from (answer ∷ answers) (suc k) value none low = answers_from answers k value none (omega arith)

  module _ (answers : List Answer) where
    abbrev pub answers_left : ℕ → List ℕ
    answers_left value = answer_lines d position value (drop value answers)

    -- the answers of the values before this one were given
    abbrev pub AreAnswered : ℕ → Moment → Moment → Type 0
    AreAnswered value x y = LinesSoFar outputs.Out (answer_lines d position 0 answers) (answers_left value) x y

    pub none_answered : (m : Moment) → AreAnswered 0 m m
    none_answered m = lines_begin outputs.Out (answer_lines d position 0 answers) (answers_left 0) m refl

    answer_is : (value : ℕ) (none : Answer) → value < length answers → answers_left value ≡ answer_line value (get_or answers value none) ++ answers_left (value + 1)
    answer_is value none low = answers_from answers value value none low
        ∙ ap (λ (k : ℕ). answer_line value (get_or answers value none) ++ answer_lines d position (value + 1) (drop k answers)) (sym (add-one value))

    pub answer_told : {X : Type 0} (value : ℕ) (none : Answer) (x y z : Moment) (r : Result X Stop) (v : X) → value < length answers → AreAnswered value x y →
        Step (given_to outputs.Out (answer_line value (get_or answers value none))) y z r → r ≡ Ok v → AreAnswered (value + 1) x z
    answer_told value none x y z r v low told step was =
        lines_more outputs.Out (answer_lines d position 0 answers) (answers_left value) x y told (answer_line value (get_or answers value none)) (answers_left (value + 1))
        (answer_is value none low) z r v step was

    pub answer_stopped : {X Y : Type 0} (value : ℕ) (none : Answer) (x y z : Moment) (r : Result X Stop) (e : Stop) (s : Result Y Stop) → value < length answers → AreAnswered value x y →
        Step (given_to outputs.Out (answer_line value (get_or answers value none))) y z r → r ≡ Err e → IsErrAnd s (λ d. d ≡ e) →
        Step (given_to outputs.Out (answer_lines d position 0 answers)) x z s
    answer_stopped value none x y z r e s low told step was err =
        lines_stop outputs.Out (answer_lines d position 0 answers) (answers_left value) x y told (answer_line value (get_or answers value none)) (answers_left (value + 1))
        (answer_is value none low) z r e s step was err

    pub all_answered : {X : Type 0} (value : ℕ) (x y : Moment) (v : X) → length answers ≤ value → AreAnswered value x y →
        Step (given_to outputs.Out (answer_lines d position 0 answers)) x y (Ok v)
    all_answered value x y v end told =
        lines_end outputs.Out (answer_lines d position 0 answers) (answers_left value) x y told v
        (ap (λ (l : List Answer). length (answer_lines d position value l)) (drop_all value answers end))

-- ---- the lines of a section

formed_at : (lines : List LogLine) (k : ℕ) (none : LogLine) → AllByRecursion IsFormed lines → k < length lines → IsFormed (get_or lines k none)
formed_at [] k none all low = absurd (omega arith)
formed_at (line ∷ lines) zero none all low = all.0
formed_at (line ∷ lines) (suc k) none all low = formed_at lines k none all.1 (omega arith)

pub line_formed : (lines : List LogLine) (k : ℕ) (line : LogLine) → line ≡ get_or lines k line → AllByRecursion IsFormed lines → k < length lines → IsFormed line
line_formed lines k line is all low = subst IsFormed (sym is) (formed_at lines k line all low)

lines_from : (lines : List LogLine) (k : ℕ) (none : LogLine) → k < length lines →
    flat_map line_text (drop k lines) ≡ line_text (get_or lines k none) ++ flat_map line_text (drop (suc k) lines)
lines_from [] k none low = absurd (omega arith)
lines_from (line ∷ lines) zero none low = refl
lines_from (line ∷ lines) (suc k) none low = lines_from lines k none (omega arith)

module _ (lines : List LogLine) where
  abbrev pub lines_left : ℕ → List ℕ
  lines_left k = flat_map line_text (drop k lines)

  -- the lines before this one were given
  abbrev pub AreLogged : ℕ → Moment → Moment → Type 0
  AreLogged k x y = LinesSoFar outputs.Log (flat_map line_text lines) (lines_left k) x y

  pub none_logged : (m : Moment) → AreLogged 0 m m
  none_logged m = lines_begin outputs.Log (flat_map line_text lines) (lines_left 0) m refl

  line_is : (k : ℕ) (line : LogLine) → line ≡ get_or lines k line → k < length lines → lines_left k ≡ line_text line ++ lines_left (k + 1)
  line_is k line is low = lines_from lines k line low ∙ (ap (λ (n : ℕ). line_text (get_or lines k line) ++ flat_map line_text (drop n lines)) (sym (add-one k))
      ∙ ap (λ (l : LogLine). line_text l ++ lines_left (k + 1)) (sym is))

  pub line_logged : {X : Type 0} (k : ℕ) (line : LogLine) (x y z : Moment) (r : Result X Stop) (v : X) → line ≡ get_or lines k line → k < length lines → AreLogged k x y →
      Step (given_to outputs.Log (line_text line)) y z r → r ≡ Ok v → AreLogged (k + 1) x z
  line_logged k line x y z r v is low told step was =
      lines_more outputs.Log (flat_map line_text lines) (lines_left k) x y told (line_text line) (lines_left (k + 1)) (line_is k line is low) z r v step was

  pub line_stopped : {X Y : Type 0} (k : ℕ) (line : LogLine) (x y z : Moment) (r : Result X Stop) (e : Stop) (s : Result Y Stop) → line ≡ get_or lines k line → k < length lines →
      AreLogged k x y → Step (given_to outputs.Log (line_text line)) y z r → r ≡ Err e → IsErrAnd s (λ d. d ≡ e) → Step (given_to outputs.Log (flat_map line_text lines)) x z s
  line_stopped k line x y z r e s is low told step was err =
      lines_stop outputs.Log (flat_map line_text lines) (lines_left k) x y told (line_text line) (lines_left (k + 1)) (line_is k line is low) z r e s step was err

  pub all_logged : {X : Type 0} (k : ℕ) (x y : Moment) (v : X) → length lines ≤ k → AreLogged k x y → Step (given_to outputs.Log (flat_map line_text lines)) x y (Ok v)
  all_logged k x y v end told =
      lines_end outputs.Log (flat_map line_text lines) (lines_left k) x y told v (ap (λ (l : List LogLine). length (flat_map line_text l)) (drop_all k lines end))

-- ---- lines of the log, and behind them a text

pub both : (out log : List ℕ) → joined (given_to outputs.Log log) (given_to outputs.Out out) ≡ record nothing { out = out; log = log }
both out log = λ i. record { out = out; err = []; log = append-nil log i }

pub log_cut : {X Y : Type 0} (out log : List ℕ) (x y : Moment) (r : Result X Stop) (e : Stop) (s : Result Y Stop) → Step (given_to outputs.Log log) x y r → r ≡ Err e →
    IsErrAnd s (λ d. d ≡ e) → Step (record nothing { out = out; log = log }) x y s
log_cut out log x y r e s step was err =
    step_as _ _ x y s (both out log) (step_cut (given_to outputs.Log log) (given_to outputs.Out out) x y r e s step was err)

pub log_then : {X Y : Type 0} (out log : List ℕ) (x y z : Moment) (r : Result X Stop) (v : X) (s : Result Y Stop) → Step (given_to outputs.Log log) x y r → r ≡ Ok v →
    Step (given_to outputs.Out out) y z s → Step (record nothing { out = out; log = log }) x z s
log_then out log x y z r v s step was next =
    step_as _ _ x z s (both out log) (step_then (given_to outputs.Log log) (given_to outputs.Out out) x y z r v s step was next)
