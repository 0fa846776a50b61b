-- What is given of a section of models grows with each line and each model of it.
use Rattle.std.proofs.Common.{◌≡◌, ◌∙◌, refl, sym, ap, ℕ, ◌+◌, false, Bool, List, [], ◌∷◌, ◌++◌, length, map, Option, Some, None, append_assoc, append-nil, length-append, arith}
use Rattle.std.specs.Prelude.{flat_map}
use Rattle.std.proofs.lemmas.Grind.{flat_map-append}
use Rattle.cc_defs.specs.declared.event.Event.TheVariants as events
use Rattle.cc_defs.specs.declared.event.Told.{Told}
use Rattle.cc_defs.specs.declared.log.EndWord.{EndWord}
use Rattle.cc_defs.specs.declared.log.LogLine.{LogLine}
use Rattle.cc_defs.specs.declared.log.LogLine.TheVariants as lines
use Rattle.cc_defs.specs.declared.log.Version.{Version}
use Rattle.cc_defs.specs.Clauses.{Literal}
use Rattle.cc_defs.specs.Events.{line_told}
use Rattle.cc_defs.specs.LogVersions.{header_of, line_bytes, lines_bytes, log_in}
use Rattle.cc_defs.specs.Runs.{Derive, Section, Step, Tell, denied_rows, logged, optional, row_told, rows_of, section_events, step_events, told_row}
use Rattle.cc_print.specs.Models.{model_line}
use Rattle.cc_lists.specs.Sections.{open_section, section_of}
use Rattle.cc_lists.specs.Subjects.{lines_of}
use Rattle.cc_tell_modes.specs.ModelTexts.{model_lines, models_end, models_text}

-- ---- the lines of a section

abbrev pub line_of : Step → LogLine
line_of (Derive clause chain) = lines.Derived clause chain
line_of (Tell row) = lines.Block row

steps_lines : (horizon number : ℕ) (steps : List Step) → lines_of (step_events horizon number steps) ≡ map line_of steps
steps_lines horizon number [] = refl
steps_lines horizon number (Derive clause chain ∷ steps) = ap (λ (l : List LogLine). lines.Derived clause chain ∷ l) (steps_lines horizon number steps)
steps_lines horizon number (Tell row ∷ steps) = ap (λ (l : List LogLine). lines.Block row ∷ l) (steps_lines horizon (number + 1) steps)

last_lines : (horizon number : ℕ) (last : Option (List ℕ)) → lines_of (map (told_row (events.History horizon number)) (optional last)) ≡ []
last_lines horizon number None = refl
last_lines horizon number (Some row) = refl

word_lines : (word : Option EndWord) → lines_of (map (λ (w : EndWord). logged (lines.End w)) (optional word)) ≡ map lines.End (optional word)
word_lines None = refl
word_lines (Some word) = refl

lines_both : (a b : List Told) → lines_of (a ++ b) ≡ lines_of a ++ lines_of b
lines_both a b = flat_map-append (λ (one : Told). line_told one.event) a b

section_lines : (section : Section) → lines_of (section_events false 0 section) ≡ lines.Section false 0 ∷ (map line_of section.steps ++ map lines.End (optional section.word))
section_lines section =
    let steps = step_events 0 1 section.steps in
    let last = map (told_row (events.History 0 (length (denied_rows section) + 1))) (optional section.last) in
    let word = map (λ (w : EndWord). logged (lines.End w)) (optional section.word) in
    ap (λ (l : List LogLine). lines.Section false 0 ∷ l)
    (lines_both (steps ++ last) word ∙ (ap (λ (l : List LogLine). l ++ lines_of word)
    (lines_both steps last ∙ (ap (λ (l : List LogLine). l ++ lines_of last) (steps_lines 0 1 section.steps)
    ∙ (ap (λ (l : List LogLine). map line_of section.steps ++ l) (last_lines 0 (length (denied_rows section) + 1) section.last) ∙ append-nil (map line_of section.steps))))
    ∙ ap (λ (l : List LogLine). map line_of section.steps ++ l) (word_lines section.word)))

-- ---- their bytes

map_push : (steps : List Step) (step : Step) → map line_of (steps ++ step ∷ []) ≡ map line_of steps ++ line_of step ∷ []
map_push [] step = refl
map_push (first ∷ steps) step = ap (λ (l : List LogLine). line_of first ∷ l) (map_push steps step)

module _ (version : Version) (counts : Bool → ℕ → ℕ) where
  abbrev bytes_from : ℕ → List LogLine → List ℕ
  bytes_from own all = lines_bytes version counts own all

  steps_bytes : (own : ℕ) (steps : List Step) (rest : List LogLine) → bytes_from own (map line_of steps ++ rest) ≡ bytes_from own (map line_of steps) ++ bytes_from (own + length steps) rest
  steps_bytes own [] rest = let same : own ≡ own + 0 = omega arith in ap (λ (n : ℕ). bytes_from n rest) same
  steps_bytes own (Derive clause chain ∷ steps) rest =
      let here = line_bytes version own (lines.Derived clause chain) in
      let same : (own + 1) + length steps ≡ own + length (Derive clause chain ∷ steps) = omega arith in
      ap (λ (l : List ℕ). here ++ l) (steps_bytes (own + 1) steps rest)
      ∙ (sym (append_assoc here (bytes_from (own + 1) (map line_of steps)) (bytes_from ((own + 1) + length steps) rest))
      ∙ ap (λ (n : ℕ). (here ++ bytes_from (own + 1) (map line_of steps)) ++ bytes_from n rest) same)
  steps_bytes own (Tell row ∷ steps) rest =
      let here = line_bytes version own (lines.Block row) in
      let same : (own + 1) + length steps ≡ own + length (Tell row ∷ steps) = omega arith in
      ap (λ (l : List ℕ). here ++ l) (steps_bytes (own + 1) steps rest)
      ∙ (sym (append_assoc here (bytes_from (own + 1) (map line_of steps)) (bytes_from ((own + 1) + length steps) rest))
      ∙ ap (λ (n : ℕ). (here ++ bytes_from (own + 1) (map line_of steps)) ++ bytes_from n rest) same)

  -- the number of the first clause behind the axioms
  abbrev first : ℕ
  first = counts false 0 + 1

  abbrev log_of : Section → List ℕ
  log_of section = log_in version counts (lines_of (section_events false 0 section))

  -- the header and the heading
  abbrev pub log_front : List ℕ
  log_front = header_of version ++ line_bytes version 1 (lines.Section false 0)

  log_is : (section : Section) →
      log_of section ≡ (log_front ++ bytes_from first (map line_of section.steps)) ++ bytes_from (first + length section.steps) (map lines.End (optional section.word))
  log_is section =
      let heading = line_bytes version 1 (lines.Section false 0) in
      let steps = bytes_from first (map line_of section.steps) in
      let word = bytes_from (first + length section.steps) (map lines.End (optional section.word)) in
      ap (λ (l : List LogLine). log_in version counts l) (section_lines section)
      ∙ (sym (append_assoc (header_of version) heading (bytes_from first (map line_of section.steps ++ map lines.End (optional section.word))))
      ∙ (ap (λ (l : List ℕ). log_front ++ l) (steps_bytes first section.steps (map lines.End (optional section.word)))
      ∙ sym (append_assoc log_front steps word)))

  log_open : (steps : List Step) (last : Option (List ℕ)) → log_of (section_of steps last None) ≡ log_front ++ bytes_from first (map line_of steps)
  log_open steps last = log_is (section_of steps last None) ∙ append-nil (log_front ++ bytes_from first (map line_of steps))

  -- with nothing but the heading
  pub log_begun : log_front ≡ log_of (open_section [])
  log_begun = sym (log_open [] None ∙ append-nil log_front)

  -- with a line more
  pub log_pushed : (steps : List Step) (last : Option (List ℕ)) (step : Step) →
      log_of (section_of steps last None) ++ line_bytes version (first + length steps) (line_of step) ≡ log_of (open_section (steps ++ step ∷ []))
  log_pushed steps last step =
      let before = bytes_from first (map line_of steps) in
      let line = line_bytes version (first + length steps) (line_of step) in
      ap (λ (l : List ℕ). l ++ line) (log_open steps last)
      ∙ (append_assoc log_front before line
      ∙ (ap (λ (l : List ℕ). log_front ++ l)
      (ap (λ (l : List ℕ). before ++ l) (sym (append-nil line))
      ∙ (sym (steps_bytes first steps (line_of step ∷ [])) ∙ ap (λ (l : List LogLine). bytes_from first l) (sym (map_push steps step))))
      ∙ sym (log_open (steps ++ step ∷ []) None)))

  -- a model has no line
  pub log_told : (steps : List Step) (row : List ℕ) → log_of (open_section steps) ++ [] ≡ log_of (section_of steps (Some row) None)
  log_told steps row = append-nil (log_of (open_section steps)) ∙ (log_open steps None ∙ sym (log_open steps (Some row)))

  -- with its end
  pub log_ended : (steps : List Step) (last : Option (List ℕ)) (word : EndWord) →
      log_of (section_of steps last None) ++ line_bytes version (first + length steps) (lines.End word) ≡ log_of (section_of steps last (Some word))
  log_ended steps last word =
      let line = line_bytes version (first + length steps) (lines.End word) in
      ap (λ (l : List ℕ). l ++ line) (log_open steps last)
      ∙ (ap (λ (l : List ℕ). (log_front ++ bytes_from first (map line_of steps)) ++ l) (sym (append-nil line))
      ∙ sym (log_is (section_of steps last (Some word))))

-- ---- models

rows_derived : (steps : List Step) (clause : List Literal) (chain : List ℕ) → rows_of (open_section (steps ++ Derive clause chain ∷ [])) ≡ rows_of (open_section steps)
rows_derived steps clause chain =
    ap (λ (l : List (List ℕ)). l ++ []) (flat_map-append row_told steps (Derive clause chain ∷ []) ∙ append-nil (flat_map row_told steps))

rows_blocked : (steps : List Step) (row : List ℕ) → rows_of (open_section (steps ++ Tell row ∷ [])) ≡ rows_of (section_of steps (Some row) None)
rows_blocked steps row = append-nil (flat_map row_told (steps ++ Tell row ∷ [])) ∙ flat_map-append row_told steps (Tell row ∷ [])

rows_told : (steps : List Step) (row : List ℕ) → rows_of (section_of steps (Some row) None) ≡ rows_of (open_section steps) ++ row ∷ []
rows_told steps row = ap (λ (l : List (List ℕ)). l ++ row ∷ []) (sym (append-nil (flat_map row_told steps)))

lines_push : (number : ℕ) (rows : List (List ℕ)) (row : List ℕ) → model_lines number (rows ++ row ∷ []) ≡ model_lines number rows ++ model_line (number + length rows) row
lines_push number [] row =
    let same : number ≡ number + 0 = omega arith in append-nil (model_line number row) ∙ ap (λ (n : ℕ). model_line n row) same
lines_push number (first ∷ rows) row =
    let same : (number + 1) + length rows ≡ number + length (first ∷ rows) = omega arith in
    ap (λ (l : List ℕ). model_line number first ++ l) (lines_push (number + 1) rows row)
    ∙ (sym (append_assoc (model_line number first) (model_lines (number + 1) rows) (model_line ((number + 1) + length rows) row))
    ∙ ap (λ (n : ℕ). (model_line number first ++ model_lines (number + 1) rows) ++ model_line n row) same)

-- the same rows, and no end
text_same : (a b : List (List ℕ)) → a ≡ b → (model_lines 1 a ++ []) ++ [] ≡ model_lines 1 b ++ []
text_same a b same = append-nil (model_lines 1 a ++ []) ∙ ap (λ (l : List (List ℕ)). model_lines 1 l ++ []) same

pub text_derived : (steps : List Step) (clause : List Literal) (chain : List ℕ) → models_text (open_section steps) ++ [] ≡ models_text (open_section (steps ++ Derive clause chain ∷ []))
text_derived steps clause chain = text_same (rows_of (open_section steps)) (rows_of (open_section (steps ++ Derive clause chain ∷ []))) (sym (rows_derived steps clause chain))

pub text_blocked : (steps : List Step) (row : List ℕ) → models_text (section_of steps (Some row) None) ++ [] ≡ models_text (open_section (steps ++ Tell row ∷ []))
text_blocked steps row = text_same (rows_of (section_of steps (Some row) None)) (rows_of (open_section (steps ++ Tell row ∷ []))) (sym (rows_blocked steps row))

pub text_told : (steps : List Step) (row : List ℕ) →
    models_text (open_section steps) ++ model_line (1 + length (rows_of (open_section steps))) row ≡ models_text (section_of steps (Some row) None)
text_told steps row =
    let rows = rows_of (open_section steps) in
    let line = model_line (1 + length rows) row in
    ap (λ (l : List ℕ). l ++ line) (append-nil (model_lines 1 rows))
    ∙ (sym (lines_push 1 rows row) ∙ (ap (λ (l : List (List ℕ)). model_lines 1 l) (sym (rows_told steps row)) ∙ sym (append-nil (model_lines 1 (rows_of (section_of steps (Some row) None))))))

pub text_ended : (steps : List Step) (last : Option (List ℕ)) (word : EndWord) →
    models_text (section_of steps last None) ++ models_end (length (rows_of (section_of steps last None))) word ≡ models_text (section_of steps last (Some word))
text_ended steps last word =
    let rows = rows_of (section_of steps last None) in
    let line = models_end (length rows) word in
    ap (λ (l : List ℕ). l ++ line) (append-nil (model_lines 1 rows)) ∙ ap (λ (l : List ℕ). model_lines 1 rows ++ l) (sym (append-nil line))

-- ---- how many there are

pub listed_derived : (steps : List Step) (clause : List Literal) (chain : List ℕ) →
    length (rows_of (open_section steps)) ≡ length (rows_of (open_section (steps ++ Derive clause chain ∷ [])))
listed_derived steps clause chain = ap (λ (l : List (List ℕ)). length l) (sym (rows_derived steps clause chain))

pub listed_blocked : (steps : List Step) (row : List ℕ) → length (rows_of (section_of steps (Some row) None)) ≡ length (rows_of (open_section (steps ++ Tell row ∷ [])))
listed_blocked steps row = ap (λ (l : List (List ℕ)). length l) (sym (rows_blocked steps row))

pub rows_more : (steps : List Step) (row : List ℕ) → length (rows_of (section_of steps (Some row) None)) ≡ length (rows_of (open_section steps)) + 1
rows_more steps row = ap (λ (l : List (List ℕ)). length l) (rows_told steps row) ∙ length-append (rows_of (open_section steps)) (row ∷ [])
