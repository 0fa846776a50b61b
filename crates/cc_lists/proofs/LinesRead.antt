-- The lines of a section tell its steps and its end word.
use Rattle.std.proofs.Common.{◌≡◌, ◌∙◌, ℕ, ◌+◌, Bool, true, false, List, [], ◌∷◌, ◌++◌, length, map, Option, Some, None, refl, sym, ap, ap₂, append_assoc, append-nil}
use Rattle.std.proofs.lemmas.Grind.{flat_map-append}
use Rattle.cc_defs.specs.declared.event.Event.TheVariants as events
use Rattle.cc_defs.specs.declared.event.Told.{Told}
use Rattle.cc_defs.specs.declared.log.EndWord.{EndWord}
use Rattle.cc_defs.specs.declared.log.LogLine.{LogLine}
use Rattle.cc_defs.specs.declared.log.LogLine.TheVariants as lines
use Rattle.cc_defs.specs.Events.{line_told}
use Rattle.cc_defs.specs.Runs.{Step, Derive, Tell, Section, Horizon, Histories, Conditions, Claim, Failure, denied_rows, optional, told_row, logged, step_events, section_events, horizon_events, said_of, done_events}
use Rattle.cc_lists.specs.Subjects.{lines_of}

-- ---- lines of steps

abbrev pub lines_of_steps : List Step → List LogLine
lines_of_steps [] = []
lines_of_steps (Derive clause chain ∷ steps) = lines.Derived clause chain ∷ lines_of_steps steps
lines_of_steps (Tell row ∷ steps) = lines.Block row ∷ lines_of_steps steps

abbrev pub lines_of_word : Option EndWord → List LogLine
lines_of_word None = []
lines_of_word (Some word) = lines.End word ∷ []

-- nothing, or what begins with a heading
abbrev pub IsHeaded : List LogLine → Type 0
IsHeaded [] = Unit {0}
IsHeaded (lines.Section conditions horizon ∷ more) = Unit {0}
IsHeaded (lines.Derived clause chain ∷ more) = ⊥
IsHeaded (lines.Block row ∷ more) = ⊥
IsHeaded (lines.End word ∷ more) = ⊥

-- the steps and the end word of the section whose inside stands in front, and what is behind it
abbrev Inside : Type 0
Inside = List Step × Option EndWord × List LogLine

abbrev with_step : Step → Inside → Inside
with_step step (steps, word, more) = (step ∷ steps, word, more)

abbrev inside_of : List LogLine → Inside
inside_of [] = ([], None, [])
inside_of (lines.Section conditions horizon ∷ more) = ([], None, lines.Section conditions horizon ∷ more)
inside_of (lines.Derived clause chain ∷ more) = with_step (Derive clause chain) (inside_of more)
inside_of (lines.Block row ∷ more) = with_step (Tell row) (inside_of more)
inside_of (lines.End word ∷ more) = ([], Some word, more)

word_read : (word : Option EndWord) (more : List LogLine) → IsHeaded more → inside_of (lines_of_word word ++ more) ≡ ([], word, more)
word_read (Some word) more headed = refl
word_read None [] headed = refl
word_read None (lines.Section conditions horizon ∷ more) headed = refl
word_read None (line ∷ more) headed = absurd headed

inside_read : (steps : List Step) (word : Option EndWord) (more : List LogLine) → IsHeaded more →
    inside_of (lines_of_steps steps ++ (lines_of_word word ++ more)) ≡ (steps, word, more)
inside_read [] word more headed = word_read word more headed
inside_read (Derive clause chain ∷ steps) word more headed = ap (with_step (Derive clause chain)) (inside_read steps word more headed)
inside_read (Tell row ∷ steps) word more headed = ap (with_step (Tell row)) (inside_read steps word more headed)

-- ---- lines of events

pub lines_append : (a b : List Told) → lines_of (a ++ b) ≡ lines_of a ++ lines_of b
lines_append a b = flat_map-append (λ one. line_told one.event) a b

steps_lines : (horizon number : ℕ) (steps : List Step) → lines_of (step_events horizon number steps) ≡ lines_of_steps steps
steps_lines horizon number [] = refl
steps_lines horizon number (Derive clause chain ∷ steps) = ap (λ (all : List LogLine). lines.Derived clause chain ∷ all) (steps_lines horizon number steps)
steps_lines horizon number (Tell row ∷ steps) = ap (λ (all : List LogLine). lines.Block row ∷ all) (steps_lines horizon (number + 1) steps)

last_lines : (horizon number : ℕ) (last : Option (List ℕ)) → lines_of (map (told_row (events.History horizon number)) (optional last)) ≡ []
last_lines horizon number None = refl
last_lines horizon number (Some row) = refl

word_lines : (word : Option EndWord) → lines_of (map (λ w. logged (lines.End w)) (optional word)) ≡ lines_of_word word
word_lines None = refl
word_lines (Some word) = refl

section_lines : (conditions : Bool) (horizon : ℕ) (section : Section) →
    lines_of (section_events conditions horizon section) ≡ lines.Section conditions horizon ∷ (lines_of_steps section.steps ++ lines_of_word section.word)
section_lines conditions horizon section =
    let steps = step_events horizon 1 section.steps in
    let rows = map (told_row (events.History horizon (length (denied_rows section) + 1))) (optional section.last) in
    let last = map (λ w. logged (lines.End w)) (optional section.word) in
    let front : lines_of (steps ++ rows) ≡ lines_of_steps section.steps =
    lines_append steps rows ∙ ap₂ (λ (a b : List LogLine). a ++ b) (steps_lines horizon 1 section.steps) (last_lines horizon (length (denied_rows section) + 1) section.last)
    ∙ append-nil (lines_of_steps section.steps) in
    ap (λ (all : List LogLine). lines.Section conditions horizon ∷ all)
    (lines_append (steps ++ rows) last ∙ ap₂ (λ (a b : List LogLine). a ++ b) front (word_lines section.word))

-- ---- sections that have the same lines

abbrev pub IsAlike : Section → Section → Type 0
IsAlike one other = (one.steps ≡ other.steps) × (one.word ≡ other.word)

behind_first : List LogLine → List LogLine
behind_first [] = []
behind_first (line ∷ more) = more

section_read : (conditions : Bool) (horizon : ℕ) (section : Section) (more : List LogLine) → IsHeaded more →
    inside_of (behind_first (lines_of (section_events conditions horizon section) ++ more)) ≡ (section.steps, section.word, more)
unfolding behind_first
section_read conditions horizon section more headed =
    ap (λ (all : List LogLine). inside_of (behind_first (all ++ more))) (section_lines conditions horizon section)
    ∙ ap inside_of (append_assoc (lines_of_steps section.steps) (lines_of_word section.word) more)
    ∙ inside_read section.steps section.word more headed

pub sections_alike : (conditions : Bool) (horizon : ℕ) (one other : Section) (more others : List LogLine) → IsHeaded more → IsHeaded others →
    lines_of (section_events conditions horizon one) ++ more ≡ lines_of (section_events conditions horizon other) ++ others →
    IsAlike one other × (more ≡ others)
sections_alike conditions horizon one other more others headed other_headed same =
    let inside : (one.steps, one.word, more) ≡ (other.steps, other.word, others) =
    sym (section_read conditions horizon one more headed) ∙ ap (λ (all : List LogLine). inside_of (behind_first all)) same
    ∙ section_read conditions horizon other others other_headed in
    ((ap (λ (i : Inside). i.0) inside, ap (λ (i : Inside). i.1) inside), ap (λ (i : Inside). i.2) inside)

-- ---- the lines of horizons

-- of a claim that is asked: those of both its sections
abbrev pub claim_lines : ℕ → Section → Section → List LogLine
claim_lines horizon conditions claim = lines_of (section_events true horizon conditions) ++ lines_of (section_events false horizon claim)

pub asked_lines : (horizon : ℕ) (conditions claim : Section) → lines_of (horizon_events horizon (Claim conditions claim)) ≡ claim_lines horizon conditions claim
asked_lines horizon conditions claim = lines_append (section_events true horizon conditions) (section_events false horizon claim)

pub failed_lines : (horizon : ℕ) (conditions claim : Section) (row : List ℕ) →
    lines_of (horizon_events horizon (Failure conditions claim row)) ≡ claim_lines horizon conditions claim
failed_lines horizon conditions claim row =
    lines_append (section_events true horizon conditions ++ section_events false horizon claim) (told_row (events.Counterexample horizon) row ∷ [])
    ∙ append-nil _ ∙ asked_lines horizon conditions claim

said_lines : (horizon : ℕ) (first : Horizon) → lines_of (said_of horizon first) ≡ []
said_lines horizon (Histories section) = refl
said_lines horizon (Conditions section) = refl
said_lines horizon (Claim conditions claim) = refl
said_lines horizon (Failure conditions claim row) = refl

pub done_lines : (horizon : ℕ) (first : Horizon) (others : List Horizon) →
    lines_of (done_events horizon (first ∷ others)) ≡ lines_of (horizon_events horizon first) ++ lines_of (done_events (horizon + 1) others)
done_lines horizon first others =
    lines_append (horizon_events horizon first ++ said_of horizon first) (done_events (horizon + 1) others)
    ∙ ap (λ (all : List LogLine). all ++ lines_of (done_events (horizon + 1) others))
    (lines_append (horizon_events horizon first) (said_of horizon first)
    ∙ ap (λ (all : List LogLine). lines_of (horizon_events horizon first) ++ all) (said_lines horizon first) ∙ append-nil (lines_of (horizon_events horizon first)))

pub horizon_headed : (horizon : ℕ) (first : Horizon) (more : List LogLine) → IsHeaded (lines_of (horizon_events horizon first) ++ more)
horizon_headed horizon (Histories section) more = tt
horizon_headed horizon (Conditions section) more = tt
horizon_headed horizon (Claim conditions claim) more = tt
horizon_headed horizon (Failure conditions claim row) more = tt

pub some_line : (line : LogLine) (more : List LogLine) → line ∷ more ≡ [] → ⊥
some_line line more none = absurd cc

-- a horizon that was begun has lines
pub horizon_told : (horizon : ℕ) (first : Horizon) (more : List LogLine) → lines_of (horizon_events horizon first) ++ more ≡ [] → ⊥
horizon_told horizon (Histories section) more none = some_line _ _ none
horizon_told horizon (Conditions section) more none = some_line _ _ none
horizon_told horizon (Claim conditions claim) more none = some_line _ _ none
horizon_told horizon (Failure conditions claim row) more none = some_line _ _ none
