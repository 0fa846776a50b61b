-- How long the printed texts of a run's parts are.
use Rattle.std.proofs.Common.{◌≡◌, ◌∙◌, ℕ, ◌+◌, ◌<◌, true, false, Bool, List, [], ◌∷◌, ◌++◌, length, map, Option, Some, None, refl, sym, subst, ap, arith, length-append}
use Rattle.std.proofs.lemmas.Grind.{flat_map-append}
use Rattle.cc_defs.specs.declared.event.Ending.{Ending}
use Rattle.cc_defs.specs.declared.event.Ending.TheVariants as endings
use Rattle.cc_defs.specs.declared.event.Event.TheVariants as events
use Rattle.cc_defs.specs.declared.event.Told.{Told}
use Rattle.cc_defs.specs.declared.log.EndWord.{EndWord}
use Rattle.cc_defs.specs.declared.log.LogLine.TheVariants as lines
use Rattle.cc_defs.specs.Description.{Description}
use Rattle.cc_defs.specs.Events.{out_text, told_text}
use Rattle.cc_defs.specs.Runs.{Ask, Step, Section, Horizon, Histories, Conditions, Claim, Failure, IsExhausted, denied_rows, optional, told, told_row, logged, step_events, section_events, horizon_events, said_of, done_events}
use Rattle.cc_lists.proofs.LinesRead.{IsAlike}

abbrev pub size : Description → List Told → ℕ
size d told = length (out_text d told)

pub size_append : (d : Description) (a b : List Told) → size d (a ++ b) ≡ size d a + size d b
size_append d a b = ap (λ (text : List ℕ). length text) (flat_map-append (told_text d) a b) ∙ length-append (out_text d a) (out_text d b)

abbrev is_begun : List ℕ → Bool
is_begun [] = false
is_begun (first ∷ rest) = true

some_bytes : (text : List ℕ) → is_begun text ≡ true → 0 < length text
some_bytes [] begun = absurd cc
some_bytes (first ∷ rest) begun = omega arith

-- ---- an ending, a row, what is said of a horizon

abbrev pub ending_events : Option Ending → List Told
ending_events ending = map (λ e. told (events.Ended e)) (optional ending)

ending_begun : (d : Description) (ending : Ending) → is_begun (out_text d (ending_events (Some ending))) ≡ true
ending_begun d (endings.Complete horizon listed) = refl
ending_begun d (endings.Asked horizon listed) = refl
ending_begun d (endings.Spent horizon listed) = refl
ending_begun d endings.NoHistory = refl
ending_begun d endings.ClaimHolds = refl
ending_begun d endings.ClaimEmpty = refl
ending_begun d endings.ClaimFails = refl

pub ending_printed : (d : Description) (ending : Ending) → 0 < size d (ending_events (Some ending))
ending_printed d ending = some_bytes (out_text d (ending_events (Some ending))) (ending_begun d ending)

said_begun : (d : Description) (ask : Ask) (horizon : ℕ) (first : Horizon) → IsExhausted ask first → is_begun (out_text d (said_of horizon first)) ≡ true
said_begun d ask horizon (Histories section) exhausted = refl
said_begun d ask horizon (Conditions section) exhausted = refl
said_begun d ask horizon (Claim conditions claim) exhausted = refl
said_begun d ask horizon (Failure conditions claim row) exhausted = absurd exhausted

pub said_printed : (d : Description) (ask : Ask) (horizon : ℕ) (first : Horizon) → IsExhausted ask first → 0 < size d (said_of horizon first)
said_printed d ask horizon first exhausted = some_bytes (out_text d (said_of horizon first)) (said_begun d ask horizon first exhausted)

pub counterexample_printed : (d : Description) (horizon : ℕ) (row : List ℕ) → 0 < size d (told_row (events.Counterexample horizon) row ∷ [])
counterexample_printed d horizon row = some_bytes (out_text d (told_row (events.Counterexample horizon) row ∷ [])) refl

-- ---- sections

abbrev last_events : ℕ → ℕ → Option (List ℕ) → List Told
last_events horizon number last = map (told_row (events.History horizon number)) (optional last)

history_printed : (d : Description) (horizon number : ℕ) (row : List ℕ) → 0 < size d (last_events horizon number (Some row))
history_printed d horizon number row = some_bytes (out_text d (last_events horizon number (Some row))) refl

word_silent : (d : Description) (word : Option EndWord) → size d (map (λ w. logged (lines.End w)) (optional word)) ≡ 0
word_silent d None = refl
word_silent d (Some word) = refl

section_size : (d : Description) (conditions : Bool) (horizon : ℕ) (section : Section) →
    size d (section_events conditions horizon section)
    ≡ size d (step_events horizon 1 section.steps) + size d (last_events horizon (length (denied_rows section) + 1) section.last)
section_size d conditions horizon section =
    let steps = step_events horizon 1 section.steps in
    let rows = last_events horizon (length (denied_rows section) + 1) section.last in
    let word = map (λ w. logged (lines.End w)) (optional section.word) in
    let both : size d ((steps ++ rows) ++ word) ≡ size d (steps ++ rows) + size d word = size_append d (steps ++ rows) word in
    let front : size d (steps ++ rows) ≡ size d steps + size d rows = size_append d steps rows in
    let silent : size d word ≡ 0 = word_silent d section.word in
    let inside : size d ((steps ++ rows) ++ word) ≡ size d steps + size d rows = omega (arith, both, front, silent) in
    inside

-- a section that told its last history prints more
pub section_longer : (d : Description) (conditions : Bool) (horizon : ℕ) (one other : Section) (row : List ℕ) → IsAlike one other →
    one.last ≡ None → other.last ≡ Some row → size d (section_events conditions horizon one) < size d (section_events conditions horizon other)
section_longer d conditions horizon one other row alike none some =
    let one_is = section_size d conditions horizon one in
    let other_is = section_size d conditions horizon other in
    let steps : size d (step_events horizon 1 one.steps) ≡ size d (step_events horizon 1 other.steps) =
    ap (λ (steps : List Step). size d (step_events horizon 1 steps)) alike.0 in
    let short : size d (last_events horizon (length (denied_rows one) + 1) one.last) ≡ 0 =
    ap (λ (last : Option (List ℕ)). size d (last_events horizon (length (denied_rows one) + 1) last)) none in
    let long : 0 < size d (last_events horizon (length (denied_rows other) + 1) other.last) =
    subst (λ (last : Option (List ℕ)). 0 < size d (last_events horizon (length (denied_rows other) + 1) last)) (sym some)
    (history_printed d horizon (length (denied_rows other) + 1) row) in
    omega (arith, one_is, other_is, steps, short, long)

-- ---- horizons

pub asked_size : (d : Description) (horizon : ℕ) (conditions claim : Section) →
    size d (horizon_events horizon (Claim conditions claim)) ≡ size d (section_events true horizon conditions) + size d (section_events false horizon claim)
asked_size d horizon conditions claim = size_append d (section_events true horizon conditions) (section_events false horizon claim)

pub failed_longer : (d : Description) (horizon : ℕ) (conditions claim : Section) (row : List ℕ) →
    size d (horizon_events horizon (Claim conditions claim)) < size d (horizon_events horizon (Failure conditions claim row))
failed_longer d horizon conditions claim row =
    let both = size_append d (section_events true horizon conditions ++ section_events false horizon claim) (told_row (events.Counterexample horizon) row ∷ []) in
    let some = counterexample_printed d horizon row in
    omega (arith, both, some)

pub done_size : (d : Description) (horizon : ℕ) (first : Horizon) (others : List Horizon) →
    size d (done_events horizon (first ∷ others))
    ≡ size d (horizon_events horizon first) + size d (said_of horizon first) + size d (done_events (horizon + 1) others)
done_size d horizon first others =
    let both = size_append d (horizon_events horizon first ++ said_of horizon first) (done_events (horizon + 1) others) in
    let front = size_append d (horizon_events horizon first) (said_of horizon first) in
    omega (arith, both, front)
