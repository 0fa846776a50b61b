-- The events of runs that tell the truth: their endings, the horizons that they are done with, and the rows that they tell.
use Rattle.std.proofs.Common.{◌≡◌, ℕ, zero, suc, ◌+◌, ◌≤◌, Bool, true, false, List, [], ◌∷◌, ◌++◌, length, map, Option, Some, None, refl, sym, ap, subst, ◌∙◌, append-nil, arith}
use Rattle.std.specs.Prelude.{flat_map, Contains, IfSome}
use Rattle.std.proofs.lemmas.List.{same_from_push}
use Rattle.cc_defs.specs.declared.event.Ending.{Ending}
use Rattle.cc_defs.specs.declared.event.Event.{Event}
use Rattle.cc_defs.specs.declared.event.Event.TheVariants as events
use Rattle.cc_defs.specs.declared.event.Told.{Told}
use Rattle.cc_defs.specs.declared.log.EndWord.{EndWord}
use Rattle.cc_defs.specs.declared.log.LogLine.{LogLine}
use Rattle.cc_defs.specs.declared.log.LogLine.TheVariants as lines
use Rattle.cc_defs.specs.Conditions.{IsSignatureOfDescription}
use Rattle.cc_defs.specs.Description.{Description, domain_sizes, sizes_at}
use Rattle.cc_defs.specs.Histories.{AreFirst}
use Rattle.cc_defs.specs.Paths.{IsPath}
use Rattle.cc_defs.specs.Resolved.{Query}
use Rattle.cc_defs.specs.Rows.{IsRow}
use Rattle.cc_defs.specs.Runs.{Ask, Step, Derive, Tell, Section, Horizon, Histories, Conditions, Claim, Failure, Run, AreDone, IsFairRun, IsTrueOf, denied_rows, done_events, events_of, first_horizon, horizon_at, horizon_events, key_row, last_horizon, logged, optional, row_told, rows_of, said_of, section_events, step_events, told, told_row}
use Rattle.cc_defs.specs.Signatures.{Signature}
use Rattle.cc_lists.specs.Subjects.{with_row}
use Rattle.cc_tell.specs.EventTexts.{IsRowOfEvent}

-- ---- counting events

abbrev tally : (Event → ℕ) → List Told → ℕ
tally weight [] = 0
tally weight (one ∷ others) = weight one.event + tally weight others

tally_both : (weight : Event → ℕ) (a b : List Told) → tally weight (a ++ b) ≡ tally weight a + tally weight b
tally_both weight [] b = omega arith
tally_both weight (one ∷ a) b = let rest = tally_both weight a b in omega arith

-- nothing counts of what is told within a horizon
record IsQuiet (weight : Event → ℕ) : Type 0 where
  pub log : (line : LogLine) → weight (events.Log line) ≡ 0
  pub history : (horizon number : ℕ) → weight (events.History horizon number) ≡ 0
  pub counterexample : (horizon : ℕ) → weight (events.Counterexample horizon) ≡ 0

steps_quiet : (weight : Event → ℕ) → IsQuiet weight → (horizon number : ℕ) (steps : List Step) → tally weight (step_events horizon number steps) ≡ 0
steps_quiet weight quiet horizon number [] = refl
steps_quiet weight quiet horizon number (Derive clause chain ∷ steps) =
    let one = quiet.log (lines.Derived clause chain) in let rest = steps_quiet weight quiet horizon number steps in omega arith
steps_quiet weight quiet horizon number (Tell row ∷ steps) =
    let one = quiet.history horizon number in
    let two = quiet.log (lines.Block row) in
    let rest = steps_quiet weight quiet horizon (number + 1) steps in omega arith

last_quiet : (weight : Event → ℕ) → IsQuiet weight → (horizon number : ℕ) (last : Option (List ℕ)) →
    tally weight (map (told_row (events.History horizon number)) (optional last)) ≡ 0
last_quiet weight quiet horizon number None = refl
last_quiet weight quiet horizon number (Some row) = let one = quiet.history horizon number in omega arith

word_quiet : (weight : Event → ℕ) → IsQuiet weight → (word : Option EndWord) → tally weight (map (λ (w : EndWord). logged (lines.End w)) (optional word)) ≡ 0
word_quiet weight quiet None = refl
word_quiet weight quiet (Some word) = let one = quiet.log (lines.End word) in omega arith

three_quiet : (weight : Event → ℕ) (a b c : List Told) → tally weight a ≡ 0 → tally weight b ≡ 0 → tally weight c ≡ 0 → tally weight (a ++ b ++ c) ≡ 0
three_quiet weight a b c p q r = let one = tally_both weight (a ++ b) c in let two = tally_both weight a b in omega arith

section_quiet : (weight : Event → ℕ) → IsQuiet weight → (conditions : Bool) (horizon : ℕ) (section : Section) → tally weight (section_events conditions horizon section) ≡ 0
section_quiet weight quiet conditions horizon section =
    let one = quiet.log (lines.Section conditions horizon) in
    let rest = three_quiet weight (step_events horizon 1 section.steps)
    (map (told_row (events.History horizon (length (denied_rows section) + 1))) (optional section.last))
    (map (λ (w : EndWord). logged (lines.End w)) (optional section.word))
    (steps_quiet weight quiet horizon 1 section.steps)
    (last_quiet weight quiet horizon (length (denied_rows section) + 1) section.last)
    (word_quiet weight quiet section.word) in
    omega arith

horizon_quiet : (weight : Event → ℕ) → IsQuiet weight → (horizon : ℕ) (there : Horizon) → tally weight (horizon_events horizon there) ≡ 0
horizon_quiet weight quiet horizon (Histories section) = section_quiet weight quiet false horizon section
horizon_quiet weight quiet horizon (Conditions section) = section_quiet weight quiet true horizon section
horizon_quiet weight quiet horizon (Claim conditions claim) =
    let both = tally_both weight (section_events true horizon conditions) (section_events false horizon claim) in
    let one = section_quiet weight quiet true horizon conditions in
    let two = section_quiet weight quiet false horizon claim in omega arith
horizon_quiet weight quiet horizon (Failure conditions claim row) =
    let last : tally weight (told_row (events.Counterexample horizon) row ∷ []) ≡ 0 = let one = quiet.counterexample horizon in omega arith in
    three_quiet weight (section_events true horizon conditions) (section_events false horizon claim) (told_row (events.Counterexample horizon) row ∷ [])
    (section_quiet weight quiet true horizon conditions) (section_quiet weight quiet false horizon claim) last

next_quiet : (weight : Event → ℕ) → IsQuiet weight → (horizon : ℕ) (next : Option Horizon) → tally weight (flat_map (horizon_events horizon) (optional next)) ≡ 0
next_quiet weight quiet horizon None = refl
next_quiet weight quiet horizon (Some there) =
    ap (λ (l : List Told). tally weight l) (append-nil (horizon_events horizon there)) ∙ horizon_quiet weight quiet horizon there

abbrev end_events : Option Ending → List Told
end_events ending = map (λ (e : Ending). told (events.Ended e)) (optional ending)

-- what counts of a run
tally_run : (weight : Event → ℕ) → IsQuiet weight → (first : ℕ) (run : Run) →
    tally weight (events_of first run) ≡ tally weight (done_events first run.done) + tally weight (end_events run.ending)
tally_run weight quiet first run =
    let outer = tally_both weight (done_events first run.done ++ flat_map (horizon_events (horizon_at first run)) (optional run.next)) (end_events run.ending) in
    let inner = tally_both weight (done_events first run.done) (flat_map (horizon_events (horizon_at first run)) (optional run.next)) in
    let none = next_quiet weight quiet (horizon_at first run) run.next in omega arith

-- ---- endings

abbrev is_ending : Event → ℕ
is_ending (events.Log line) = 0
is_ending (events.NoHistory horizon) = 0
is_ending (events.History horizon number) = 0
is_ending (events.NoConditions horizon) = 0
is_ending (events.Holds horizon) = 0
is_ending (events.Counterexample horizon) = 0
is_ending (events.Ended ending) = 1

endings_quiet : IsQuiet is_ending
endings_quiet = record { log = λ line. refl; history = λ horizon number. refl; counterexample = λ horizon. refl }

said_no_ending : (horizon : ℕ) (there : Horizon) → tally is_ending (said_of horizon there) ≡ 0
said_no_ending horizon (Histories section) = refl
said_no_ending horizon (Conditions section) = refl
said_no_ending horizon (Claim conditions claim) = refl
said_no_ending horizon (Failure conditions claim row) = refl

done_no_ending : (horizon : ℕ) (done : List Horizon) → tally is_ending (done_events horizon done) ≡ 0
done_no_ending horizon [] = refl
done_no_ending horizon (first ∷ others) =
    three_quiet is_ending (horizon_events horizon first) (said_of horizon first) (done_events (horizon + 1) others)
    (horizon_quiet is_ending endings_quiet horizon first) (said_no_ending horizon first) (done_no_ending (horizon + 1) others)

-- a run that has not ended has no ending among its events
open_no_ending : (first : ℕ) (run : Run) → run.ending ≡ None → tally is_ending (events_of first run) ≡ 0
open_no_ending first run still =
    let all = tally_run is_ending endings_quiet first run in
    let done = done_no_ending first run.done in
    let last : tally is_ending (end_events run.ending) ≡ 0 = ap (λ (e : Option Ending). tally is_ending (end_events e)) still in omega arith

ended_one : (front : List Told) (ending : Ending) → tally is_ending (front ++ told (events.Ended ending) ∷ []) ≡ tally is_ending front + 1
ended_one front ending = tally_both is_ending front (told (events.Ended ending) ∷ [])

abbrev ending_or : Ending → Event → Ending
ending_or other (events.Ended ending) = ending
ending_or other (events.Log line) = other
ending_or other (events.NoHistory horizon) = other
ending_or other (events.History horizon number) = other
ending_or other (events.NoConditions horizon) = other
ending_or other (events.Holds horizon) = other
ending_or other (events.Counterexample horizon) = other

-- the last event of a run is an ending only where the run has ended so
ended_by : (front last : List Told) (given : Option Ending) (ending : Ending) → tally is_ending front ≡ 0 →
    front ++ end_events given ≡ last ++ told (events.Ended ending) ∷ [] → given ≡ Some ending
ended_by front last None ending none same =
    let one = ap (λ (l : List Told). tally is_ending l) same in
    let more = ended_one last ending in
    let all = tally_both is_ending front [] in
    absurd (omega arith)
ended_by front last (Some given) ending none same =
    let ends = same_from_push front last (told (events.Ended given)) (told (events.Ended ending)) same in
    ap (λ (one : Told). Some (ending_or given one.event)) ends.1

pub ends_so : (first : ℕ) (run : Run) (given : List Told) (ending : Ending) → given ++ told (events.Ended ending) ∷ [] ≡ events_of first run → run.ending ≡ Some ending
ends_so first run given ending is =
    let front = done_events first run.done ++ flat_map (horizon_events (horizon_at first run)) (optional run.next) in
    let none : tally is_ending front ≡ 0 =
    let both = tally_both is_ending (done_events first run.done) (flat_map (horizon_events (horizon_at first run)) (optional run.next)) in
    let done = done_no_ending first run.done in
    let next = next_quiet is_ending endings_quiet (horizon_at first run) run.next in omega arith in
    ended_by front given run.ending ending none (sym is)

not_ended : (weight : ℕ) (ending : Option Ending) → weight ≡ 0 → weight ≡ tally is_ending (end_events ending) → ending ≡ None
not_ended weight None none is = refl
not_ended weight (Some ending) none is = absurd (omega arith)

-- of two runs with the same events neither has ended where one has not
pub both_open : (first : ℕ) (run other : Run) → events_of first run ≡ events_of first other → run.ending ≡ None → other.ending ≡ None
both_open first run other same still =
    let all = tally_run is_ending endings_quiet first other in
    let done = done_no_ending first other.done in
    let none = open_no_ending first run still in
    let equal = ap (λ (l : List Told). tally is_ending l) same in
    not_ended (tally is_ending (events_of first other)) other.ending (omega arith) (omega arith)

-- ---- rows

-- the row of a history or a counterexample is one of its horizon
abbrev HasItsRow : Description → Event → Option (List ℕ) → Type 0
HasItsRow d event None = Unit {0}
HasItsRow d (events.History horizon number) (Some row) = IsRow (sizes_at d horizon) row
HasItsRow d (events.Counterexample horizon) (Some row) = IsRow (sizes_at d horizon) row
HasItsRow d (events.Log line) (Some row) = Unit {0}
HasItsRow d (events.NoHistory horizon) (Some row) = Unit {0}
HasItsRow d (events.NoConditions horizon) (Some row) = Unit {0}
HasItsRow d (events.Holds horizon) (Some row) = Unit {0}
HasItsRow d (events.Ended ending) (Some row) = Unit {0}

abbrev HaveRows : Description → List Told → Type 0
HaveRows d [] = Unit {0}
HaveRows d (one ∷ others) = HasItsRow d one.event one.row × HaveRows d others

module _ (d : Description) where
  rows_both : (a b : List Told) → HaveRows d a → HaveRows d b → HaveRows d (a ++ b)
  rows_both [] b p q = q
  rows_both (one ∷ a) b p q = (p.0, rows_both a b p.1 q)

  rows_last : (front : List Told) (one : Told) → HaveRows d (front ++ one ∷ []) → HasItsRow d one.event one.row
  rows_last [] one have = have.0
  rows_last (first ∷ front) one have = rows_last front one have.1

  abbrev AreRows : ℕ → List (List ℕ) → Type 0
  AreRows horizon [] = Unit {0}
  AreRows horizon (row ∷ rows) = IsRow (sizes_at d horizon) row × AreRows horizon rows

  are_rows : (horizon : ℕ) (rows : List (List ℕ)) → ((row : List ℕ) → Contains rows row → IsRow (sizes_at d horizon) row) → AreRows horizon rows
  are_rows horizon [] each = tt
  are_rows horizon (row ∷ rows) each =
      (each row (0, omega arith, refl), are_rows horizon rows (λ other there. each other (suc there.0, (let low = there.1 in omega arith), there.2)))

  rows_front : (horizon : ℕ) (a b : List (List ℕ)) → AreRows horizon (a ++ b) → AreRows horizon a
  rows_front horizon [] b are = tt
  rows_front horizon (row ∷ a) b are = (are.0, rows_front horizon a b are.1)

  rows_behind : (horizon : ℕ) (a b : List (List ℕ)) → AreRows horizon (a ++ b) → AreRows horizon b
  rows_behind horizon [] b are = are
  rows_behind horizon (row ∷ a) b are = rows_behind horizon a b are.1

  path_row : (horizon : ℕ) (row : List ℕ) → IsPath d horizon row → IsRow (sizes_at d horizon) row
  path_row zero row is = is.interprets
  path_row (suc horizon) row is = is.0

  first_rows : (q : Query) (horizon : ℕ) (key : Option (List ℕ)) (rows : List (List ℕ)) → AreFirst d q horizon key rows → AreRows horizon rows
  first_rows q horizon key rows first = are_rows horizon rows (λ row there. path_row horizon row (first.each row there).path)

  steps_rows : (horizon number : ℕ) (steps : List Step) → AreRows horizon (flat_map row_told steps) → HaveRows d (step_events horizon number steps)
  steps_rows horizon number [] are = tt
  steps_rows horizon number (Derive clause chain ∷ steps) are = (tt, steps_rows horizon number steps are)
  steps_rows horizon number (Tell row ∷ steps) are = (are.0, (tt, steps_rows horizon (number + 1) steps are.1))

  last_rows : (horizon number : ℕ) (last : Option (List ℕ)) → AreRows horizon (optional last) → HaveRows d (map (told_row (events.History horizon number)) (optional last))
  last_rows horizon number None are = tt
  last_rows horizon number (Some row) are = (are.0, tt)

  word_rows : (word : Option EndWord) → HaveRows d (map (λ (w : EndWord). logged (lines.End w)) (optional word))
  word_rows None = tt
  word_rows (Some word) = (tt, tt)

  section_rows : (conditions : Bool) (horizon : ℕ) (section : Section) → AreRows horizon (rows_of section) → HaveRows d (section_events conditions horizon section)
  section_rows conditions horizon section are = (
    tt,
    rows_both (step_events horizon 1 section.steps ++ map (told_row (events.History horizon (length (denied_rows section) + 1))) (optional section.last))
        (map (λ (w : EndWord). logged (lines.End w)) (optional section.word))
        (rows_both (step_events horizon 1 section.steps) (map (told_row (events.History horizon (length (denied_rows section) + 1))) (optional section.last))
        (steps_rows horizon 1 section.steps (rows_front horizon (denied_rows section) (optional section.last) are))
        (last_rows horizon (length (denied_rows section) + 1) section.last (rows_behind horizon (denied_rows section) (optional section.last) are)))
        (word_rows section.word),
  )

  silent_rows : (horizon : ℕ) (section : Section) → rows_of section ≡ [] → AreRows horizon (rows_of section)
  silent_rows horizon section silent = subst (λ (rows : List (List ℕ)). AreRows horizon rows) (sym silent) tt

  module _ (q : Query) (ask : Ask) where
    horizon_rows : (horizon : ℕ) (there : Horizon) → IsTrueOf d q ask horizon there → HaveRows d (horizon_events horizon there)
    horizon_rows horizon (Histories section) is = section_rows false horizon section (first_rows q horizon (key_row ask) (rows_of section) is.1.first)
    horizon_rows horizon (Conditions section) is = section_rows true horizon section (silent_rows horizon section is.1.silent)
    horizon_rows horizon (Claim conditions claim) is =
        rows_both (section_events true horizon conditions) (section_events false horizon claim)
        (section_rows true horizon conditions (silent_rows horizon conditions is.1.silent)) (section_rows false horizon claim (silent_rows horizon claim is.3.silent))
    horizon_rows horizon (Failure conditions claim row) is =
        rows_both (section_events true horizon conditions ++ section_events false horizon claim) (told_row (events.Counterexample horizon) row ∷ [])
        (rows_both (section_events true horizon conditions) (section_events false horizon claim)
        (section_rows true horizon conditions (silent_rows horizon conditions is.1.silent)) (section_rows false horizon claim (silent_rows horizon claim is.3.silent)))
        ((first_rows q horizon None (row ∷ []) is.5).0, tt)

    said_rows : (horizon : ℕ) (there : Horizon) → HaveRows d (said_of horizon there)
    said_rows horizon (Histories section) = (tt, tt)
    said_rows horizon (Conditions section) = (tt, tt)
    said_rows horizon (Claim conditions claim) = (tt, tt)
    said_rows horizon (Failure conditions claim row) = tt

    done_rows : (horizon : ℕ) (done : List Horizon) → AreDone d q ask horizon done → HaveRows d (done_events horizon done)
    done_rows horizon [] are = tt
    done_rows horizon (first ∷ others) are =
        rows_both (horizon_events horizon first ++ said_of horizon first) (done_events (horizon + 1) others)
        (rows_both (horizon_events horizon first) (said_of horizon first) (horizon_rows horizon first are.0) (said_rows horizon first))
        (done_rows (horizon + 1) others are.2)

    next_rows : (horizon last : ℕ) (next : Option Horizon) → IfSome next (λ there. (horizon ≤ last) × IsTrueOf d q ask horizon there) →
        HaveRows d (flat_map (horizon_events horizon) (optional next))
    next_rows horizon last None is = tt
    next_rows horizon last (Some there) is = subst (λ (l : List Told). HaveRows d l) (sym (append-nil (horizon_events horizon there))) (horizon_rows horizon there is.1)

    end_rows : (ending : Option Ending) → HaveRows d (end_events ending)
    end_rows None = tt
    end_rows (Some ending) = (tt, tt)

    run_rows : (first last : ℕ) (run : Run) → AreDone d q ask first run.done →
        IfSome run.next (λ there. (horizon_at first run ≤ last) × IsTrueOf d q ask (horizon_at first run) there) → HaveRows d (events_of first run)
    run_rows first last run done next =
        rows_both (done_events first run.done ++ flat_map (horizon_events (horizon_at first run)) (optional run.next)) (end_events run.ending)
        (rows_both (done_events first run.done) (flat_map (horizon_events (horizon_at first run)) (optional run.next))
        (done_rows first run.done done) (next_rows (horizon_at first run) last run.next next))
        (end_rows run.ending)

-- ---- the same sizes in each description with a signature

sizes_from : (d other : Description) → d.universe.fluents ≡ other.universe.fluents → d.universe.actions ≡ other.universe.actions → (horizon : ℕ) → sizes_at d horizon ≡ sizes_at other horizon
sizes_from d other fluents actions zero = ap domain_sizes fluents
sizes_from d other fluents actions (suc horizon) =
    λ i. domain_sizes (fluents i) ++ domain_sizes (actions i) ++ sizes_from d other fluents actions horizon i

pub same_sizes : (d other : Description) (signature : Signature) → IsSignatureOfDescription d signature → IsSignatureOfDescription other signature → (horizon : ℕ) →
    sizes_at d horizon ≡ sizes_at other horizon
same_sizes d other signature is is_other horizon = sizes_from d other (sym is.fluents ∙ is_other.fluents) (sym is.actions ∙ is_other.actions) horizon

row_there : (d : Description) (signature : Signature) (event : Event) (row : List ℕ) → IsSignatureOfDescription d signature →
    HasItsRow d (with_row event row).event (with_row event row).row → IsRowOfEvent signature event row
row_there d signature (events.Log line) row is has = tt
row_there d signature (events.NoHistory horizon) row is has = tt
row_there d signature (events.History horizon number) row is has =
    λ other is_other. subst (λ (sizes : List ℕ). IsRow sizes row) (same_sizes d other signature is is_other horizon) has
row_there d signature (events.NoConditions horizon) row is has = tt
row_there d signature (events.Holds horizon) row is has = tt
row_there d signature (events.Counterexample horizon) row is has =
    λ other is_other. subst (λ (sizes : List ℕ). IsRow sizes row) (same_sizes d other signature is is_other horizon) has
row_there d signature (events.Ended ending) row is has = tt

-- the row of the last event of such a run
pub last_row : (d : Description) (q : Query) (ask : Ask) (run : Run) (signature : Signature) (given : List Told) (event : Event) (row : List ℕ) →
    IsFairRun d q ask run → IsSignatureOfDescription d signature → given ++ with_row event row ∷ [] ≡ events_of (first_horizon q ask.after) run →
    IsRowOfEvent signature event row
last_row d q ask run signature given event row fair is same =
    let all : HaveRows d (given ++ with_row event row ∷ []) =
    subst (λ (l : List Told). HaveRows d l) (sym same) (run_rows d q ask (first_horizon q ask.after) (last_horizon q ask.after) run fair.done fair.next) in
    row_there d signature event row is (rows_last d given (with_row event row) all)
