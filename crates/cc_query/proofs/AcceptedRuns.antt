-- The log of a run is accepted, section by section, horizon by horizon.
use Rattle.std.proofs.Common.{◌≡◌, ◌≢◌, ◌∙◌, ℕ, ◌+◌, ◌-◌, ◌≤◌, inl, inr, zero, suc, Bool, true, false, List, [], ◌∷◌, ◌++◌, map, length, Option, Some, None, refl, sym, subst, ap, ap₂, arith, append_assoc, append-nil}
use Rattle.std.specs.Prelude.{Contains, IsNone, IfSome, ◌&&◌, not, is_some, flat_map}
use Rattle.std.specs.List.{AllByRecursion}
use Rattle.std.proofs.lemmas.Grind.{flat_map-append}
use Rattle.std.proofs.lemmas.List.{map-append}
use Rattle.std.proofs.lemmas.List.Elements.{Contains-append_left, Contains-append_right}
use Rattle.cc_defs.specs.declared.event.Ending.{Ending}
use Rattle.cc_defs.specs.declared.event.Event.TheVariants as events
use Rattle.cc_defs.specs.declared.event.Told.{Told}
use Rattle.cc_defs.specs.declared.log.EndWord.{EndWord}
use Rattle.cc_defs.specs.declared.log.EndWord.TheVariants as words
use Rattle.cc_defs.specs.declared.log.LogLine.{LogLine}
use Rattle.cc_defs.specs.declared.log.LogLine.TheVariants as lines
use Rattle.cc_defs.specs.declared.log.LogVerdict.TheVariants as verdicts
use Rattle.cc_defs.specs.Description.{Description, sizes_at}
use Rattle.cc_defs.specs.Events.{line_told}
use Rattle.cc_defs.specs.Histories.{AreFirst}
use Rattle.cc_defs.specs.declared.log.Version.TheVariants.{First}
use Rattle.cc_defs.specs.LogTexts.{IsFormed, IsShort, line_text}
use Rattle.cc_defs.specs.Logs.{Subject, SectionText, Standing, AreSections, AreJudged, IsContinued, IsVerdictOf, IsVerdictBehind, at_first}
use Rattle.cc_defs.specs.Paths.{IsPath}
use Rattle.cc_defs.specs.Resolved.{Query}
use Rattle.cc_defs.specs.Rows.{IsRow}
use Rattle.cc_defs.specs.Runs.{Ask, Run, Step, Derive, Tell, Section, Horizon, Histories, Conditions, Claim, Failure, AreDone, IsTrueOf, IsExhausted, IsFairRun, IsFairSection, TellsHistories, EndsWith, axioms_of, denied_rows, rows_of, optional, key_row, told, logged, told_row, step_events, section_events, horizon_events, said_of, done_events, events_of, first_horizon, last_horizon, horizon_at}
use Rattle.cc_defs.specs.Sections.{Right, EndsRightly}
use Rattle.cc_lists.specs.Sections.{step_line}
use Rattle.cc_lists.specs.Subjects.{AreGoodAxioms, HaveGoodAxioms, lines_of, subject_of}
use Rattle.cc_lists.proofs.AcceptedLines.{log_cut, no_headings, not_binary, read_back}
use Rattle.cc_lists.proofs.AcceptedSections.{IsWritten, inner_lines, written}
use Rattle.cc_lists.proofs.Members.{all_front, all_behind, in_first, in_rest}
use Rattle.cc_query.specs.Accepted.{IsReported, WrittenLogsAreAccepted}

-- ---- headings

no_claim : (asks : Bool) → asks ≡ false → false ≡ (asks && not false)
no_claim false is = refl
no_claim true is = sym is

has_claim : (asks : Bool) → asks ≡ true → true ≡ (asks && not false)
has_claim true is = refl
has_claim false is = sym is

in_middle : (asks : Bool) → false ≡ (asks && not true)
in_middle true = refl
in_middle false = refl

-- ---- what is accepted from a standing on

abbrev pub IsAcceptedBehind : Subject → Standing → ℕ → List LogLine → Type 0
IsAcceptedBehind subject standing line all =
    (last : ℕ) × (blocked : ℕ) × (sections : List SectionText) × AreSections First line (map line_text all) sections × AreJudged subject standing sections (verdicts.Accepted subject.first last blocked)

-- these lines are accepted at a horizon, or in its middle, however many rows were blocked, and at whatever line
abbrev pub IsAcceptedAt : Subject → Bool → ℕ → List LogLine → Type 0
IsAcceptedAt subject middle horizon all =
    (blocked at line : ℕ) → IsAcceptedBehind subject (record { middle = middle; horizon = horizon; blocked = blocked; line = at }) line all

closed_at : (subject : Subject) (horizon : ℕ) → horizon ≢ subject.first → IsAcceptedAt subject false horizon []
closed_at subject horizon past blocked at line = (horizon - 1, blocked, [], refl, inl (refl, past, refl))

module _ (subject : Subject) (middle conditions : Bool) (horizon : ℕ) (heading : conditions ≡ (subject.claim && not middle)) (most : horizon ≤ subject.last)
    (short : IsShort horizon) (inside more : List LogLine) where
  abbrev standing : (blocked at : ℕ) → Standing
  standing blocked at = record { middle = middle; horizon = horizon; blocked = blocked; line = at }

  section_goes : (word : EndWord) → IsWritten (subject.axioms conditions horizon) inside word → (blocked at line : ℕ) →
      ((count last behind : ℕ) → (to : ℕ) × (rows : ℕ) × (sections : List SectionText) × AreSections First behind (map line_text more) sections
      × IsContinued (λ next. AreJudged subject next sections (verdicts.Accepted subject.first to rows)) (standing blocked at) conditions word count last (verdicts.Accepted subject.first to rows)) →
      IsAcceptedBehind subject (standing blocked at) line (lines.Section conditions horizon ∷ (inside ++ more))
  section_goes word is blocked at line follows =
      let (count, last, found) = is.found (line + 1) in
      let (to, rows, sections, are, judged) = follows count last (line + 1 + length (map line_text inside)) in (
        to,
        rows,
        record { version = First; conditions = conditions; horizon = horizon; line = line; texts = map line_text inside } ∷ sections,
        (
          line_text (lines.Section conditions horizon),
          map line_text more,
          ap (λ (texts : List (List ℕ)). line_text (lines.Section conditions horizon) ∷ texts) (map-append line_text inside more),
          refl,
          read_back (lines.Section conditions horizon) short,
          no_headings inside is.within,
          are,
          refl,
        ),
        inr (record { conditions = heading; horizon = refl; within = most }, (Right word count last, found, judged)),
      )

  pub empty_goes : IsWritten (subject.axioms conditions horizon) inside words.Empty → IsAcceptedAt subject false (horizon + 1) more →
      IsAcceptedAt subject middle horizon (lines.Section conditions horizon ∷ (inside ++ more))
  empty_goes is next blocked at line = section_goes words.Empty is blocked at line (λ count last behind. next (blocked + count) (last + 1) behind)

pub found_goes : (subject : Subject) (horizon : ℕ) → true ≡ subject.claim → horizon ≤ subject.last → IsShort horizon → (inside more : List LogLine) →
    IsWritten (subject.axioms true horizon) inside words.Found → IsAcceptedAt subject true horizon more →
    IsAcceptedAt subject false horizon (lines.Section true horizon ∷ (inside ++ more))
found_goes subject horizon claim most short inside more is next blocked at line =
    section_goes subject false true horizon (has_claim subject.claim (sym claim)) most short inside more words.Found is blocked at line (λ count last behind. next (blocked + count) (last + 1) behind)

-- ---- the lines of events

lines_append : (a b : List Told) → lines_of (a ++ b) ≡ lines_of a ++ lines_of b
lines_append a b = flat_map-append (λ one. line_told one.event) a b

steps_logged : (horizon number : ℕ) (steps : List Step) → lines_of (step_events horizon number steps) ≡ map step_line steps
steps_logged horizon number [] = refl
steps_logged horizon number (Derive clause chain ∷ steps) = ap (λ (all : List LogLine). lines.Derived clause chain ∷ all) (steps_logged horizon number steps)
steps_logged horizon number (Tell row ∷ steps) = ap (λ (all : List LogLine). lines.Block row ∷ all) (steps_logged horizon (number + 1) steps)

last_logged : (horizon number : ℕ) (last : Option (List ℕ)) → lines_of (map (told_row (events.History horizon number)) (optional last)) ≡ []
last_logged horizon number None = refl
last_logged horizon number (Some row) = refl

word_logged : (word : EndWord) (given : Option EndWord) → given ≡ Some word → lines_of (map (λ w. logged (lines.End w)) (optional given)) ≡ lines.End word ∷ []
word_logged word given is = subst (λ (g : Option EndWord). lines_of (map (λ w. logged (lines.End w)) (optional g)) ≡ lines.End word ∷ []) (sym is) refl

section_logged : (conditions : Bool) (horizon : ℕ) (section : Section) (word : EndWord) → EndsWith word section →
    lines_of (section_events conditions horizon section) ≡ lines.Section conditions horizon ∷ inner_lines section.steps word
section_logged conditions horizon section word ends =
    let steps = step_events horizon 1 section.steps in
    let rows = map (told_row (events.History horizon (length (denied_rows section) + 1))) (optional section.last) in
    let last = map (λ w. logged (lines.End w)) (optional section.word) in
    let front : lines_of (steps ++ rows) ≡ map step_line section.steps ++ [] =
    lines_append steps rows ∙ ap₂ (λ (a b : List LogLine). a ++ b) (steps_logged horizon 1 section.steps) (last_logged horizon (length (denied_rows section) + 1) section.last) in
    ap (λ (all : List LogLine). lines.Section conditions horizon ∷ all)
    (lines_append (steps ++ rows) last ∙ ap₂ (λ (a b : List LogLine). a ++ b) (front ∙ append-nil (map step_line section.steps)) (word_logged word section.word ends))

said_logged : (horizon : ℕ) (first : Horizon) → lines_of (said_of horizon first) ≡ []
said_logged horizon (Histories section) = refl
said_logged horizon (Conditions section) = refl
said_logged horizon (Claim conditions claim) = refl
said_logged horizon (Failure conditions claim row) = refl

done_logged : (horizon : ℕ) (first : Horizon) (others : List Horizon) →
    lines_of (done_events horizon (first ∷ others)) ≡ lines_of (horizon_events horizon first) ++ lines_of (done_events (horizon + 1) others)
done_logged horizon first others =
    lines_append (horizon_events horizon first ++ said_of horizon first) (done_events (horizon + 1) others)
    ∙ ap (λ (all : List LogLine). all ++ lines_of (done_events (horizon + 1) others))
    (lines_append (horizon_events horizon first) (said_of horizon first)
    ∙ ap (λ (all : List LogLine). lines_of (horizon_events horizon first) ++ all) (said_logged horizon first) ∙ append-nil (lines_of (horizon_events horizon first)))

-- ---- rows that were told

path_is_row : (d : Description) (horizon : ℕ) (row : List ℕ) → IsPath d horizon row → IsRow (sizes_at d horizon) row
path_is_row d zero row path = path.interprets
path_is_row d (suc horizon) row path = path.0

all_from : (P : List ℕ → Type 0) (rows : List (List ℕ)) → ((row : List ℕ) → Contains rows row → P row) → AllByRecursion P rows
all_from P [] each = tt
all_from P (row ∷ rows) each = (each row (in_first row rows), all_from P rows (λ r there. each r (in_rest row r rows there)))

first_are_rows : (d : Description) (q : Query) (horizon : ℕ) (key : Option (List ℕ)) (rows : List (List ℕ)) → AreFirst d q horizon key rows →
    AllByRecursion (IsRow (sizes_at d horizon)) rows
first_are_rows d q horizon key rows first = all_from (IsRow (sizes_at d horizon)) rows (λ row there. path_is_row d horizon row (first.each row there).path)

none_are_rows : (sizes : List ℕ) (rows more : List (List ℕ)) → rows ++ more ≡ [] → AllByRecursion (IsRow sizes) rows
none_are_rows sizes [] more none = tt
none_are_rows sizes (row ∷ rows) more none = absurd cc

ending_logged : (ending : Option Ending) → lines_of (map (λ e. told (events.Ended e)) (optional ending)) ≡ []
ending_logged None = refl
ending_logged (Some ending) = refl

-- ---- the sections of a run

module _ (d : Description) (q : Query) (ask : Ask) where
  abbrev subject : Subject
  subject = subject_of d q ask.after

  section_written : (conditions : Bool) (horizon : ℕ) (section : Section) (word : EndWord) → IsFairSection (axioms_of d q ask.after conditions horizon) ask.budget section →
      AllByRecursion (IsRow (sizes_at d horizon)) (denied_rows section) → EndsWith word section → AreGoodAxioms (axioms_of d q ask.after conditions horizon) →
      AllByRecursion IsFormed (inner_lines section.steps word) → IsWritten (axioms_of d q ask.after conditions horizon) (inner_lines section.steps word) word
  section_written conditions horizon section word fair rows ends good formed =
      written (axioms_of d q ask.after conditions horizon) word section.steps fair.clauses good rows fair.steps formed
      (subst (λ (g : Option EndWord). IfSome g (EndsRightly fair.clauses)) ends fair.ends)

  -- the lines of a section that ended, behind its heading, with what is known of them
  record IsLogged (conditions : Bool) (horizon : ℕ) (section : Section) (word : EndWord) (all : List LogLine) : Type 0 where
    pub are : all ≡ lines.Section conditions horizon ∷ inner_lines section.steps word
    pub short : IsShort horizon
    pub written : IsWritten (axioms_of d q ask.after conditions horizon) (inner_lines section.steps word) word

  section_is_logged : (conditions : Bool) (horizon : ℕ) (section : Section) (word : EndWord) → IsFairSection (axioms_of d q ask.after conditions horizon) ask.budget section →
      AllByRecursion (IsRow (sizes_at d horizon)) (denied_rows section) → EndsWith word section → AllByRecursion IsFormed (lines_of (section_events conditions horizon section)) →
      HaveGoodAxioms d q ask.after (lines_of (section_events conditions horizon section)) →
      IsLogged conditions horizon section word (lines_of (section_events conditions horizon section))
  section_is_logged conditions horizon section word fair rows ends formed good =
      let are = section_logged conditions horizon section word ends in
      let spelled = subst (AllByRecursion IsFormed) are formed in
      let there = subst (HaveGoodAxioms d q ask.after) are good in
      record {
        are = are;
        short = spelled.0;
        written = section_written conditions horizon section word fair rows ends
            (there conditions horizon (in_first (lines.Section conditions horizon) (inner_lines section.steps word))) spelled.1;
      }

  -- ---- horizon by horizon

  good_front : (all more : List LogLine) → HaveGoodAxioms d q ask.after (all ++ more) → HaveGoodAxioms d q ask.after all
  good_front all more good conditions horizon there = good conditions horizon (Contains-append_left all more (lines.Section conditions horizon) there)

  good_behind : (all more : List LogLine) → HaveGoodAxioms d q ask.after (all ++ more) → HaveGoodAxioms d q ask.after more
  good_behind all more good conditions horizon there = good conditions horizon (Contains-append_right all more (lines.Section conditions horizon) there)

  -- the section that is the first of a horizon, or that on the claim, ends it
  ended : (middle conditions : Bool) (horizon : ℕ) (section : Section) (all more : List LogLine) → IsLogged conditions horizon section words.Empty all →
      conditions ≡ (is_some q.claim && not middle) → horizon ≤ last_horizon q ask.after → IsAcceptedAt subject false (horizon + 1) more →
      IsAcceptedAt subject middle horizon (all ++ more)
  ended middle conditions horizon section all more is heading most next =
      subst (λ (w : List LogLine). IsAcceptedAt subject middle horizon (w ++ more)) (sym is.are)
      (empty_goes subject middle conditions horizon heading most is.short (inner_lines section.steps words.Empty) more is.written next)

  met : (horizon : ℕ) (section : Section) (all more : List LogLine) → IsLogged true horizon section words.Found all → true ≡ is_some q.claim →
      horizon ≤ last_horizon q ask.after → IsAcceptedAt subject true horizon more → IsAcceptedAt subject false horizon (all ++ more)
  met horizon section all more is claim most next =
      subst (λ (w : List LogLine). IsAcceptedAt subject false horizon (w ++ more)) (sym is.are)
      (found_goes subject horizon claim most is.short (inner_lines section.steps words.Found) more is.written next)

  ended_histories : (horizon : ℕ) (section : Section) (more : List LogLine) → IsNone q.claim → TellsHistories d q ask horizon section → EndsWith words.Empty section →
      AllByRecursion IsFormed (lines_of (section_events false horizon section)) → HaveGoodAxioms d q ask.after (lines_of (section_events false horizon section)) →
      horizon ≤ last_horizon q ask.after → IsAcceptedAt subject false (horizon + 1) more →
      IsAcceptedAt subject false horizon (lines_of (section_events false horizon section) ++ more)
  ended_histories horizon section more claim tells ends formed good most next =
      let rows = all_front (IsRow (sizes_at d horizon)) (denied_rows section) (optional section.last)
      (first_are_rows d q horizon (key_row ask) (rows_of section) tells.first) in
      let is = section_is_logged false horizon section words.Empty tells.fair rows ends formed good in
      ended false false horizon section (lines_of (section_events false horizon section)) more is (no_claim (is_some q.claim) claim) most next

  horizon_accepted : (first : Horizon) (horizon : ℕ) (more : List LogLine) → IsTrueOf d q ask horizon first → IsExhausted ask first →
      AllByRecursion IsFormed (lines_of (horizon_events horizon first)) → HaveGoodAxioms d q ask.after (lines_of (horizon_events horizon first)) →
      horizon ≤ last_horizon q ask.after → IsAcceptedAt subject false (horizon + 1) more →
      IsAcceptedAt subject false horizon (lines_of (horizon_events horizon first) ++ more)
  horizon_accepted (Histories section) horizon more (claim, tells) (ends, none, unkeyed) formed good most next =
      ended_histories horizon section more claim tells ends formed good most next
  horizon_accepted (Conditions section) horizon more (claim, looks) ends formed good most next =
      let rows = none_are_rows (sizes_at d horizon) (denied_rows section) (optional section.last) looks.silent in
      let is = section_is_logged true horizon section words.Empty looks.fair rows ends formed good in
      ended false true horizon section (lines_of (section_events true horizon section)) more is (has_claim (is_some q.claim) claim) most next
  horizon_accepted (Claim conditions section) horizon more (claim, looks, found, denies) ends formed good most next =
      let front = lines_of (section_events true horizon conditions) in
      let behind = lines_of (section_events false horizon section) in
      let both = lines_append (section_events true horizon conditions) (section_events false horizon section) in
      let spelled = subst (AllByRecursion IsFormed) both formed in
      let there = subst (HaveGoodAxioms d q ask.after) both good in
      let front_is = section_is_logged true horizon conditions words.Found looks.fair
      (none_are_rows (sizes_at d horizon) (denied_rows conditions) (optional conditions.last) looks.silent) found
      (all_front IsFormed front behind spelled) (good_front front behind there) in
      let behind_is = section_is_logged false horizon section words.Empty denies.fair
      (none_are_rows (sizes_at d horizon) (denied_rows section) (optional section.last) denies.silent) ends
      (all_behind IsFormed front behind spelled) (good_behind front behind there) in
      subst (IsAcceptedAt subject false horizon) (sym (ap (λ (all : List LogLine). all ++ more) both ∙ append_assoc front behind more))
      (met horizon conditions front (behind ++ more) front_is (sym claim) most
      (ended true false horizon section behind more behind_is (in_middle (is_some q.claim)) most next))
  horizon_accepted (Failure conditions section row) horizon more true_of exhausted formed good most next = absurd exhausted

  done_accepted : (horizons : List Horizon) (horizon end : ℕ) (more : List LogLine) → end ≡ horizon + length horizons → AreDone d q ask horizon horizons →
      AllByRecursion IsFormed (lines_of (done_events horizon horizons)) → HaveGoodAxioms d q ask.after (lines_of (done_events horizon horizons)) →
      end ≤ last_horizon q ask.after + 1 → IsAcceptedAt subject false end more →
      IsAcceptedAt subject false horizon (lines_of (done_events horizon horizons) ++ more)
  done_accepted [] horizon end more at done formed good most next =
      let same : end ≡ horizon = omega arith in subst (λ (n : ℕ). IsAcceptedAt subject false n more) same next
  done_accepted (first ∷ others) horizon end more at (true_of, exhausted, done) formed good most next =
      let front = lines_of (horizon_events horizon first) in
      let behind = lines_of (done_events (horizon + 1) others) in
      let both = done_logged horizon first others in
      let spelled = subst (AllByRecursion IsFormed) both formed in
      let there = subst (HaveGoodAxioms d q ask.after) both good in
      subst (IsAcceptedAt subject false horizon) (sym (ap (λ (all : List LogLine). all ++ more) both ∙ append_assoc front behind more))
      (horizon_accepted first horizon (behind ++ more) true_of exhausted (all_front IsFormed front behind spelled) (good_front front behind there) (omega arith)
      (done_accepted others (horizon + 1) end more (omega arith) done (all_behind IsFormed front behind spelled) (good_behind front behind there) most next))

  -- ---- the run

  module _ (run : Run) (fair : IsFairRun d q ask run) where
    abbrev next_lines : Option Horizon → List LogLine
    next_lines next = lines_of (flat_map (horizon_events (horizon_at (first_horizon q ask.after) run)) (optional next))

    run_logged : lines_of (events_of (first_horizon q ask.after) run) ≡ lines_of (done_events (first_horizon q ask.after) run.done) ++ next_lines run.next
    run_logged =
        let done = done_events (first_horizon q ask.after) run.done in
        let next = flat_map (horizon_events (horizon_at (first_horizon q ask.after) run)) (optional run.next) in
        lines_append (done ++ next) _ ∙ ap₂ (λ (a b : List LogLine). a ++ b) (lines_append done next) (ending_logged run.ending) ∙ append-nil (lines_of done ++ lines_of next)

    next_accepted : IsReported run → AllByRecursion IsFormed (next_lines run.next) → HaveGoodAxioms d q ask.after (next_lines run.next) →
        IsAcceptedAt subject false (horizon_at (first_horizon q ask.after) run) (next_lines run.next)
    next_accepted (inl (none, some)) formed good =
        subst (λ (next : Option Horizon). IsAcceptedAt subject false (horizon_at (first_horizon q ask.after) run) (next_lines next)) (sym none)
        (closed_at subject (horizon_at (first_horizon q ask.after) run) (λ same. omega arith))
    next_accepted (inr (section, is, ends)) formed good =
        let at = horizon_at (first_horizon q ask.after) run in
        let (most, (claim, tells)) = subst (λ (next : Option Horizon). IfSome next (λ n. (at ≤ last_horizon q ask.after) × IsTrueOf d q ask at n)) is fair.next in
        let front = lines_of (section_events false at section) in
        let whole = ap next_lines is ∙ lines_append (section_events false at section) [] in
        subst (IsAcceptedAt subject false at) (sym whole)
        (ended_histories at section [] claim tells ends (all_front IsFormed front [] (subst (AllByRecursion IsFormed) whole formed))
        (good_front front [] (subst (HaveGoodAxioms d q ask.after) whole good)) most (closed_at subject (at + 1) (λ same. omega arith)))

    run_accepted : IsReported run → AllByRecursion IsFormed (lines_of (events_of (first_horizon q ask.after) run)) →
        HaveGoodAxioms d q ask.after (lines_of (events_of (first_horizon q ask.after) run)) →
        IsAcceptedAt subject false (first_horizon q ask.after) (lines_of (events_of (first_horizon q ask.after) run))
    run_accepted reported formed good =
        let front = lines_of (done_events (first_horizon q ask.after) run.done) in
        let behind = next_lines run.next in
        let spelled = subst (AllByRecursion IsFormed) run_logged formed in
        let there = subst (HaveGoodAxioms d q ask.after) run_logged good in
        subst (IsAcceptedAt subject false (first_horizon q ask.after)) (sym run_logged)
        (done_accepted run.done (first_horizon q ask.after) (horizon_at (first_horizon q ask.after) run) behind refl fair.done
        (all_front IsFormed front behind spelled) (good_front front behind there) fair.within
        (next_accepted reported (all_behind IsFormed front behind spelled) (good_behind front behind there)))

-- ---- the verdict

verdict_behind : (subject : Subject) (all : List LogLine) (sections : List SectionText) (last blocked : ℕ) → AreSections First 2 (map line_text all) sections →
    AreJudged subject (at_first subject) sections (verdicts.Accepted subject.first last blocked) →
    IsVerdictBehind First subject (map line_text all) (verdicts.Accepted subject.first last blocked)
verdict_behind subject [] [] last blocked are judged = elim judged [ inl closed ↦ absurd (closed.1 refl) | inr refused ↦ absurd cc ]
verdict_behind subject [] (section ∷ sections) last blocked are judged = let none = are.2 in absurd cc
verdict_behind subject (line ∷ all) sections last blocked are judged = inr (inr (sections, are, judged))

pub logs_are_accepted : WrittenLogsAreAccepted
logs_are_accepted d q ask run fair reported formed good =
    let all = lines_of (events_of (first_horizon q ask.after) run) in
    let (last, blocked, sections, are, judged) = run_accepted d q ask run fair reported formed good 0 2 2 in (
      last,
      blocked,
      inr (
        not_binary all,
        subst (λ (texts : List (List ℕ)). IsVerdictOf (subject_of d q ask.after) texts (verdicts.Accepted (first_horizon q ask.after) last blocked))
            (sym (log_cut all formed)) (inr (refl, verdict_behind (subject_of d q ask.after) all sections last blocked are judged)),
      ),
    )
