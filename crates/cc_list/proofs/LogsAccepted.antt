-- What the log of a search is worth: a checker accepts it up to the last horizon that was reported, and that of a complete listing.
use Rattle.std.proofs.Common.{◌≡◌, ℕ, ◌≤◌, Bool, List, [], ◌∷◌, ◌++◌, map, Option, Some, None, refl, sym, ap, subst, ◌∙◌, append-nil, arith, inl, inr}
use Rattle.std.specs.Prelude.{flat_map, IfSome}
use Rattle.std.specs.List.{AllByRecursion}
use Rattle.cc_log.specs.Laws.{WrittenLinesAreEntries}
use Rattle.cc_log.specs.Versions.{HaveEntries}
use Rattle.cc_defs.specs.declared.event.Ending.{Ending}
use Rattle.cc_defs.specs.declared.event.Ending.TheVariants as endings
use Rattle.cc_defs.specs.declared.event.Event.TheVariants as events
use Rattle.cc_defs.specs.declared.event.Told.{Told}
use Rattle.cc_defs.specs.declared.log.LogLine.{LogLine}
use Rattle.cc_defs.specs.declared.log.LogLine.TheVariants as lines
use Rattle.cc_defs.specs.declared.log.Version.{Version}
use Rattle.cc_defs.specs.declared.log.Version.TheVariants.{First, Second}
use Rattle.cc_defs.specs.Description.{Description}
use Rattle.cc_defs.specs.Events.{log_of}
use Rattle.cc_defs.specs.LogBytes.{HasNumbers, IsNumber}
use Rattle.cc_defs.specs.LogTexts.{IsFormed, IsShort, header, line_text, log_text}
use Rattle.cc_defs.specs.LogVersions.{counts_in, lines_bytes, log_in, own_behind}
use Rattle.cc_defs.specs.Logs.{IsAccepted, Subject}
use Rattle.cc_defs.specs.Resolved.{Query}
use Rattle.cc_defs.specs.Runs.{Ask, Horizon, Histories, Conditions, Claim, Failure, Run, IsFairRun, MayEnd, done_events, events_of, first_horizon, horizon_at, horizon_events, optional, told}
use Rattle.cc_lists.specs.Subjects.{lines_of, subject_of}
use Rattle.cc_query.specs.Accepted.{IsReported}
use Rattle.cc_list.specs.Laws.{LogLaws}
use Rattle.cc_list.specs.Searching.{AreLogsAccepted, IsLogAccepted, only_reported}
use Rattle.cc_list.specs.Telling.{HasGoodLines, counts_of, task_of}
use Rattle.cc_tell.specs.declared.telling.Teller.{Teller}
use Rattle.cc_tell.specs.declared.telling.Teller.TheVariants as tellers
use Rattle.cc_tell.specs.Tellers.{IsWritable, manner_of}
use Rattle.cc_list.proofs.NumberedRuns.{run_writable}
use Rattle.cc_list.proofs.NumberedSteps.{AreWritable}
use Rattle.cc_list.proofs.Worth.{front_good}

-- ---- the same lines in either version

-- the lines of version 1 are what they are wherever they stand
first_bytes : (counts : Bool → ℕ → ℕ) (own : ℕ) (all : List LogLine) → lines_bytes First counts own all ≡ flat_map line_text all
first_bytes counts own [] = refl
first_bytes counts own (line ∷ others) = ap (λ (l : List ℕ). line_text line ++ l) (first_bytes counts (own_behind counts own line) others)

pub first_log : (counts : Bool → ℕ → ℕ) (all : List LogLine) → log_in First counts all ≡ log_text all
first_log counts all = ap (λ (l : List ℕ). header ++ l) (first_bytes counts 1 all)

numbers_short : (numbers : List ℕ) → AllByRecursion IsShort numbers → AllByRecursion IsNumber numbers
numbers_short [] all = tt
numbers_short (number ∷ numbers) all = let low = all.0 in (omega arith, numbers_short numbers all.1)

line_numbers : (own : ℕ) (line : LogLine) → IsFormed line → IsWritable own line → HasNumbers line
line_numbers own (lines.Section conditions horizon) formed can = omega arith
line_numbers own (lines.Derived clause chain) formed can =
    let clause_short = can.1.0 in let chain_short = can.1.1 in
    (omega arith, formed.0, omega arith, numbers_short chain formed.1, formed.2)
line_numbers own (lines.Block row) formed can = let short = can.1 in (omega arith, numbers_short row formed)
line_numbers own (lines.End word) formed can = tt

all_numbers : (counts : Bool → ℕ → ℕ) (own : ℕ) (all : List LogLine) → AllByRecursion IsFormed all → AreWritable counts own all → AllByRecursion HasNumbers all
all_numbers counts own [] formed can = tt
all_numbers counts own (line ∷ others) formed can =
    (line_numbers own line formed.0 can.0, all_numbers counts (own_behind counts own line) others formed.1 can.1)

all_entries : WrittenLinesAreEntries → (counts : Bool → ℕ → ℕ) (own : ℕ) (all : List LogLine) → AllByRecursion IsFormed all → AreWritable counts own all → HaveEntries counts own all
all_entries law counts own [] formed can = tt
all_entries law counts own (line ∷ others) formed can =
    ((law own line formed.0 can.0.1 can.0.0 can.0.2).0.formed, all_entries law counts (own_behind counts own line) others formed.1 can.1)

-- lines that both versions can say are accepted in either, where they are in the first
accepted_in : LogLaws → (subject : Subject) (version : Version) (all : List LogLine) → AllByRecursion IsFormed all → AreWritable (counts_in subject) 1 all →
    IsAccepted subject (log_text all) → IsAccepted subject (log_in version (counts_in subject) all)
accepted_in laws subject First all formed can is = subst (λ (l : List ℕ). IsAccepted subject l) (sym (first_log (counts_in subject) all)) is
accepted_in laws subject Second all formed can is =
    let (last, blocked, verdict) = subst (λ (l : List ℕ). IsAccepted subject l) (sym (first_log (counts_in subject) all)) is in
    let numbers = all_numbers (counts_in subject) 1 all formed can in
    let entries = all_entries laws.entries (counts_in subject) 1 all formed can in
    (last, blocked, laws.alike subject First all _ (laws.sayable subject First all last blocked formed numbers entries verdict) entries verdict)

-- ---- which runs are reported

module _ (d : Description) (q : Query) (ask : Ask) (run : Run) where
  complete_within : (at : ℕ) (next : Option Horizon) (horizon listed : ℕ) → run.next ≡ next → MayEnd q ask at run next (endings.Complete horizon listed) → IsReported run
  complete_within at None horizon listed is may = absurd may.1
  complete_within at (Some (Histories section)) horizon listed is may = inr (section, is, may.2)
  complete_within at (Some (Conditions section)) horizon listed is may = absurd may
  complete_within at (Some (Claim conditions claim)) horizon listed is may = absurd may
  complete_within at (Some (Failure conditions claim row)) horizon listed is may = absurd may

  complete_reported : (horizon listed : ℕ) → IsFairRun d q ask run → run.ending ≡ Some (endings.Complete horizon listed) → IsReported run
  complete_reported horizon listed fair is =
      let at = horizon_at (first_horizon q ask.after) run in
      let may : IfSome (Some (endings.Complete horizon listed)) (MayEnd q ask at run run.next) =
      subst (λ (e : Option Ending). IfSome e (MayEnd q ask at run run.next)) is fair.ending in
      complete_within at run.next horizon listed refl may

  -- the horizons that were reported are a run of their own
  reported_fair : IsFairRun d q ask run → IsFairRun d q ask (only_reported run)
  reported_fair fair = record { done = fair.done; next = tt; within = fair.within; ending = tt }

  reported_good : (first : ℕ) → HasGoodLines d q ask.after (events_of first run) → HasGoodLines d q ask.after (events_of first (only_reported run))
  reported_good first all =
      let done = done_events first run.done in
      let next = flat_map (horizon_events (horizon_at first run)) (optional run.next) in
      let ends = map (λ (e : Ending). told (events.Ended e)) (optional run.ending) in
      subst (λ (l : List Told). HasGoodLines d q ask.after l) (sym (append-nil (done ++ []) ∙ append-nil done))
      (front_good d q ask.after done next (front_good d q ask.after (done ++ next) ends all))

-- the log of a run is accepted as it is told
module _ (laws : LogLaws) (d : Description) (q : Query) (ask : Ask) (budget : ask.budget ≤ 2000000) (teller : Teller) where
  one_accepted : (run : Run) → IsFairRun d q ask run → IsReported run → HasGoodLines d q ask.after (events_of (first_horizon q ask.after) run) →
      IsLogAccepted (manner_of (counts_of d q ask.after) teller) (task_of d q ask) run
  one_accepted run fair reported all = in_manner teller
    where
      law : IsAccepted (subject_of d q ask.after) (log_of (events_of (first_horizon q ask.after) run))
      law = laws.accepted d q ask run fair reported all.formed all.good

      in_manner : (teller : Teller) → IsLogAccepted (manner_of (counts_of d q ask.after) teller) (task_of d q ask) run
      in_manner (tellers.OneByOne version own) =
          accepted_in laws (subject_of d q ask.after) version (lines_of (events_of (first_horizon q ask.after) run)) all.formed (run_writable d q ask budget run fair all).0 law
      in_manner (tellers.Summed size outcome) = law

  pub logs_accepted : (run : Run) → IsFairRun d q ask run → HasGoodLines d q ask.after (events_of (first_horizon q ask.after) run) →
      AreLogsAccepted (manner_of (counts_of d q ask.after) teller) (task_of d q ask) run
  logs_accepted run fair all = record {
    reported = λ some. one_accepted (only_reported run) (reported_fair d q ask run fair) (inl (refl, some)) (reported_good d q ask run (first_horizon q ask.after) all);
    complete = λ horizon listed is. one_accepted run fair (complete_reported d q ask run horizon listed fair is) all;
  }
