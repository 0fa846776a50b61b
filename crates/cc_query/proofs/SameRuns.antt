-- What is printed and the lines of the log tell one run.
use Rattle.std.proofs.Common.{◌≡◌, ◌∙◌, ℕ, ◌+◌, ◌≤◌, inl, inr, List, [], ◌∷◌, ◌++◌, length, flat_map, Option, Some, None, refl, sym, subst, ap, ap₂, arith, append_assoc, append-nil}
use Rattle.std.specs.Prelude.{IfSome, is_some}
use Rattle.cc_defs.specs.declared.event.Ending.{Ending}
use Rattle.cc_defs.specs.declared.event.Ending.TheVariants as endings
use Rattle.cc_defs.specs.declared.event.Told.{Told}
use Rattle.cc_defs.specs.declared.log.EndWord.{EndWord}
use Rattle.cc_defs.specs.declared.log.EndWord.TheVariants as words
use Rattle.cc_defs.specs.declared.log.LogLine.{LogLine}
use Rattle.cc_defs.specs.Description.{Description}
use Rattle.cc_defs.specs.Resolved.{Query}
use Rattle.cc_defs.specs.Runs.{Ask, Run, Section, Horizon, Histories, Conditions, Claim, Failure, AreDone, EndsWith, IsExhausted, IsFairRun, IsTrueOf, MayEnd, MayEndBehind, MayEndWithin, done_events, events_of, first_horizon, horizon_at, horizon_events, last_horizon, optional, said_of}
use Rattle.cc_lists.specs.Subjects.{lines_of}
use Rattle.cc_lists.proofs.LinesRead.{IsHeaded, done_lines, horizon_headed, horizon_told, lines_append}
use Rattle.cc_query.specs.Laws.{TextsTellRuns}
use Rattle.cc_query.proofs.HorizonsAlike.{claims_apart, exhausted_ends, exhausted_same, horizons_alike, other_word}
use Rattle.cc_query.proofs.HorizonsSame.{horizons_same}
use Rattle.cc_query.proofs.TextSizes.{done_size, ending_events, ending_printed, said_printed, size, size_append}

-- ---- the parts of a run

abbrev next_events : ℕ → Option Horizon → List Told
next_events at next = flat_map (horizon_events at) (optional next)

-- the lines of the horizons from one on
abbrev part_lines : ℕ → List Horizon → ℕ → Option Horizon → List LogLine
part_lines horizon done at next = lines_of (done_events horizon done) ++ lines_of (next_events at next)

abbrev part_size : Description → ℕ → List Horizon → ℕ → Option Horizon → Option Ending → ℕ
part_size d horizon done at next ending = size d (done_events horizon done) + size d (next_events at next) + size d (ending_events ending)

next_headed : (at : ℕ) (next : Option Horizon) → IsHeaded (lines_of (next_events at next))
next_headed at None = tt
next_headed at (Some first) =
    subst IsHeaded (sym (lines_append (horizon_events at first) [])) (horizon_headed at first [])

first_lines : (horizon : ℕ) (first : Horizon) (done : List Horizon) (at : ℕ) (next : Option Horizon) →
    part_lines horizon (first ∷ done) at next ≡ lines_of (horizon_events horizon first) ++ part_lines (horizon + 1) done at next
first_lines horizon first done at next =
    ap (λ (all : List LogLine). all ++ lines_of (next_events at next)) (done_lines horizon first done)
    ∙ append_assoc (lines_of (horizon_events horizon first)) (lines_of (done_events (horizon + 1) done)) (lines_of (next_events at next))

part_headed : (horizon : ℕ) (done : List Horizon) (at : ℕ) (next : Option Horizon) → IsHeaded (part_lines horizon done at next)
part_headed horizon [] at next = next_headed at next
part_headed horizon (first ∷ done) at next =
    subst IsHeaded (sym (first_lines horizon first done at next)) (horizon_headed horizon first (part_lines (horizon + 1) done at next))

next_size : (d : Description) (at : ℕ) (next : Horizon) → size d (next_events at (Some next)) ≡ size d (horizon_events at next)
next_size d at next = ap (λ (all : List Told). size d all) (append-nil (horizon_events at next))

next_lines : (at : ℕ) (next : Horizon) → lines_of (next_events at (Some next)) ≡ lines_of (horizon_events at next) ++ []
next_lines at next = lines_append (horizon_events at next) []

module _ (d : Description) (q : Query) (ask : Ask) where
  -- the horizons of a fair run from one on
  record IsFairFrom (horizon : ℕ) (done : List Horizon) (at : ℕ) (next : Option Horizon) (ending : Option Ending) : Type 0 where
    pub place : at ≡ horizon + length done
    pub over : AreDone d q ask horizon done
    pub told : IfSome next (IsTrueOf d q ask at)
    pub ends : IfSome next (λ n. IfSome ending (MayEndWithin ask at n))

  fair_rest : (horizon : ℕ) (first : Horizon) (done : List Horizon) (at : ℕ) (next : Option Horizon) (ending : Option Ending) →
      IsFairFrom horizon (first ∷ done) at next ending → IsFairFrom (horizon + 1) done at next ending
  fair_rest horizon first done at next ending fair =
      let place = fair.place in record { place = omega (arith, place); over = fair.over.2; told = fair.told; ends = fair.ends }

  no_ending : (at : ℕ) (told : Horizon) (ending : Option Ending) → IsExhausted ask told → IfSome ending (MayEndWithin ask at told) → size d (ending_events ending) ≡ 0
  no_ending at told None exhausted ends = refl
  no_ending at told (Some ending) exhausted ends = absurd (exhausted_ends d q ask at told ending exhausted ends)

  -- a run that is at a horizon, and one that is done with it, do not print as much
  not_past : (horizon : ℕ) (others : List Horizon) (at to : ℕ) (next : Option Horizon) (other : Horizon) (behind : Option Horizon) (ending last : Option Ending) →
      at ≡ horizon → IfSome next (IsTrueOf d q ask at) → IfSome next (λ n. IfSome ending (MayEndWithin ask at n)) → IsTrueOf d q ask horizon other → IsExhausted ask other →
      lines_of (next_events at next) ≡ part_lines horizon (other ∷ others) to behind →
      size d (next_events at next) + size d (ending_events ending) ≡ part_size d horizon (other ∷ others) to behind last → ⊥
  not_past horizon others at to None other behind ending last place told ends other_told exhausted same printed =
      horizon_told horizon other (part_lines (horizon + 1) others to behind) (sym (same ∙ first_lines horizon other others to behind))
  not_past horizon others at to (Some next) other behind ending last place told ends other_told exhausted same printed =
      let here : IsTrueOf d q ask horizon next = subst (λ (n : ℕ). IsTrueOf d q ask n next) place told in
      let alike = horizons_alike d q ask horizon next other [] (part_lines (horizon + 1) others to behind) here other_told tt
      (part_headed (horizon + 1) others to behind) (inr refl) (inl exhausted)
      (sym (next_lines horizon next) ∙ ap (λ (n : ℕ). lines_of (next_events n (Some next))) (sym place) ∙ same ∙ first_lines horizon other others to behind) in
      let one : next ≡ other = exhausted_same d q ask horizon next other alike.0 here other_told exhausted in
      let unsaid : size d (ending_events ending) ≡ 0 = no_ending at next ending (subst (IsExhausted ask) (sym one) exhausted) ends in
      let said = said_printed d ask horizon other exhausted in
      let long = done_size d horizon other others in
      let short : size d (next_events at (Some next)) ≡ size d (horizon_events horizon other) =
      next_size d at next ∙ ap₂ (λ (n : ℕ) (h : Horizon). size d (horizon_events n h)) place one in
      omega (arith, printed, unsaid, said, long, short)

  next_same : (at : ℕ) (next behind : Option Horizon) (ending last : Option Ending) →
      IfSome next (IsTrueOf d q ask at) → IfSome next (λ n. IfSome ending (MayEndWithin ask at n)) →
      IfSome behind (IsTrueOf d q ask at) → IfSome behind (λ n. IfSome last (MayEndWithin ask at n)) →
      lines_of (next_events at next) ≡ lines_of (next_events at behind) →
      size d (next_events at next) + size d (ending_events ending) ≡ size d (next_events at behind) + size d (ending_events last) → next ≡ behind
  next_same at None None ending last told ends other_told other_ends same printed = refl
  next_same at None (Some other) ending last told ends other_told other_ends same printed =
      absurd (horizon_told at other [] (sym (same ∙ next_lines at other)))
  next_same at (Some next) None ending last told ends other_told other_ends same printed =
      absurd (horizon_told at next [] (sym (next_lines at next) ∙ same))
  next_same at (Some next) (Some other) ending last told ends other_told other_ends same printed =
      let alike = horizons_alike d q ask at next other [] [] told other_told tt tt (inr refl) (inr refl) (sym (next_lines at next) ∙ same ∙ next_lines at other) in
      let one_size = next_size d at next in
      let other_size = next_size d at other in
      ap (λ (h : Horizon). Some h) (horizons_same d q ask at next other ending last told other_told ends other_ends alike.0 (omega (arith, one_size, other_size, printed)))

  parts_same : (horizon : ℕ) (done others : List Horizon) (at to : ℕ) (next behind : Option Horizon) (ending last : Option Ending) →
      IsFairFrom horizon done at next ending → IsFairFrom horizon others to behind last →
      part_lines horizon done at next ≡ part_lines horizon others to behind →
      part_size d horizon done at next ending ≡ part_size d horizon others to behind last → (done ≡ others) × (next ≡ behind)
  parts_same horizon [] [] at to next behind ending last fair other_fair same printed =
      let here : at ≡ horizon = let place = fair.place in omega (arith, place) in
      let there : horizon ≡ to = let place = other_fair.place in omega (arith, place) in
      let both : at ≡ to = here ∙ there in (
        refl,
        next_same to next behind ending last (subst (λ (n : ℕ). IfSome next (IsTrueOf d q ask n)) both fair.told)
            (subst (λ (n : ℕ). IfSome next (λ h. IfSome ending (MayEndWithin ask n h))) both fair.ends) other_fair.told other_fair.ends
            (ap (λ (n : ℕ). lines_of (next_events n next)) (sym both) ∙ same)
            (let as_long = ap (λ (n : ℕ). size d (next_events n next)) both in omega (arith, as_long, printed)),
      )
  parts_same horizon [] (other ∷ others) at to next behind ending last fair other_fair same printed =
      let place = fair.place in
      absurd (not_past horizon others at to next other behind ending last (omega (arith, place)) fair.told fair.ends other_fair.over.0 other_fair.over.1 same
      (omega (arith, printed)))
  parts_same horizon (first ∷ done) [] at to next behind ending last fair other_fair same printed =
      let place = other_fair.place in
      absurd (not_past horizon done to at behind first next last ending (omega (arith, place)) other_fair.told other_fair.ends fair.over.0 fair.over.1 (sym same)
      (omega (arith, printed)))
  parts_same horizon (first ∷ done) (other ∷ others) at to next behind ending last fair other_fair same printed =
      let alike = horizons_alike d q ask horizon first other (part_lines (horizon + 1) done at next) (part_lines (horizon + 1) others to behind) fair.over.0 other_fair.over.0
      (part_headed (horizon + 1) done at next) (part_headed (horizon + 1) others to behind) (inl fair.over.1) (inl other_fair.over.1)
      (sym (first_lines horizon first done at next) ∙ same ∙ first_lines horizon other others to behind) in
      let one : first ≡ other = exhausted_same d q ask horizon first other alike.0 fair.over.0 other_fair.over.0 other_fair.over.1 in
      let one_size = done_size d horizon first done in
      let other_size = done_size d horizon other others in
      let as_long = ap (λ (h : Horizon). size d (horizon_events horizon h) + size d (said_of horizon h)) one in
      let rest = parts_same (horizon + 1) done others at to next behind ending last (fair_rest horizon first done at next ending fair)
      (fair_rest horizon other others to behind last other_fair) alike.1 (omega (arith, one_size, other_size, as_long, printed)) in
      (ap₂ (λ (h : Horizon) (all : List Horizon). h ∷ all) one rest.0, rest.1)

  -- ---- endings

  words_apart : (section : Section) (one other : EndWord) → (one ≡ other → ⊥) → EndsWith one section → EndsWith other section → ⊥
  words_apart section one other apart is other_is = apart (other_word section one other is other_is)

  within_same : (at : ℕ) (next : Horizon) (one other : Ending) → MayEndWithin ask at next one → MayEndWithin ask at next other → one ≡ other
  within_same at (Histories section) (endings.Complete horizon listed) (endings.Complete to all) is other_is =
      ap₂ (λ (n m : ℕ). endings.Complete n m) (is.0 ∙ sym other_is.0) (is.1 ∙ sym other_is.1)
  within_same at (Histories section) (endings.Asked horizon listed) (endings.Asked to all) is other_is =
      ap₂ (λ (n m : ℕ). endings.Asked n m) (is.0 ∙ sym other_is.0) (is.1 ∙ sym other_is.1)
  within_same at (Histories section) (endings.Spent horizon listed) (endings.Spent to all) is other_is =
      ap₂ (λ (n m : ℕ). endings.Spent n m) (is.0 ∙ sym other_is.0) (is.1 ∙ sym other_is.1)
  within_same at (Histories section) (endings.Complete horizon listed) (endings.Asked to all) is other_is =
      absurd (words_apart section words.Empty words.Found (λ e. absurd cc) is.2 other_is.2)
  within_same at (Histories section) (endings.Complete horizon listed) (endings.Spent to all) is other_is =
      absurd (words_apart section words.Empty words.Spent (λ e. absurd cc) is.2 other_is.2)
  within_same at (Histories section) (endings.Asked horizon listed) (endings.Complete to all) is other_is =
      absurd (words_apart section words.Found words.Empty (λ e. absurd cc) is.2 other_is.2)
  within_same at (Histories section) (endings.Asked horizon listed) (endings.Spent to all) is other_is =
      absurd (words_apart section words.Found words.Spent (λ e. absurd cc) is.2 other_is.2)
  within_same at (Histories section) (endings.Spent horizon listed) (endings.Complete to all) is other_is =
      absurd (words_apart section words.Spent words.Empty (λ e. absurd cc) is.2 other_is.2)
  within_same at (Histories section) (endings.Spent horizon listed) (endings.Asked to all) is other_is =
      absurd (words_apart section words.Spent words.Found (λ e. absurd cc) is.2 other_is.2)
  within_same at (Conditions section) (endings.Spent horizon listed) (endings.Spent to all) is other_is =
      ap₂ (λ (n m : ℕ). endings.Spent n m) (is.0 ∙ sym other_is.0) (is.1 ∙ sym other_is.1)
  within_same at (Claim first section) (endings.Spent horizon listed) (endings.Spent to all) is other_is =
      ap₂ (λ (n m : ℕ). endings.Spent n m) (is.0 ∙ sym other_is.0) (is.1 ∙ sym other_is.1)
  within_same at (Failure first section row) endings.ClaimFails endings.ClaimFails is other_is = refl
  within_same at next one other is other_is = absurd assumption

  behind_same : (done : List Horizon) (one other : Ending) → MayEndBehind q ask done one → MayEndBehind q ask done other → one ≡ other
  behind_same done endings.NoHistory endings.NoHistory is other_is = refl
  behind_same done endings.ClaimEmpty endings.ClaimEmpty is other_is = refl
  behind_same done endings.ClaimHolds endings.ClaimHolds is other_is = refl
  behind_same done endings.NoHistory endings.ClaimEmpty is other_is = absurd (claims_apart (is_some q.claim) is.0 other_is.0)
  behind_same done endings.NoHistory endings.ClaimHolds is other_is = absurd (claims_apart (is_some q.claim) is.0 other_is.0)
  behind_same done endings.ClaimEmpty endings.NoHistory is other_is = absurd (claims_apart (is_some q.claim) other_is.0 is.0)
  behind_same done endings.ClaimHolds endings.NoHistory is other_is = absurd (claims_apart (is_some q.claim) other_is.0 is.0)
  behind_same done endings.ClaimEmpty endings.ClaimHolds is other_is = absurd (other_is.1 is.1)
  behind_same done endings.ClaimHolds endings.ClaimEmpty is other_is = absurd (is.1 other_is.1)
  behind_same done one other is other_is = absurd assumption

  ending_same : (at : ℕ) (run with_other : Run) (next : Option Horizon) (one other : Ending) → with_other.done ≡ run.done →
      MayEnd q ask at run next one → MayEnd q ask at with_other next other → one ≡ other
  ending_same at run with_other (Some next) one other done is other_is = within_same at next one other is other_is
  ending_same at run with_other None one other done is other_is =
      behind_same run.done one other is.1 (subst (λ (horizons : List Horizon). MayEndBehind q ask horizons other) done other_is.1)

  endings_same : (at : ℕ) (run with_other : Run) (next : Option Horizon) (ending last : Option Ending) → with_other.done ≡ run.done →
      IfSome ending (MayEnd q ask at run next) → IfSome last (MayEnd q ask at with_other next) → size d (ending_events ending) ≡ size d (ending_events last) → ending ≡ last
  endings_same at run with_other next None None done is other_is same = refl
  endings_same at run with_other next None (Some other) done is other_is same = let some = ending_printed d other in absurd (omega (arith, same, some))
  endings_same at run with_other next (Some one) None done is other_is same = let some = ending_printed d one in absurd (omega (arith, same, some))
  endings_same at run with_other next (Some one) (Some other) done is other_is same =
      ap (λ (e : Ending). Some e) (ending_same at run with_other next one other done is other_is)

  -- ---- runs

  abbrev first_at : ℕ
  first_at = first_horizon q ask.after

  told_of : (at : ℕ) (next : Option Horizon) → IfSome next (λ next. (at ≤ last_horizon q ask.after) × IsTrueOf d q ask at next) → IfSome next (IsTrueOf d q ask at)
  told_of at None is = tt
  told_of at (Some next) is = is.1

  ends_of : (at : ℕ) (run : Run) (next : Option Horizon) (ending : Option Ending) → IfSome ending (MayEnd q ask at run next) →
      IfSome next (λ n. IfSome ending (MayEndWithin ask at n))
  ends_of at run None ending is = tt
  ends_of at run (Some next) None is = tt
  ends_of at run (Some next) (Some ending) is = is

  fair_from : (run : Run) → IsFairRun d q ask run → IsFairFrom first_at run.done (horizon_at first_at run) run.next run.ending
  fair_from run fair = record {
    place = refl;
    over = fair.done;
    told = told_of (horizon_at first_at run) run.next fair.next;
    ends = ends_of (horizon_at first_at run) run run.next run.ending fair.ending;
  }

  run_size : (run : Run) → size d (events_of first_at run) ≡ part_size d first_at run.done (horizon_at first_at run) run.next run.ending
  run_size run =
      let done = done_events first_at run.done in
      let next = next_events (horizon_at first_at run) run.next in
      let all = size_append d (done ++ next) (ending_events run.ending) in
      let front = size_append d done next in
      omega (arith, all, front)

  ending_lines : (ending : Option Ending) → lines_of (ending_events ending) ≡ []
  ending_lines None = refl
  ending_lines (Some ending) = refl

  run_lines : (run : Run) → lines_of (events_of first_at run) ≡ part_lines first_at run.done (horizon_at first_at run) run.next
  run_lines run =
      let done = done_events first_at run.done in
      let next = next_events (horizon_at first_at run) run.next in
      lines_append (done ++ next) (ending_events run.ending) ∙ ap₂ (λ (a b : List LogLine). a ++ b) (lines_append done next) (ending_lines run.ending)
      ∙ append-nil (lines_of done ++ lines_of next)

  abbrev ended : Run → Option Ending → Run
  ended run ending = record run { ending = ending }

  -- two runs that differ in their endings at most
  same_but : (one other : Run) → one.done ≡ other.done → one.next ≡ other.next → ended one other.ending ≡ other
  same_but one other done next = ap₂ (λ (horizons : List Horizon) (n : Option Horizon). run_of horizons n other.ending) done next
    where
      run_of : List Horizon → Option Horizon → Option Ending → Run
      run_of horizons next ending = record { done = horizons; next = next; ending = ending }

  run_same : (one : Run) (last : Option Ending) → IsFairRun d q ask one → IsFairRun d q ask (ended one last) →
      size d (events_of first_at one) ≡ size d (events_of first_at (ended one last)) → one ≡ ended one last
  run_same one last fair other_fair same =
      let one_size = run_size one in
      let other_size = run_size (ended one last) in
      ap (λ (e : Option Ending). ended one e)
      (endings_same (horizon_at first_at one) one (ended one last) one.next one.ending last refl fair.ending other_fair.ending (omega (arith, one_size, other_size, same)))

pub runs_told : TextsTellRuns
runs_told d q ask one other fair other_fair lines texts =
    let first = first_horizon q ask.after in
    let as_long : size d (events_of first one) ≡ size d (events_of first other) = ap (λ (text : List ℕ). length text) texts in
    let parts = parts_same d q ask first one.done other.done (horizon_at first one) (horizon_at first other) one.next other.next one.ending other.ending
    (fair_from d q ask one fair) (fair_from d q ask other other_fair) (sym (run_lines d q ask one) ∙ lines ∙ run_lines d q ask other)
    (sym (run_size d q ask one) ∙ as_long ∙ run_size d q ask other) in
    let but : ended d q ask one other.ending ≡ other = same_but d q ask one other parts.0 parts.1 in
    run_same d q ask one other.ending fair (subst (IsFairRun d q ask) (sym but) other_fair)
    (as_long ∙ ap (λ (run : Run). size d (events_of first run)) (sym but)) ∙ but
