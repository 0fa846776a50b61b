-- The log of a fair run whose induction holds is accepted.
use Rattle.std.proofs.Common.{◌≡◌, ◌∙◌, ℕ, ◌+◌, ◌≤◌, false, true, inr, List, [], ◌∷◌, ◌++◌, map, flat_map, length, Option, Some, refl, sym, subst, ap, arith, append_assoc, length-append}
use Rattle.std.specs.Prelude.{IfSome, ◌||◌, if◌then◌else◌}
use Rattle.cc_check.specs.declared.silent.Place.{Place}
use Rattle.cc_check.specs.declared.silent.SilentVerdict.TheVariants as verdicts
use Rattle.cc_check.specs.Silent.{BeginsSection, IsSilentVerdict, IsStopped, LeadsTo, SilentSection, place_behind}
use Rattle.cc_defs.specs.declared.log.Cause.TheVariants as causes
use Rattle.cc_defs.specs.declared.log.EndWord.TheVariants as words
use Rattle.cc_defs.specs.Description.{Description}
use Rattle.cc_defs.specs.Limits.{most_steps}
use Rattle.cc_defs.specs.LogTexts.{IsShort, line_text, lines_in}
use Rattle.cc_defs.specs.Resolved.{Query}
use Rattle.cc_defs.specs.Runs.{Section, optional, range_of}
use Rattle.cc_defs.specs.Sections.{Right}
use Rattle.cc_forever.specs.Accepted.{AreWritable, ForeverLogsAreAccepted, IsWritableUnder}
use Rattle.cc_forever.specs.ForeverRuns.{ForeverEnding, ForeverRun, HaveFailed, IsInReach, Proved, Refutes, bases}
use Rattle.cc_forever.specs.ForeverTold.{ForeverTold, HoldsOver, NoneAt, ending_told, failed_told, forever_lines, section_text}
use Rattle.cc_forever.proofs.Lines.{all_unread, section_cut}
use Rattle.cc_forever.proofs.Proving.{one_base, proved_by}
use Rattle.cc_forever.proofs.Runs.{some_is}
use Rattle.cc_lists.proofs.AcceptedEmpty.{lines_within, section_found}
use Rattle.cc_lists.specs.Sections.{section_lines}
use Rattle.cc_silent.specs.ForeverLogs.{IsForeverHeading, IsInTurn, axioms_under, forever_header, forever_heading, forever_subject, number_in}
use Rattle.cc_silent.specs.declared.forever.ForeverHeading.{ForeverHeading}
use Rattle.cc_silent.specs.declared.forever.ForeverHeading.TheVariants as headings

module _ (d : Description) (q : Query) (budget : ℕ) where
  -- the texts from a line and a place on: sections up to one that closes the log, behind so many
  record IsLed (place : Place) (line : ℕ) (texts : List (List ℕ)) (count : ℕ) : Type 0 where
    pub begins : BeginsSection (forever_subject d q) texts
    pub sections : List (SilentSection ForeverHeading)
    pub last : Place
    pub after : ℕ
    pub leads : LeadsTo (forever_subject d q) (λ _. Unit {0}) place line texts sections last after []
    pub closed : last.is_closed ≡ true
    pub as_many : last.before ≡ count

  abbrev texts_of : List ForeverTold → List (List ℕ)
  texts_of told = lines_in (flat_map forever_lines told)

  abbrev open_at : ℕ → Place
  open_at before = record { before = before; is_closed = false }

  section_led : (heading : ForeverHeading) (section : Section) (before line count : ℕ) (texts : List (List ℕ)) → IsInTurn q before heading → IsShort (number_in heading) →
      Refutes d q budget heading section → IsWritableUnder d q heading section →
      IsLed (place_behind (forever_subject d q) (open_at before) heading) (line + 1 + length (map line_text (section_lines section))) texts count →
      IsLed (open_at before) line (forever_heading heading ∷ (map line_text (section_lines section) ++ texts)) count
  section_led heading section before line count texts turn short refuted writable next =
      let reads : IsForeverHeading (forever_heading heading) heading = record { number = short; spelled = refl } in
      let inside = map line_text (section_lines section) in
      let (last, found) = section_found section refuted.ends (axioms_under d q heading) budget (line + 1) refuted.looks.tells.fair refuted.looks.silent writable.good writable.formed in
      record {
        begins = (heading, reads);
        sections = record { heading = heading; line = line; texts = inside } ∷ next.sections;
        last = next.last;
        after = next.after;
        leads = (
          texts,
          record {
            text = forever_heading heading;
            parts = refl;
            line_is = refl;
            reads = reads;
            inside = all_unread (section_lines section) (lines_within section refuted.ends);
            next = next.begins;
          },
          ((refl, turn), tt, (Right words.Empty 0 last, found, refl)),
          next.leads,
        );
        closed = next.closed;
        as_many = next.as_many;
      }

  -- what is told of a section, and of others behind it
  told_led : (heading : ForeverHeading) (section : Section) (before line count : ℕ) (others : List ForeverTold) → IsInTurn q before heading → IsShort (number_in heading) →
      Refutes d q budget heading section → IsWritableUnder d q heading section →
      ((next : ℕ) → IsLed (place_behind (forever_subject d q) (open_at before) heading) next (texts_of others) count) →
      IsLed (open_at before) line (lines_in (section_text heading section ++ flat_map forever_lines others)) count
  told_led heading section before line count others turn short refuted writable next =
      subst (λ (texts : List (List ℕ)). IsLed (open_at before) line texts count)
      (sym (section_cut heading section (flat_map forever_lines others) short writable.formed))
      (section_led heading section before line count (texts_of others) turn short refuted writable (next (line + 1 + length (map line_text (section_lines section)))))

  -- a horizon whose induction fails, and those behind it
  failed_led : (h steps before all count : ℕ) (sections : List Section) (others : List ForeverTold) → h ≡ (range_of q).0 + before → before + length sections ≡ all →
      (range_of q).0 + all ≤ most_steps → HaveFailed d q budget before sections → AreWritable d q (failed_told h steps sections ++ others) →
      ((line : ℕ) → AreWritable d q others → IsLed (open_at all) line (texts_of others) count) →
      (line : ℕ) → IsLed (open_at before) line (texts_of (failed_told h steps sections ++ others)) count
  failed_led h steps before all count [] others at in_all few have writable next line =
      subst (λ (n : ℕ). IsLed (open_at n) line (texts_of others) count) (let e : all ≡ before = omega arith in e) (next line writable)
  failed_led h steps before all count (section ∷ sections) others at in_all few (refuted, within, some, have) writable next line =
      told_led (headings.Horizon h) section before line count (failed_told (h + 1) (steps + 1) sections ++ others) (at, (omega arith)) (omega arith)
      (subst (λ (n : ℕ). Refutes d q budget (headings.Horizon n) section) (sym at) refuted) writable.0
      (failed_led (h + 1) (steps + 1) (before + 1) all count sections others (omega arith) (omega arith) few have writable.1.1 next)

  -- ---- the run

  closes_led : (failed : ℕ) (base section : Section) → IsInReach q failed → (range_of q).1 ≤ most_steps →
      Refutes d q budget (headings.Horizon ((range_of q).0 + failed)) base → Refutes d q budget (headings.Steps (failed + 1)) section →
      (line : ℕ) → AreWritable d q (NoneAt ((range_of q).0 + failed) base ∷ HoldsOver (failed + 1) section ∷ []) →
      IsLed (open_at failed) line (texts_of (NoneAt ((range_of q).0 + failed) base ∷ HoldsOver (failed + 1) section ∷ [])) (failed + 2)
  closes_led failed base section reach most refuted holds line writable =
      let low = reach.horizon in let few = reach.steps in
      told_led (headings.Horizon ((range_of q).0 + failed)) base failed line (failed + 2) (HoldsOver (failed + 1) section ∷ []) (refl, (omega arith)) (omega arith)
      refuted writable.0 (λ next.
      told_led (headings.Steps (failed + 1)) section (failed + 1) next (failed + 2) [] (refl, (omega arith), (omega arith)) (omega arith) holds writable.1.0 (λ last. record {
        begins = tt;
        sections = [];
        last = place_behind (forever_subject d q) (open_at (failed + 1)) (headings.Steps (failed + 1));
        after = last;
        leads = (refl, refl, refl);
        closed = refl;
        as_many = omega arith;
      }))

  told_is : (failed : List Section) (base : Option Section) (own : Section) (ending : Option ForeverEnding) (section : Section) (run : ForeverRun) →
      run.failed ≡ failed → base ≡ Some own → ending ≡ Some (Proved section) →
      failed_told (range_of q).0 1 failed ++ map (NoneAt ((range_of q).0 + length failed)) (optional base) ++ flat_map (ending_told q run) (optional ending)
      ≡ failed_told (range_of q).0 1 failed ++ NoneAt ((range_of q).0 + length failed) own ∷ HoldsOver (length failed + 1) section ∷ []
  told_is failed base own ending section run run_is base_is ending_is =
      let front = failed_told (range_of q).0 1 failed in
      let one = NoneAt ((range_of q).0 + length failed) own in
      (λ i. front ++ map (NoneAt ((range_of q).0 + length failed)) (optional (base_is i)) ++ flat_map (ending_told q run) (optional (ending_is i)))
      ∙ ap (λ (l : List Section). front ++ one ∷ [] ++ HoldsOver (length l + 1) section ∷ []) run_is
      ∙ append_assoc front (one ∷ []) (HoldsOver (length failed + 1) section ∷ [])

  stopped : (last : Place) (line count : ℕ) → last.is_closed ≡ true → last.before ≡ count →
      IsStopped (forever_subject d q) (λ _. Unit {0}) last line [] (verdicts.Accepted count)
  stopped last line count closed as_many =
      sym ((λ i. if closed i || false then verdicts.Accepted (as_many i) else verdicts.Refused line causes.Section))

pub logs_are_accepted : ForeverLogsAreAccepted
logs_are_accepted d q budget run fair writable most section ends =
    let (some, holds) = proved_by d q budget run fair section ends in
    let (base, next_is) = some_is run.next some in
    let (reach, refuted) = subst (λ (o : Option Section). IfSome o (λ section. IsInReach q (length run.failed) × Refutes d q budget (headings.Horizon ((range_of q).0 + length run.failed)) section)) next_is fair.next in
    let told = told_is d q budget run.failed run.next base run.ending section run refl next_is ends in
    let low = reach.horizon in
    let all = length-append run.failed (optional run.next) in
    let one = one_base run.next some in
    let led = failed_led d q budget (range_of q).0 1 0 (length run.failed) (length run.failed + 2) run.failed
    (NoneAt ((range_of q).0 + length run.failed) base ∷ HoldsOver (length run.failed + 1) section ∷ []) (omega arith) (omega arith) (omega arith) fair.failed
    (subst (AreWritable d q) told writable) (closes_led d q budget (length run.failed) base section reach most refuted holds) 2 in
    subst (λ (l : List ForeverTold). IsSilentVerdict (forever_subject d q) (forever_header ++ flat_map forever_lines l) (verdicts.Accepted (length (bases run) + 1))) (sym told)
    (inr (refl, (led.sections, led.last, led.after, [], led.leads, stopped d q budget led.last led.after (length (bases run) + 1) led.closed (led.as_many ∙ (let e : length run.failed + 2 ≡ length (bases run) + 1 = omega arith in e)))))
