-- What a run on every horizon gives, turn by turn, and how it ends.
use Rattle.std.proofs.Common.{◌≡◌, ◌∙◌, ◌⊎◌, refl, sym, ap, subst, ℕ, suc, ◌+◌, Bool, true, List, [], ◌∷◌, ◌++◌, append_assoc, append-nil, flat_map, map, Option, Some, None, inl, inr}
use Rattle.std.specs.List.{AllByRecursion}
use Rattle.std.specs.Prelude.{if◌then◌else◌, is_some}
use Rattle.cc_defs.specs.declared.log.LogLine.{LogLine}
use Rattle.cc_defs.specs.Description.{Description}
use Rattle.cc_defs.specs.LogTexts.{line_text}
use Rattle.cc_defs.specs.Resolved.{Query}
use Rattle.cc_defs.specs.Runs.{Section, optional, range_of}
use Rattle.cc_forever.specs.declared.turn.ForeverTurn.{ForeverTurn}
use Rattle.cc_forever.specs.declared.turn.ForeverTurn.TheVariants as turns
use Rattle.cc_forever.specs.ForeverRuns.{ForeverEnding, ForeverRun, Met, Proved, ReachesForeverLimit, Spent, Unsettled, forever_horizon, sought_next, steps_failed}
use Rattle.cc_forever.specs.Forevers.{ForeverSubject, IsRightRun, Steps, is_last}
use Rattle.cc_forever.specs.ForeverTold.{ForeverTold, FailsOver, FoundAt, HoldsOver, LeftOpen, NoneAt, SpentIn, ending_told, failed_told, forever_lines, forever_log, forever_told}
use Rattle.cc_lists.specs.Sections.{section_lines}
use Rattle.cc_run.proofs.ForeverSaying.{Says, is_of}
use Rattle.cc_run.specs.Modes.Proving.{EndsForever, forever_line, forever_text, proving_status}
use Rattle.cc_silent.specs.ForeverLogs.{forever_header, forever_heading}
use Rattle.cc_silent.specs.declared.forever.ForeverHeading.{ForeverHeading}
use Rattle.cc_silent.specs.declared.forever.ForeverHeading.TheVariants as headings
use Rattle.cc_tell.specs.declared.status.Status.{Status}
use Rattle.cc_tell.specs.declared.status.Status.TheVariants as statuses
use Rattle.cc_tell.specs.Givens.{Given, joined}
use Rattle.cc_tell_modes.specs.ForeverTexts.{forever_status, given_forever}
use Rattle.cc_tell_modes.specs.RunsTold.{EndsBy, GivesBy}

-- what a run gives, with the header of its log
abbrev pub forever_given : Description → Query → ForeverRun → Given
forever_given d q run = record { out = forever_text d q run; err = []; log = forever_log q run }

-- ---- what is given of a turn is what is told of it

module _ (d : Description) (claim : Bool) (least : ℕ) where
  abbrev told_as : ForeverTold → Given
  told_as told = record { out = forever_line d claim least told; err = []; log = forever_lines told }

  abbrev as_given : (out log : List ℕ) → Given
  as_given out log = record { out = out; err = []; log = log }

  logged : (out : List ℕ) (heading : ForeverHeading) (lines all : List LogLine) → lines ≡ all →
      as_given out (forever_heading heading ++ flat_map line_text lines) ≡ as_given out (forever_heading heading ++ flat_map line_text all)
  logged out heading lines all same = ap (λ (l : List LogLine). as_given out (forever_heading heading ++ flat_map line_text l)) same

  said_given : (turn : ForeverTurn) (told : ForeverTold) → Says turn told → given_forever d claim least turn ≡ told_as told
  said_given (turns.NoHistory horizon lines) told (section, lines_are, is) =
      logged (forever_line d claim least (NoneAt horizon section)) (headings.Horizon horizon) lines (section_lines section) lines_are ∙ ap told_as (sym is)
  said_given (turns.Fails steps) told is = ap told_as (sym is)
  said_given (turns.Holds steps lines) told (section, lines_are, is) =
      logged (forever_line d claim least (HoldsOver steps section)) (headings.Steps steps) lines (section_lines section) lines_are ∙ ap told_as (sym is)
  said_given (turns.Found horizon row) told is = ap told_as (sym is)
  said_given (turns.Unsettled steps example) told is = ap told_as (sym is)
  said_given (turns.Spent heading lines) told (section, lines_are, is) =
      logged (forever_line d claim least (SpentIn heading section)) heading lines (section_lines section) lines_are ∙ ap told_as (sym is)

-- ---- lists that grow by one

flat_more : {X : Type 0} (f : X → List ℕ) (xs : List X) (x : X) → flat_map f (xs ++ x ∷ []) ≡ flat_map f xs ++ f x
flat_more f [] x = append-nil (f x)
flat_more f (y ∷ xs) x = ap (λ (l : List ℕ). f y ++ l) (flat_more f xs x) ∙ sym (append_assoc (f y) (flat_map f xs) (f x))

last_same : {X : Type 0} (xs ys : List X) (x y : X) → xs ++ x ∷ [] ≡ ys ++ y ∷ [] → x ≡ y
last_same [] [] x y e = cc
last_same [] (z ∷ []) x y e = absurd cc
last_same [] (z ∷ (w ∷ ys)) x y e = absurd cc
last_same (z ∷ []) [] x y e = absurd cc
last_same (z ∷ (w ∷ xs)) [] x y e = absurd cc
last_same (z ∷ xs) (w ∷ ys) x y e = let rest : xs ++ x ∷ [] ≡ ys ++ y ∷ [] = cc in last_same xs ys x y rest

-- ---- the ending

-- what kind of event it is: none of an ending, or that of one
abbrev kind_of : ForeverTold → ℕ
kind_of (NoneAt horizon section) = 0
kind_of (FailsOver steps) = 0
kind_of (HoldsOver steps section) = 1
kind_of (FoundAt horizon row) = 2
kind_of (LeftOpen steps row) = 3
kind_of (SpentIn heading section) = 4

abbrev kind_ended : ForeverEnding → ℕ
kind_ended (Proved section) = 1
kind_ended (Met row) = 2
kind_ended Unsettled = 3
kind_ended (Spent section) = 4

abbrev AreOpen : List ForeverTold → Type 0
AreOpen told = AllByRecursion (λ one. kind_of one ≡ 0) told

open_both : (xs ys : List ForeverTold) → AreOpen xs → AreOpen ys → AreOpen (xs ++ ys)
open_both [] ys all more = more
open_both (x ∷ xs) ys all more = (all.0, open_both xs ys all.1 more)

open_failed : (horizon steps : ℕ) (sections : List Section) → AreOpen (failed_told horizon steps sections)
open_failed horizon steps [] = tt
open_failed horizon steps (section ∷ sections) = (refl, (refl, open_failed (horizon + 1) (steps + 1) sections))

open_next : (horizon : ℕ) (next : Option Section) → AreOpen (map (NoneAt horizon) (optional next))
open_next horizon None = tt
open_next horizon (Some section) = (refl, tt)

open_last : (before : List ForeverTold) (told : ForeverTold) → AreOpen (before ++ told ∷ []) → kind_of told ≡ 0
open_last [] told all = all.0
open_last (one ∷ before) told all = open_last before told all.1

-- a run that has ended tells its ending last
module _ (q : Query) (before : List ForeverTold) (after : ForeverRun) (told : ForeverTold) (all : forever_told q after ≡ before ++ told ∷ []) where
  abbrev front : List ForeverTold
  front = failed_told (range_of q).0 1 after.failed ++ map (NoneAt (forever_horizon q after)) (optional after.next)

  whole : (ending : ForeverEnding) → after.ending ≡ Some ending → front ++ (ending_told q after ending ++ []) ≡ before ++ told ∷ []
  whole ending is = sym (ap (λ (o : Option ForeverEnding). front ++ flat_map (ending_told q after) (optional o)) is) ∙ all

  kind_last : (one : ForeverTold) → front ++ (one ∷ []) ≡ before ++ told ∷ [] → kind_of told ≡ kind_of one
  kind_last one same = ap kind_of (sym (last_same front before one told same))

  kind_is : (ending : ForeverEnding) → after.ending ≡ Some ending → (kind_of told ≡ 0) ⊎ (kind_of told ≡ kind_ended ending)
  kind_is (Proved section) is = inr (kind_last (HoldsOver (steps_failed after + 1) section) (whole (Proved section) is))
  kind_is (Met row) is = inr (kind_last (FoundAt (forever_horizon q after) row) (whole (Met row) is))
  kind_is (Spent section) is = inr (kind_last (SpentIn (sought_next q after) section) (whole (Spent section) is))
  kind_is Unsettled is = by after.example refl
    where
      by : (o : Option (List ℕ)) → after.example ≡ o → (kind_of told ≡ 0) ⊎ (kind_of told ≡ 3)
      by (Some row) was = inr (kind_last (LeftOpen (steps_failed after) row)
          (sym (ap (λ (e : Option (List ℕ)). front ++ (map (LeftOpen (steps_failed after)) (optional e) ++ [])) was) ∙ whole Unsettled is))
      by None was = inl (open_last before told (subst AreOpen
          (sym (append-nil front) ∙ (sym (ap (λ (e : Option (List ℕ)). front ++ (map (LeftOpen (steps_failed after)) (optional e) ++ [])) was) ∙ whole Unsettled is))
          (open_both (failed_told (range_of q).0 1 after.failed) (map (NoneAt (forever_horizon q after)) (optional after.next))
          (open_failed (range_of q).0 1 after.failed) (open_next (forever_horizon q after) after.next))))

  -- the run has ended with an ending of this kind
  ends_so : (kind : ℕ) → kind_of told ≡ suc kind → is_some after.ending ≡ true → (ending : ForeverEnding) × (after.ending ≡ Some ending) × (kind_ended ending ≡ suc kind)
  ends_so kind told_is some = by after.ending refl some
    where
      settled : (ending : ForeverEnding) → (kind_of told ≡ 0) ⊎ (kind_of told ≡ kind_ended ending) → kind_ended ending ≡ suc kind
      settled ending (inl none) = absurd (let e : 0 ≡ suc kind = sym none ∙ told_is in cc)
      settled ending (inr same) = sym same ∙ told_is

      by : (o : Option ForeverEnding) → after.ending ≡ o → is_some o ≡ true → (ending : ForeverEnding) × (after.ending ≡ Some ending) × (kind_ended ending ≡ suc kind)
      by None is some = absurd cc
      by (Some ending) is some = (ending, is, settled ending (kind_is ending is))

said_ends : (d : Description) (q : Query) (before : List ForeverTold) (after : ForeverRun) (turn : ForeverTurn) (told : ForeverTold) → Says turn told →
    forever_told q after ≡ before ++ told ∷ [] → is_some after.ending ≡ is_last turn → EndsForever d q after [] (forever_status (is_some q.claim) turn)
said_ends d q before after (turns.NoHistory horizon lines) told is all ended = refl
said_ends d q before after (turns.Fails steps) told is all ended = refl
said_ends d q before after (turns.Holds steps lines) told (section, lines_are, is) all ended =
    let there = ends_so q before after told all 0 (ap kind_of is) ended in
    inl (there.0, there.1, refl, holds there.0 there.2)
  where
    holds : (ending : ForeverEnding) → kind_ended ending ≡ 1 → (if is_some q.claim then statuses.Right else statuses.Not) ≡ proving_status (is_some q.claim) ending
    holds (Proved section) same = refl
    holds (Met row) same = absurd cc
    holds Unsettled same = absurd cc
    holds (Spent section) same = absurd cc
said_ends d q before after (turns.Found horizon row) told is all ended =
    let there = ends_so q before after told all 1 (ap kind_of is) ended in
    inl (there.0, there.1, refl, found there.0 there.2)
  where
    found : (ending : ForeverEnding) → kind_ended ending ≡ 2 → (if is_some q.claim then statuses.Not else statuses.Right) ≡ proving_status (is_some q.claim) ending
    found (Proved section) same = absurd cc
    found (Met row) same = refl
    found Unsettled same = absurd cc
    found (Spent section) same = absurd cc
said_ends d q before after (turns.Unsettled steps example) told is all ended =
    let there = ends_so q before after told all 2 (ap kind_of is) ended in
    inl (there.0, there.1, refl, left there.0 there.2)
  where
    left : (ending : ForeverEnding) → kind_ended ending ≡ 3 → statuses.Spent ≡ proving_status (is_some q.claim) ending
    left (Proved section) same = absurd cc
    left (Met row) same = absurd cc
    left Unsettled same = refl
    left (Spent section) same = absurd cc
said_ends d q before after (turns.Spent heading lines) told (section, lines_are, is) all ended =
    let there = ends_so q before after told all 3 (ap kind_of is) ended in
    inl (there.0, there.1, refl, spent there.0 there.2)
  where
    spent : (ending : ForeverEnding) → kind_ended ending ≡ 4 → statuses.Spent ≡ proving_status (is_some q.claim) ending
    spent (Proved section) same = absurd cc
    spent (Met row) same = absurd cc
    spent Unsettled same = absurd cc
    spent (Spent section) same = refl

-- ---- how a run is told

module _ (of : ForeverSubject) (claim : Bool) (claim_is : is_some of.query.claim ≡ claim) where
  abbrev d : Description
  d = of.description

  abbrev q : Query
  q = of.query

  abbrev least : ℕ
  least = (range_of q).0

  -- what a run gives grows by what is told
  pub forever_gives : GivesBy (IsRightRun of) (Steps of) (λ (state : Unit {0}) (turn : ForeverTurn). given_forever d claim least turn) (λ state turn. state) (λ run. tt) (forever_given d q)
  forever_gives = record { grows = grows; moves = λ run after turn right right_after says. refl }
    where
      grown : (run after : ForeverRun) (told : ForeverTold) → forever_told q after ≡ forever_told q run ++ told ∷ [] →
          forever_given d q after ≡ joined (forever_given d q run) (told_as d (is_some q.claim) least told)
      grown run after told is = λ i. record {
        out = (ap (flat_map (forever_line d (is_some q.claim) least)) is ∙ flat_more (forever_line d (is_some q.claim) least) (forever_told q run) told) i;
        err = [];
        log = (ap (λ (l : List ForeverTold). forever_header ++ flat_map forever_lines l) is
            ∙ (ap (λ (l : List ℕ). forever_header ++ l) (flat_more forever_lines (forever_told q run) told)
            ∙ sym (append_assoc forever_header (flat_map forever_lines (forever_told q run)) (forever_lines told)))) i;
      }

      grows : (run after : ForeverRun) (turn : ForeverTurn) → IsRightRun of run → IsRightRun of after → Steps of run turn after →
          forever_given d q after ≡ joined (forever_given d q run) (given_forever d claim least turn)
      grows run after turn right right_after says =
          grown run after says.told says.all
          ∙ ap (λ (g : Given). joined (forever_given d q run) g)
          (sym (ap (λ (c : Bool). given_forever d c least turn) (sym claim_is) ∙ said_given d (is_some q.claim) least turn says.told (is_of turn says.told says.is)))

  -- it ends as its last turn says
  pub forever_ends : (run : ForeverRun) (err : List ℕ) (ends : Option Status) → EndsBy (ReachesForeverLimit d q) (Steps of) (forever_status claim) run err ends → EndsForever d q run err ends
  forever_ends run err None how = how
  forever_ends run err (Some status) (inr limit) = inr limit
  forever_ends run err (Some status) (inl (before, turn, says, status_is, err_is)) =
      subst (λ (ends : Option Status). EndsForever d q run err ends) status_is
      (subst (λ (text : List ℕ). EndsForever d q run text (forever_status claim turn)) (sym err_is)
      (subst (λ (c : Bool). EndsForever d q run [] (forever_status c turn)) claim_is
      (said_ends d q (forever_told q before) run turn says.told (is_of turn says.told says.is) says.all says.ended)))
