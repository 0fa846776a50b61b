-- Which calls steps make of a desk, one after another.
use Rattle.std.proofs.Common.{◌≡◌, ◌∙◌, refl, sym, ap, subst, ℕ, List, [], ◌∷◌, ◌++◌, map, Result, Ok, Err, append_assoc, append-nil, inl, inr}
use Rattle.std.specs.Prelude.{◌⊎◌, IsErrOf}
use Rattle.cc_defs.specs.declared.refusal.Refusal.{Refusal}
use Rattle.cc_describe.specs.declared.description.DescribeStop.{DescribeStop}
use Rattle.cc_describe.specs.declared.description.DescribeStop.TheVariants as describe_stops
use Rattle.cc_describe.specs.Describing.{AreFirstNames}
use Rattle.cc_ports.proofs.Acts.{acts_read}
use Rattle.cc_ports.specs.Calls.{AreActs, AreReadings, Call, Reads, names_begun, names_opened, with_calls}
use Rattle.cc_ports.specs.declared.whole.ReadStop.{ReadStop}
use Rattle.cc_ports.specs.declared.whole.ReadStop.TheVariants as read_stops
use Rattle.cc_ports.specs.Moments.{Moment}
use Rattle.cc_list.specs.Names.{IsAnswer}
use Rattle.cc_list.specs.Promises.{IsEndStatus}
use Rattle.cc_list.specs.Stops.{Asks, outcome}
use Rattle.cc_tell.specs.declared.status.Status.{Status}
use Rattle.cc_tell.specs.declared.status.Status.TheVariants as statuses
use Rattle.cc_tell.specs.declared.status.Stop.{Stop}
use Rattle.cc_tell.specs.declared.status.Stop.TheVariants as stops
use Rattle.cc_tell.specs.Steps.{Called}
use Rattle.cc_tell.specs.StopLines.{TellsStop, cut_status, stop_status}
use Rattle.cc_words.specs.Words.{Text}
use Rattle.cc_tell.proofs.Calls.{called_both}

-- ---- names, one after another

pub first_none : (names : List Text) → AreFirstNames [] names
first_none names = (names, refl)

pub first_all : (names : List Text) → AreFirstNames names names
first_all names = ([], sym (append-nil names))

pub first_longer : (a b c : List Text) → AreFirstNames a b → AreFirstNames a (b ++ c)
first_longer a b c first = (first.0 ++ c, ap (λ (l : List Text). l ++ c) first.1 ∙ append_assoc a first.0 c)

first_behind : (a b c : List Text) → AreFirstNames b c → AreFirstNames (a ++ b) (a ++ c)
first_behind a b c first = (first.0, ap (λ (l : List Text). a ++ l) first.1 ∙ sym (append_assoc a b first.0))

-- ---- calls, one after another

reads_opened : (rooms : List ℕ) → names_opened (map Reads rooms) ≡ []
reads_opened [] = refl
reads_opened (room ∷ rooms) = reads_opened rooms

reads_begun : (rooms : List ℕ) → names_begun (map Reads rooms) ≡ []
reads_begun [] = refl
reads_begun (room ∷ rooms) = reads_begun rooms

-- what `read_all` says of its calls
pub called_reads : (name : Text) (most : ℕ) (x y : Moment) → ((more : List Call) × AreReadings name most more × (y.calls ≡ with_calls more x.calls)) → Called (name ∷ []) [] x y
called_reads name most x y made = record {
  more = made.0;
  calls = made.2;
  opened_are = ap (λ (l : List Call). names_opened l) made.1.calls_are ∙ ap (λ (l : List Text). name ∷ l) (reads_opened made.1.rooms);
  begun_are = ap (λ (l : List Call). names_begun l) made.1.calls_are ∙ reads_begun made.1.rooms;
  acts = acts_read name most made.0 made.1;
}

-- ---- what is asked for

-- nothing was opened or begun, where there is no answer
pub asks_nothing : (opens : List Text) (begins : Status → List Text) (x z : Moment) (r : Result Status Stop) → Called [] [] x z → (IsAnswer (outcome r) → ⊥) → Asks opens begins x z r
asks_nothing opens begins x z r called none = record {
  opened = [];
  begun = [];
  called = called;
  opened_first = first_none opens;
  begun_first = first_none (begins statuses.Right);
  whole = λ is. absurd (none is);
}

pub asks_behind : (opened opens : List Text) (begins : Status → List Text) (x y z : Moment) (r : Result Status Stop) → Called opened [] x y → Asks opens begins y z r →
    Asks (opened ++ opens) begins x z r
asks_behind opened opens begins x y z r called asks = record {
  opened = opened ++ asks.opened;
  begun = asks.begun;
  called = called_both opened [] asks.opened asks.begun x y z called asks.called;
  opened_first = first_behind opened asks.opened opens asks.opened_first;
  begun_first = asks.begun_first;
  whole = λ is. (ap (λ (l : List Text). opened ++ l) (asks.whole is).0, (asks.whole is).1);
}

pub stop_answers_nothing : (stop : Stop) → IsAnswer (stop_status stop) → ⊥
stop_answers_nothing stops.ReadFault is = is
stop_answers_nothing stops.WriteFault is = is
stop_answers_nothing stops.OutOfMemory is = is

cut_answers_nothing : (stop : Stop) → IsAnswer (cut_status stop) → ⊥
cut_answers_nothing stops.ReadFault is = is
cut_answers_nothing stops.WriteFault is = is
cut_answers_nothing stops.OutOfMemory is = is

stop_ends_nothing : (stop : Stop) → IsEndStatus (stop_status stop) → ⊥
stop_ends_nothing stops.ReadFault is = is
stop_ends_nothing stops.WriteFault is = is
stop_ends_nothing stops.OutOfMemory is = is

cut_ends_nothing : (stop : Stop) → IsEndStatus (cut_status stop) → ⊥
cut_ends_nothing stops.ReadFault is = is
cut_ends_nothing stops.WriteFault is = is
cut_ends_nothing stops.OutOfMemory is = is

-- where a stop was told, the run has no answer, and it did not come to its end
pub told_answers_nothing : (stop : Stop) (x y : Moment) (status : Status) → TellsStop stop x y status → IsAnswer status → ⊥
told_answers_nothing stop x y status tells = how tells.how
  where
    how : {A B C : Type 0} → (A × (status ≡ stop_status stop)) ⊎ (B × (status ≡ cut_status stop) × C) → IsAnswer status → ⊥
    how (inl whole) is = stop_answers_nothing stop (subst IsAnswer whole.1 is)
    how (inr cut) is = cut_answers_nothing stop (subst IsAnswer cut.1 is)

pub told_ends_nothing : (stop : Stop) (x y : Moment) (status : Status) → TellsStop stop x y status → IsEndStatus status → ⊥
told_ends_nothing stop x y status tells = how tells.how
  where
    how : {A B C : Type 0} → (A × (status ≡ stop_status stop)) ⊎ (B × (status ≡ cut_status stop) × C) → IsEndStatus status → ⊥
    how (inl whole) is = stop_ends_nothing stop (subst IsEndStatus whole.1 is)
    how (inr cut) is = cut_ends_nothing stop (subst IsEndStatus cut.1 is)

-- ---- a description that was read

-- what `describe` says of its calls
pub called_reading : (x y : Moment) (more : List Call) → y.calls ≡ with_calls more x.calls → names_begun more ≡ [] → AreActs more → Called (names_opened more) [] x y
called_reading x y more calls begun acts = record { more = more; calls = calls; opened_are = refl; begun_are = begun; acts = acts }

pub refused_is_no_fault : {T : Type 0} (stop : DescribeStop) (refusal : Refusal) (file : Text) → stop ≡ describe_stops.Refused refusal file → IsErrOf {T = T} (Err stop) describe_stops.ReadFault → ⊥
refused_is_no_fault stop refusal file is fault = cc

abbrev unread : ReadStop → Result (List ℕ) ReadStop
unread stop = Err stop

pub limit_is_no_fault : (stop : ReadStop) → stop ≡ read_stops.Limit → IsErrOf (unread stop) read_stops.Failed → ⊥
limit_is_no_fault stop is fault = cc

pub ok_no_err : {T E : Type 0} (done : T) (e : E) → IsErrOf {T = T} {E = E} (Ok done) e → ⊥
ok_no_err done e is = absurd cc

pub memory_not_read : stops.OutOfMemory ≡ stops.ReadFault → ⊥
memory_not_read is = absurd cc

pub memory_not_write : stops.OutOfMemory ≡ stops.WriteFault → ⊥
memory_not_write is = absurd cc

pub read_not_write : stops.ReadFault ≡ stops.WriteFault → ⊥
read_not_write is = absurd cc
