-- A mode that begins by reading its description, from the steps of that; and what is refused of a description that was read.
use Rattle.std.proofs.Common.{◌≡◌, refl, sym, ap, subst, ℕ, ◌≤◌, Bool, List, [], ◌++◌, Option, Some, None, Result, Ok, Err, IfSome, IfOk, map, option_map}
use Rattle.std.specs.Prelude.{IfErr, IsErrAnd, IsErrOf}
use Rattle.cc_defs.specs.declared.refusal.Fault.{Fault}
use Rattle.cc_defs.specs.declared.refusal.Fault.TheVariants as faults
use Rattle.cc_defs.specs.declared.refusal.Refusal.{Refusal}
use Rattle.cc_describe.specs.declared.description.DescribedWide.{DescribedWide}
use Rattle.cc_describe.specs.declared.description.DescribeStop.{DescribeStop}
use Rattle.cc_describe.specs.declared.description.DescribeStop.TheVariants as describe_stops
use Rattle.cc_describe.specs.declared.description.Described.{Described}
use Rattle.cc_describe.specs.declared.heads.Heads.{Heads}
use Rattle.cc_describe.specs.declared.heads.Heads.TheVariants as heads
use Rattle.cc_describe.specs.Describing.{AreFirstNames, Describes, DescribesWide, HasStopped, IsDescribedWide, OpensFor, SaysAllWide}
use Rattle.cc_describe.specs.FirstRefusal.{declared_in, file_named}
use Rattle.cc_describe.specs.Places.{Files, Place}
use Rattle.cc_list.proofs.Callings.{called_reading, first_all, first_longer, memory_not_read, memory_not_write, ok_no_err, read_not_write, refused_is_no_fault}
use Rattle.cc_list.proofs.Described.{IsRead, first_files, is_read, named_refused, stopped, stopped_refuses}
use Rattle.cc_list.proofs.Outcomes.{files_stay, known, prints_after_read, prints_lacking, prints_opened, prints_refusal, prints_stopped}
use Rattle.cc_list.specs.Asking.{IsFaultNamed}
use Rattle.cc_list.specs.Descriptions.{IsWideDescriptionOf, wide_description_of}
use Rattle.cc_list.specs.Promises.{Promise, names_log}
use Rattle.cc_list.specs.Stops.{Prints, PrintsAsked}
use Rattle.cc_list.specs.Tasks.{AreRead, Named, RefusesNamed, description_in}
use Rattle.cc_defs.specs.Resolved.{plain_query}
use Rattle.cc_ports.specs.Calls.{AreActs, Call, names_begun, names_opened, with_calls}
use Rattle.cc_ports.specs.Contents.{Contents, Rose, with_rest}
use Rattle.cc_ports.specs.Moments.{Moment}
use Rattle.cc_run.specs.Modes.Generally.{wide_in}
use Rattle.cc_run.specs.Promised.{promise_asked}
use Rattle.cc_run.specs.Reading.{BeginsByReading, TellsFault}
use Rattle.cc_tell.specs.declared.status.Status.{Status}
use Rattle.cc_tell.specs.declared.status.Status.TheVariants as statuses
use Rattle.cc_tell.specs.declared.status.Stop.{Stop}
use Rattle.cc_tell.specs.declared.status.Stop.TheVariants as stops
use Rattle.cc_tell.specs.ErrLines.{refusal_text}
use Rattle.cc_tell.specs.Givens.{only_err}
use Rattle.cc_tell.specs.Steps.{Called, IsCalm, Step}
use Rattle.cc_words.specs.declared.asked.Asked.{Asked}
use Rattle.cc_words.specs.Requests.{Request}
use Rattle.cc_words.specs.Views.{plain_request}
use Rattle.cc_words.specs.Words.{Text}

abbrev Outcome : Type 0
Outcome = Result DescribedWide DescribeStop

-- the description of a file was read, or it was not
pub record Reads (which : Heads) (file : Text) (r : Outcome) (old new : Moment) : Type 0 where
  pub rest : List ℕ
  pub told : new.told ≡ option_map (with_rest rest) old.told
  pub begun : new.begun ≡ old.begun
  pub reads : old.reads ≤ new.reads
  pub writes : old.writes ≤ new.writes
  pub opened : List Text
  pub called : Called opened [] old new
  pub opens : IfSome old.told (λ c. OpensFor which c.files file r opened)
  pub describes : IfSome old.told (λ c. IfOk r (DescribesWide which c.files file))
  pub stops : IfSome old.told (λ c. IfErr r (HasStopped which c.files file))
  pub failed : IsErrOf r describe_stops.ReadFault → Rose old.reads new.reads
  pub calm : (IsErrOf r describe_stops.ReadFault → ⊥) → IsCalm old new

-- it was read with these heads, by this name
pub reads : (which heads : Heads) (file name : Text) (r : Outcome) (x y : Moment) → heads ≡ which → name ≡ file →
    IfSome x.told (λ c. IfOk r (DescribesWide heads c.files name)) → IfSome x.told (λ c. IfErr r (HasStopped heads c.files name)) →
    (IsErrOf r describe_stops.ReadFault → Rose x.reads y.reads) → ((rest : List ℕ) × (y.told ≡ option_map (with_rest rest) x.told)) → y.begun ≡ x.begun →
    ((more : List Call) × (y.calls ≡ with_calls more x.calls) × (names_begun more ≡ []) × IfSome x.told (λ c. OpensFor heads c.files name r (names_opened more)) × AreActs more) →
    ((IsErrOf r describe_stops.ReadFault → ⊥) → IsCalm x y) → x.reads ≤ y.reads → x.writes ≤ y.writes → Reads which file r x y
reads which heads file name r x y same named described refused failed after begun calls calm more_reads more_writes =
    subst (λ (f : Text). Reads which f r x y) named (subst (λ (h : Heads). Reads h name r x y) same (record {
      rest = after.0;
      told = after.1;
      begun = begun;
      reads = more_reads;
      writes = more_writes;
      opened = names_opened calls.0;
      called = called_reading x y calls.0 calls.1 calls.2 calls.4;
      opens = calls.3;
      describes = described;
      stops = refused;
      failed = failed;
      calm = calm;
    }))

module _ (promise : Promise) (b : Bool) (which : Heads) (file : Text) (behind : List Text) (begins : BeginsByReading promise which file behind) (x y : Moment) where
  -- the run goes on over the description
  pub goes_on : (said : DescribedWide) (r : Outcome) (z : Moment) (s : Result Status Stop) → r ≡ Ok said → Reads which file r x y →
      (IfSome y.told (λ c. DescribesWide which c.files file said) → Prints promise b behind y z s) → PrintsAsked promise b x z s
  goes_on said r z s is all next =
      let read = subst (λ (o : Outcome). Reads which file o x y) is all in
      prints_opened promise b (read.opened ++ behind) x z s
      (known x.told (λ c. OpensFor which c.files file r read.opened) (λ c. promise.Opens c.files (read.opened ++ behind)) (λ c are. begins.opens c.files read.opened (subst (λ (o : Outcome). OpensFor which c.files file o read.opened) is are))
      (subst (λ (o : Outcome). IfSome x.told (λ c. OpensFor which c.files file o read.opened)) (sym is) read.opens))
      (prints_after_read promise b read.opened behind read.rest x y z s read.told read.begun read.reads read.writes read.called (read.calm (ok_no_err said describe_stops.ReadFault))
      (next (files_stay read.rest (λ files. DescribesWide which files file said) x.told y.told read.told read.describes)))

  -- the description is refused
  pub is_refused : (refusal : Refusal) (name shown : Text) (r : Outcome) (z : Moment) (s : Result Status Stop) → r ≡ Err (describe_stops.Refused refusal name) →
      Reads which file r x y → shown ≡ name → Step (only_err (refusal_text refusal shown)) y z s → IfOk s (λ status. status ≡ statuses.Refused) → PrintsAsked promise b x z s
  is_refused refusal name shown r z s is all same step status =
      let read = subst (λ (o : Outcome). Reads which file o x y) is all in
      let there = files_stay read.rest (λ files. HasStopped which files file (describe_stops.Refused refusal name)) x.told y.told read.told read.stops in
      prints_opened promise b (read.opened ++ behind) x z s
      (known x.told (λ c. OpensFor which c.files file (stopped {T = DescribedWide} (describe_stops.Refused refusal name)) read.opened) (λ c. promise.Opens c.files (read.opened ++ behind))
      (λ c are. begins.opens c.files read.opened are) read.opens)
      (prints_after_read promise b read.opened behind read.rest x y z s read.told read.begun read.reads read.writes read.called (read.calm (refused_is_no_fault (describe_stops.Refused refusal name) refusal name refl))
      (prints_refusal promise b behind refusal name y z s begins.may
      (known y.told (λ c. HasStopped which c.files file (describe_stops.Refused refusal name)) (λ c. promise.Refuses c.files refusal name)
      (λ c is. begins.refuses c.files refusal name (stopped_refuses which c.files file refusal name is)) there)
      (subst (λ (f : Text). Step (only_err (refusal_text refusal f)) y z s) same step) status))

  firsts : (o : Option Contents) (stop : DescribeStop) (names : List Text) → IfSome o (λ c. OpensFor which c.files file (stopped {T = DescribedWide} stop) names) →
      (all : List Text) × AreFirstNames names all × IfSome o (λ c. promise.Opens c.files all)
  firsts None stop names opens = (names, first_all names, tt)
  firsts (Some c) stop names opens =
      let there = first_files DescribedWide which c.files file stop names opens in
      (there.0 ++ behind, first_longer names there.0 behind there.2, begins.opens c.files there.0 there.1)

  -- it could not be read
  pub not_read : (r : Outcome) → r ≡ Err describe_stops.ReadFault → Reads which file r x y → PrintsAsked promise b x y (Err stops.ReadFault)
  not_read r is all =
      let read = subst (λ (o : Outcome). Reads which file o x y) is all in
      let names = firsts x.told describe_stops.ReadFault read.opened read.opens in
      prints_opened promise b names.0 x y (Err stops.ReadFault) names.2
      (prints_stopped promise b read.opened names.0 read.rest stops.ReadFault x y read.told read.begun read.reads read.writes read.called names.1 (λ _. read.failed refl) read_not_write)

  pub no_memory : (r : Outcome) → r ≡ Err describe_stops.OutOfMemory → Reads which file r x y → PrintsAsked promise b x y (Err stops.OutOfMemory)
  no_memory r is all =
      let read = subst (λ (o : Outcome). Reads which file o x y) is all in
      let names = firsts x.told describe_stops.OutOfMemory read.opened read.opens in
      prints_opened promise b names.0 x y (Err stops.OutOfMemory) names.2
      (prints_stopped promise b read.opened names.0 read.rest stops.OutOfMemory x y read.told read.begun read.reads read.writes read.called names.1 (λ is. absurd (memory_not_read is)) memory_not_write)

-- what is refused of a description that was read
pub prints_fault : (promise : Promise) (b : Bool) (opens : List Text) (names : List Text) (fault : Fault) (x z : Moment) (s : Result Status Stop) → promise.MayEnd statuses.Refused →
    ((refusal : Refusal) → fault ≡ faults.Refused refusal → IfSome x.told (λ c. promise.Refuses c.files refusal (file_named names refusal))) → TellsFault names fault x z s →
    Prints promise b opens x z s
prints_fault promise b opens names (faults.Refused refusal) x z s may refused tells =
    prints_refusal promise b opens refusal (file_named names refusal) x z s may (refused refusal refl) tells.0 tells.1
prints_fault promise b opens names faults.OutOfMemory x z s may refused tells =
    subst (λ (m : Moment). Prints promise b opens x m s) (sym tells.0) (prints_lacking promise b opens x s (subst (λ (r : Result Status Stop). IsErrAnd r (λ e. e ≡ stops.OutOfMemory)) (sym tells.1) refl))

-- ---- the description of places

pub wide_description_is : (places : List Place) (said : DescribedWide) → IsDescribedWide heads.Any places said → IsWideDescriptionOf said (wide_in places)
wide_description_is places said is = record {
  declarations = declared_in places;
  table = is.described.table;
  signature = is.described.signature;
  is = ap (wide_description_of (declared_in places)) (sym is.wide);
}

-- what was read, without the laws with heads of any form
pub read_bare : (o : Option Contents) (file : Text) (said : DescribedWide) → SaysAllWide heads.Definite said → IfSome o (λ c. DescribesWide heads.Definite c.files file said) →
    IsRead heads.Definite o (λ files. files) file said.described
read_bare o file said says describes =
    is_read heads.Definite o (λ files. files) file said.described (says.0, says.1, says.2.described)
    (known o (λ c. DescribesWide heads.Definite c.files file said) (λ c. Describes heads.Definite c.files file said.described)
    (λ c all. (all.0, all.1, all.2, all.3.described, all.4)) describes)

-- ---- what is refused of a query or a key that is named

pub names_refuse : (o : Option Contents) (source : Files → Files) (by : Named) (described : Described) (of : IsRead heads.Definite o source by.file described) (fault : Fault) →
    IsFaultNamed (description_in of.places) (map plain_query described.queries) by.query by.after fault → (refusal : Refusal) → fault ≡ faults.Refused refusal →
    IfSome o (λ c. RefusesNamed (source c.files) by refusal (file_named described.files refusal))
names_refuse o source by described of fault is refusal same =
    known o (λ c. AreRead (source c.files) by.file of.places) (λ c. RefusesNamed (source c.files) by refusal (file_named described.files refusal))
    (λ c read. named_refused (source c.files) by of.places described refusal (file_named described.files refusal) of.said read refl
    (subst (IsFaultNamed (description_in of.places) (map plain_query described.queries) by.query by.after) same is)) of.read

-- ---- what is asked for

abbrev pub some_request : Asked → Option Request
some_request asked = Some (plain_request asked)

pub printed_as : (a b : Option Request) (x z : Moment) (r : Result Status Stop) → a ≡ b → PrintsAsked (promise_asked a) (names_log (promise_asked a)) x z r →
    PrintsAsked (promise_asked b) (names_log (promise_asked b)) x z r
printed_as a b x z r same prints = subst (λ (request : Option Request). PrintsAsked (promise_asked request) (names_log (promise_asked request)) x z r) same prints
