-- What a run leaves behind, from its steps.
use Rattle.std.proofs.Common.{◌≡◌, ◌∙◌, refl, sym, ap, subst, ℕ, ◌≤◌, Bool, true, false, List, [], ◌++◌, Option, Some, None, Result, Ok, Err, IfSome, IfOk, MatchResult, inl, inr, option_map, append-nil, length, arith}
use Rattle.std.proofs.lemmas.Bool.{false≢true}
use Rattle.std.specs.Prelude.{◌⊎◌, IsNone, is_some, IsErrAnd, IsErrOf, IsSomeAnd, ◌||◌}
use Rattle.cc_defs.specs.declared.event.Ending.{Ending}
use Rattle.cc_defs.specs.declared.event.Ending.TheVariants as endings
use Rattle.cc_defs.specs.declared.log.Version.{Version}
use Rattle.cc_defs.specs.declared.refusal.Refusal.{Refusal}
use Rattle.cc_defs.specs.Runs.{Claim, Conditions, Failure, Histories, Horizon, IsFairRun, IsTrueOf, MayEnd, MayEndWithin, Run, first_horizon, horizon_at, last_horizon, optional, rows_of}
use Rattle.cc_describe.specs.Describing.{AreFirstNames}
use Rattle.cc_describe.specs.Places.{Files}
use Rattle.cc_ports.specs.Calls.{AreActs, Call, names_begun, names_opened, with_calls}
use Rattle.cc_ports.specs.Contents.{Contents, Rose, IsPrefix, keeping, kept_behind, with_rest}
use Rattle.cc_ports.specs.declared.desk.To.TheVariants as outputs
use Rattle.cc_ports.specs.Moments.{Moment}
use Rattle.cc_list.specs.Answers.{Answered, Answers, Counts, Ended, GaveSoFar, RoseTwice, counts, left_in}
use Rattle.cc_list.specs.Listing.{Lists, listed_as, listing_promise}
use Rattle.cc_list.specs.Names.{BeginsAsked, IsAnswer, OpensAsked}
use Rattle.cc_list.specs.Promises.{IsEndStatus, Keeps, Promise, log_asked}
use Rattle.cc_list.specs.Searching.{EndsSo, IsTold}
use Rattle.cc_list.specs.Stops.{Asks, Leaves, Prints, PrintsAsked, Searches, outcome}
use Rattle.cc_list.specs.Tasks.{IsTask, Task, named_by}
use Rattle.cc_list.specs.Telling.{counts_of}
use Rattle.cc_list.specs.Wholes.{Left, Whole}
use Rattle.cc_tell.specs.declared.status.Status.{Status}
use Rattle.cc_tell.specs.declared.status.Status.TheVariants as statuses
use Rattle.cc_tell.specs.declared.status.Stop.{Stop}
use Rattle.cc_tell.specs.declared.status.Stop.TheVariants as stops
use Rattle.cc_tell.specs.Steps.{IsFresh, Begins, Called, IsCalm, Step}
use Rattle.cc_tell.specs.ErrLines.{refusal_text}
use Rattle.cc_tell.specs.Manners.{Manner, OneByOne}
use Rattle.cc_tell.specs.Statuses.{status_of}
use Rattle.cc_tell.specs.StopLines.{TellsStop, cut_status, stop_line, stop_status}
use Rattle.cc_tell.specs.Givens.{adding, given_to, AreFronts, Given, nothing, only_err}
use Rattle.cc_words.specs.Requests.{Listing}
use Rattle.cc_words.specs.Views.{plain_text}
use Rattle.cc_words.specs.Words.{Text}
use Rattle.cc_tell.proofs.Calls.{called_none, called_on}
use Rattle.cc_tell.proofs.GivenSteps.{calm_both, kept-nothing}
use Rattle.cc_list.proofs.Callings.{asks_behind, asks_nothing, first_none, read_not_write, stop_answers_nothing, told_answers_nothing}

-- ---- counts

pub rose_later : (a b c : ℕ) → a ≤ b → Rose b c → Rose a c
rose_later a b c h (inl rose) = inl (omega arith)
rose_later a b c h (inr end) = inr end

pub rose_earlier : (a b c : ℕ) → Rose a b → b ≤ c → Rose a c
rose_earlier a b c (inl rose) h = inl (omega arith)
rose_earlier a b c (inr end) h = inr (omega arith)

rose_twice : (a b c : ℕ) → Rose a b → Rose b c → RoseTwice a c
rose_twice a b c (inl first) (inl second) = inl (omega arith)
rose_twice a b c (inl first) (inr end) = inr end
rose_twice a b c (inr end) (inl second) = inr (omega arith)
rose_twice a b c (inr end) (inr again) = inr again

-- ---- what is left, where nothing was written before

abbrev pub left : Given → Bool → Left
left given begun = record { given = given; begun = begun }

fresh_left : (c : Contents) (given : Given) (begun : Bool) → IsFresh c → left_in (adding given c) given.log begun ≡ left given begun
fresh_left c given begun fresh = λ i. record {
  given = record {
    out = ap (λ w. w ++ given.out) fresh.out i;
    err = ap (λ w. w ++ given.err) fresh.err i;
    log = given.log;
  };
  begun = begun;
}

-- how a run comes to its end, or stops, with what it left
abbrev pub Comes : Files → Promise → Left → Result Status Stop → Type 0
Comes files promise left r = MatchResult r (λ status. Ended files promise status left) (λ _. GaveSoFar files promise left)

comes_over : (promise : Promise) (c : Contents) (given : Given) (begun : Bool) (r : Result Status Stop) → IsFresh c → Comes c.files promise (left given begun) r →
    Leaves promise c (adding given (keeping begun c)) begun r
comes_over promise c given true r fresh how = record {
  files = refl;
  log = given.log;
  logged = ap (λ (log : List ℕ). log ++ given.log) fresh.log;
  how = subst (λ l. Comes c.files promise l r) (sym (fresh_left c given true fresh)) how;
}
comes_over promise c given false r fresh how = record {
  files = refl;
  log = given.log;
  logged = ap (λ (log : List ℕ). kept_behind c.keeps log given.log) fresh.log;
  how = subst (λ l. Comes c.files promise l r) (sym (fresh_left c given false fresh)) how;
}

told_given : (promise : Promise) (given : Given) (old new : Option Contents) (was begun : Bool) (r : Result Status Stop) → begun ≡ was → new ≡ option_map (adding given) old →
    IfSome old (λ before. was ≡ false → Comes before.files promise (left given begun) r) →
    IfSome old (λ before. IsFresh before → was ≡ false → IsSomeAnd new (λ after. Leaves promise before after begun r))
told_given promise given None new was begun r same told how = tt
told_given promise given (Some c) new was begun r same told how = λ fresh none.
    let over = subst (λ (b : Bool). Leaves promise c (adding given (keeping b c)) begun r) (same ∙ none) (comes_over promise c given begun r fresh (how none))
    in subst (λ (n : Option Contents). IsSomeAnd n (λ after. Leaves promise c after begun r)) (sym told) over

-- what is known of a moment holds of all that follows from it
pub known : (o : Option Contents) (P Q : Contents → Type 0) → ((c : Contents) → P c → Q c) → IfSome o P → IfSome o Q
known None P Q f h = tt
known (Some c) P Q f h = f c h

-- ---- a whole that is given

-- what a step gave, which gives a whole or a front of it
pub whole_comes : (files : Files) (promise : Promise) (whole : Whole) (given : Given) (begun : Bool) (r : Result Status Stop) → Keeps promise files whole → begun ≡ whole.begun →
    MatchResult r (λ _. given ≡ whole.given) (λ _. AreFronts given whole.given) → IfOk r (λ status. whole.ends ≡ Some status) → Comes files promise (left given begun) r
whole_comes files promise whole given begun (Ok status) gives same how ends = record {
  whole = whole;
  gives = gives;
  ends = ends;
  left_is = λ i. record { given = how i; begun = same i };
}
whole_comes files promise whole given begun (Err stop) gives same how ends =
    inr (record { whole = whole; gives = gives; front = record { fronts = how; begun = same } })

-- a run that gives a whole, or a front of it where it stops
pub prints_whole : (promise : Promise) (begins : Bool) (opens : List Text) (whole : Whole) (x z : Moment) (r : Result Status Stop) →
    IfSome x.told (λ c. Keeps promise c.files whole) → whole.begun ≡ false → Step whole.given x z r → IfOk r (λ status. whole.ends ≡ Some status) →
    IfOk r (promise.MayEnd) → Asks opens (log_asked promise) x z r → Prints promise begins opens x z r
prints_whole promise begins opens whole x z r gives unbegun step ended may asks = record {
  told = told_given promise step.given x.told z.told x.begun z.begun r step.moves.begun step.moves.told
      (known x.told (λ c. Keeps promise c.files whole) (λ c. x.begun ≡ false → Comes c.files promise (left step.given z.begun) r)
      (λ c gives none. whole_comes c.files promise whole step.given z.begun r gives (step.moves.begun ∙ (none ∙ sym unbegun)) step.how ended) gives);
  ends = may;
  asks = asks;
  calm = step.moves.calm;
  begun = λ _. step.moves.begun;
  reads = step.moves.reads;
  writes = step.moves.writes;
  read_fault = λ fault. absurd (step.moves.no_read_fault fault);
  write_fault = step.moves.write_fault;
}

-- ---- a refusal

abbrev refusal_whole : Refusal → Text → Whole
refusal_whole refusal file = record { given = only_err (refusal_text refusal file); begun = false; ends = Some statuses.Refused }

refusal_given : (promise : Promise) (files : Files) (refusal : Refusal) (file : Text) → promise.Refuses files refusal file → Keeps promise files (refusal_whole refusal file)
refusal_given promise files refusal file refused =
    inl (record { refusal = refusal; file = file; refused = refused; given = refl; begun = refl; ends = refl })

ends_refused : (promise : Promise) (r : Result Status Stop) → promise.MayEnd statuses.Refused → IfOk r (λ status. status ≡ statuses.Refused) → IfOk r promise.MayEnd
ends_refused promise (Ok status) may is = subst (λ (s : Status). promise.MayEnd s) (sym is) may
ends_refused promise (Err stop) may is = tt

refused_ends : (r : Result Status Stop) → IfOk r (λ status. status ≡ statuses.Refused) → IfOk r (λ status. Some statuses.Refused ≡ Some status)
refused_ends (Ok status) is = ap Some (sym is)
refused_ends (Err stop) is = tt

refused_answers_nothing : (r : Result Status Stop) → IfOk r (λ status. status ≡ statuses.Refused) → IsAnswer (outcome r) → ⊥
refused_answers_nothing (Ok status) is answer = subst IsAnswer is answer
refused_answers_nothing (Err stop) is answer = stop_answers_nothing stop answer

pub prints_refusal : (promise : Promise) (begins : Bool) (opens : List Text) (refusal : Refusal) (file : Text) (x z : Moment) (r : Result Status Stop) →
    promise.MayEnd statuses.Refused → IfSome x.told (λ c. promise.Refuses c.files refusal file) → Step (only_err (refusal_text refusal file)) x z r →
    IfOk r (λ status. status ≡ statuses.Refused) → Prints promise begins opens x z r
prints_refusal promise begins opens refusal file x z r may refused step is =
    prints_whole promise begins opens (refusal_whole refusal file) x z r
    (known x.told (λ c. promise.Refuses c.files refusal file) (λ c. Keeps promise c.files (refusal_whole refusal file))
    (λ c is_refused. refusal_given promise c.files refusal file is_refused) refused)
    refl step (refused_ends r is) (ends_refused promise r may is)
    (asks_nothing opens (log_asked promise) x z r step.moves.called (refused_answers_nothing r is))

-- a run of a request that begins no log, and has no further file to open
pub asks_no_more : (promise : Promise) (x z : Moment) (r : Result Status Stop) → ((status : Status) → log_asked promise status ≡ []) → Called [] [] x z → Asks [] (log_asked promise) x z r
asks_no_more promise x z r none called = record {
  opened = [];
  begun = [];
  called = called;
  opened_first = first_none [];
  begun_first = first_none (log_asked promise statuses.Right);
  whole = λ _. (refl, sym (none (outcome r)));
}

-- ---- files that are opened

-- a run that has no file to open
pub prints_unopened : (promise : Promise) (begins : Bool) (x z : Moment) (r : Result Status Stop) → ((files : Files) → promise.Opens files []) →
    Prints promise begins [] x z r → PrintsAsked promise begins x z r
prints_unopened promise begins x z r asked prints = record { opens = []; asked = of x.told; prints = prints }
  where
    of : (o : Option Contents) → IfSome o (λ before. promise.Opens before.files [])
    of None = tt
    of (Some c) = asked c.files

-- a run that has these files to open
pub prints_opened : (promise : Promise) (begins : Bool) (opens : List Text) (x z : Moment) (r : Result Status Stop) →
    IfSome x.told (λ before. promise.Opens before.files opens) → Prints promise begins opens x z r → PrintsAsked promise begins x z r
prints_opened promise begins opens x z r are prints = record { opens = opens; asked = are; prints = prints }

-- what was refused of what was asked
pub refused_known : (o : Option Contents) (promise : Promise) (refusal : Refusal) (file : Text) → ((files : Files) → promise.Refuses files refusal file) →
    IfSome o (λ c. promise.Refuses c.files refusal file)
refused_known None promise refusal file refused = tt
refused_known (Some c) promise refusal file refused = refused c.files

-- ---- a run over a description that was read

leaves_read : (promise : Promise) (rest : List ℕ) (c after : Contents) (begun : Bool) (r : Result Status Stop) → Leaves promise (with_rest rest c) after begun r →
    Leaves promise c after begun r
leaves_read promise rest c after true r over = record { files = over.files; log = over.log; logged = over.logged; how = over.how }
leaves_read promise rest c after false r over = record { files = over.files; log = over.log; logged = over.logged; how = over.how }

told_read : (promise : Promise) (rest : List ℕ) (old mid new : Option Contents) (was at begun : Bool) (r : Result Status Stop) → mid ≡ option_map (with_rest rest) old → at ≡ was →
    IfSome mid (λ before. IsFresh before → at ≡ false → IsSomeAnd new (λ after. Leaves promise before after begun r)) →
    IfSome old (λ before. IsFresh before → was ≡ false → IsSomeAnd new (λ after. Leaves promise before after begun r))
told_read promise rest None mid new was at begun r told same prints = tt
told_read promise rest (Some c) mid new was at begun r told same prints = λ fresh none.
    let over = subst (λ (m : Option Contents). IfSome m (λ before. IsFresh before → at ≡ false → IsSomeAnd new (λ after. Leaves promise before after begun r))) told prints in
    some_over new (over (record { out = fresh.out; err = fresh.err; log = fresh.log }) (same ∙ none))
  where
    some_over : (n : Option Contents) → IsSomeAnd n (λ after. Leaves promise (with_rest rest c) after begun r) → IsSomeAnd n (λ after. Leaves promise c after begun r)
    some_over None h = h
    some_over (Some after) h = leaves_read promise rest c after begun r h

pub prints_after_read : (promise : Promise) (begins : Bool) (opened opens : List Text) (rest : List ℕ) (x y z : Moment) (r : Result Status Stop) → y.told ≡ option_map (with_rest rest) x.told →
    y.begun ≡ x.begun → x.reads ≤ y.reads → x.writes ≤ y.writes → Called opened [] x y → IsCalm x y → Prints promise begins opens y z r →
    Prints promise begins (opened ++ opens) x z r
prints_after_read promise begins opened opens rest x y z r told begun reads writes called calm prints = record {
  told = told_read promise rest x.told y.told z.told x.begun y.begun z.begun r told begun prints.told;
  ends = prints.ends;
  asks = asks_behind opened opens (log_asked promise) x y z r called prints.asks;
  calm = λ ok. calm_both x y z calm (prints.calm ok);
  begun = λ none. prints.begun none ∙ begun;
  reads = omega (arith, prints.reads);
  writes = omega (arith, prints.writes);
  read_fault = λ fault. rose_later x.reads y.reads z.reads reads (prints.read_fault fault);
  write_fault = λ fault. rose_later x.writes y.writes z.writes writes (prints.write_fault fault);
}

-- what is known of the files is known after the reading too
pub files_stay : (rest : List ℕ) (P : Files → Type 0) (old mid : Option Contents) → mid ≡ option_map (with_rest rest) old →
    IfSome old (λ c. P c.files) → IfSome mid (λ c. P c.files)
files_stay rest P None mid told h = subst (λ (m : Option Contents). IfSome m (λ c. P c.files)) (sym told) tt
files_stay rest P (Some c) mid told h = subst (λ (m : Option Contents). IfSome m (λ c. P c.files)) (sym told) h

-- ---- a run that stopped before it gave anything

fresh_nothing : (c : Contents) → IsFresh c → (left_in c [] false).given ≡ nothing
fresh_nothing c fresh = λ i. record { out = fresh.out i; err = fresh.err i; log = [] }

leaves_nothing : (promise : Promise) (before c : Contents) (begun : Bool) (stop : Stop) → c.files ≡ before.files → IsFresh c → begun ≡ false → Leaves promise before c begun (Err stop)
leaves_nothing promise before c begun stop files fresh none = record {
  files = files;
  log = [];
  logged = fresh.log ∙ sym (kept-nothing (keeping begun before).keeps []);
  how = inl (fresh_nothing c fresh, none);
}

told_stopped : (promise : Promise) (rest : List ℕ) (old new : Option Contents) (was begun : Bool) (stop : Stop) → new ≡ option_map (with_rest rest) old → begun ≡ was →
    IfSome old (λ before. IsFresh before → was ≡ false → IsSomeAnd new (λ after. Leaves promise before after begun (Err stop)))
told_stopped promise rest None new was begun stop told same = tt
told_stopped promise rest (Some c) new was begun stop told same = λ fresh none.
    subst (λ (n : Option Contents). IsSomeAnd n (λ after. Leaves promise c after begun (Err stop))) (sym told)
    (leaves_nothing promise c (with_rest rest c) begun stop refl (record { out = fresh.out; err = fresh.err; log = fresh.log }) (same ∙ none))

error_is : (d e : Stop) → IsErrOf {T = Status} (Err d) e → d ≡ e
error_is d e is = cc

-- it has read, and opened the first of the files that it has to open
pub prints_stopped : (promise : Promise) (begins : Bool) (opened opens : List Text) (rest : List ℕ) (stop : Stop) (x y : Moment) → y.told ≡ option_map (with_rest rest) x.told →
    y.begun ≡ x.begun → x.reads ≤ y.reads → x.writes ≤ y.writes → Called opened [] x y → AreFirstNames opened opens → (stop ≡ stops.ReadFault → Rose x.reads y.reads) →
    (stop ≡ stops.WriteFault → ⊥) → Prints promise begins opens x y (Err stop)
prints_stopped promise begins opened opens rest stop x y told begun reads writes called first read_fault write_fault = record {
  told = told_stopped promise rest x.told y.told x.begun y.begun stop told begun;
  ends = tt;
  asks = record {
    opened = opened;
    begun = [];
    called = called;
    opened_first = first;
    begun_first = first_none (log_asked promise statuses.Right);
    whole = λ is. absurd (stop_answers_nothing stop is);
  };
  calm = λ ok. absurd (false≢true ok);
  begun = λ _. begun;
  reads = reads;
  writes = writes;
  read_fault = λ is. read_fault (error_is stop stops.ReadFault is);
  write_fault = λ is. absurd (write_fault (error_is stop stops.WriteFault is));
}

-- nothing happened but that memory was wanting
pub prints_lacking : (promise : Promise) (begins : Bool) (opens : List Text) (x : Moment) (r : Result Status Stop) → IsErrAnd r (λ e. e ≡ stops.OutOfMemory) →
    Prints promise begins opens x x r
prints_lacking promise begins opens x (Ok status) lacks = absurd lacks
prints_lacking promise begins opens x (Err stop) lacks =
    let same = same_told x.told in
    prints_stopped promise begins [] opens same.0 stop x x same.1 refl (omega arith) (omega arith) (called_none x) (first_none opens)
    (λ is. absurd cc) (λ is. absurd cc)
  where
    same_told : (o : Option Contents) → (rest : List ℕ) × (o ≡ option_map (with_rest rest) o)
    same_told None = ([], refl)
    same_told (Some c) = (c.rest, refl)

-- before it was known what is asked for
pub asked_lacking : (promise : Promise) (begins : Bool) (x : Moment) (r : Result Status Stop) → ((o : Option Contents) → (all : List Text) × IfSome o (λ c. promise.Opens c.files all)) →
    IsErrAnd r (λ e. e ≡ stops.OutOfMemory) → PrintsAsked promise begins x x r
asked_lacking promise begins x r opens lacks =
    let some = opens x.told in
    record { opens = some.0; asked = some.1; prints = prints_lacking promise begins some.0 x r lacks }

-- ---- a log that is begun, and a search behind it

ending_ends : (ending : Ending) → IsEndStatus (status_of ending)
ending_ends (endings.Complete horizon listed) = tt
ending_ends (endings.Asked horizon listed) = tt
ending_ends (endings.Spent horizon listed) = tt
ending_ends endings.NoHistory = tt
ending_ends endings.ClaimHolds = tt
ending_ends endings.ClaimEmpty = tt
ending_ends endings.ClaimFails = tt

none_counted : (o : Option ℕ) (n : ℕ) → o ≡ Some n → IsNone o → ⊥
none_counted None n is all = absurd cc
none_counted (Some m) n is all = absurd cc

asked_within : (task : Task) (at horizon listed : ℕ) (next : Horizon) → IsTrueOf task.description task.query task.ask at next → MayEndWithin task.ask at next (endings.Asked horizon listed) →
    IsNone task.ask.count → ⊥
asked_within task at horizon listed (Histories section) told ends all = none_counted task.ask.count (length (rows_of section)) (told.1.enough ends.2) all
asked_within task at horizon listed (Conditions section) told ends all = ends
asked_within task at horizon listed (Claim conditions claim) told ends all = ends
asked_within task at horizon listed (Failure conditions claim row) told ends all = ends

asked_at : (task : Task) (run : Run) (at horizon listed : ℕ) (next : Option Horizon) →
    IfSome next (λ n. (at ≤ last_horizon task.query task.ask.after) × IsTrueOf task.description task.query task.ask at n) →
    MayEnd task.query task.ask at run next (endings.Asked horizon listed) → IsNone task.ask.count → ⊥
asked_at task run at horizon listed None told ends all = ends.1
asked_at task run at horizon listed (Some next) told ends all = asked_within task at horizon listed next told.1 ends all

-- a run whose ending is that as many histories were told as were asked for was asked for a number of them
asked_fair : (task : Task) (run : Run) (horizon listed : ℕ) → IsFairRun task.description task.query task.ask run → run.ending ≡ Some (endings.Asked horizon listed) → IsNone task.ask.count → ⊥
asked_fair task run horizon listed fair is all =
    let at = horizon_at (first_horizon task.query task.ask.after) run in
    asked_at task run at horizon listed run.next fair.next (subst (λ (e : Option Ending). IfSome e (MayEnd task.query task.ask at run run.next)) is fair.ending) all

asked_ending : (task : Task) (run : Run) (ending : Ending) → IsFairRun task.description task.query task.ask run → run.ending ≡ Some ending → status_of ending ≡ statuses.Asked → IsNone task.ask.count → ⊥
asked_ending task run (endings.Complete horizon listed) fair is asked all = absurd cc
asked_ending task run (endings.Asked horizon listed) fair is asked all = asked_fair task run horizon listed fair is all
asked_ending task run (endings.Spent horizon listed) fair is asked all = absurd cc
asked_ending task run endings.NoHistory fair is asked all = absurd cc
asked_ending task run endings.ClaimHolds fair is asked all = absurd cc
asked_ending task run endings.ClaimEmpty fair is asked all = absurd cc
asked_ending task run endings.ClaimFails fair is asked all = absurd cc

abbrev some : {X : Type 0} → X → Option X
some x = Some x

some_same : (a b : Status) → some a ≡ some b → a ≡ b
some_same a b e = cc

pub told_none : (manner : Manner) (task : Task) (run : Run) (whole : Whole) → IsTold manner task run whole → whole.ends ≡ Some statuses.Asked → IsNone task.ask.count → ⊥
told_none manner task run whole told is all = ends whole.ends is told.ends
  where
    ends : (e : Option Status) → e ≡ Some statuses.Asked → EndsSo task run whole.given.err e → ⊥
    ends None is how = absurd cc
    ends (Some other) is (inl ended) = asked_ending task run ended.0 told.fair ended.1 (sym ended.3 ∙ some_same other statuses.Asked is) all
    ends (Some other) is (inr refused) = let same = sym refused.4 ∙ some_same other statuses.Asked is in absurd cc

-- what a search is for: what it tells is what is asked, its log is the one that is named, and it may end so
pub record IsForSearch (promise : Promise) (begins : Bool) (names : List Text) (manner : Manner) (task : Task) (x : Moment) : Type 0 where
  pub names_are : (status : Status) → names ≡ log_asked promise status
  pub gives : (run : Run) (whole : Whole) → whole.begun ≡ begins → IsTold manner task run whole → IfSome x.told (λ c. Keeps promise c.files whole)
  pub may : (run : Run) (whole : Whole) (status : Status) → IsTold manner task run whole → whole.ends ≡ Some status → promise.MayEnd status

pub told_ends : (manner : Manner) (task : Task) (run : Run) (whole : Whole) (status : Status) → IsTold manner task run whole → whole.ends ≡ Some status → IsEndStatus status
told_ends manner task run whole status told is = ends whole.ends is told.ends
  where
    ends : (e : Option Status) → e ≡ Some status → EndsSo task run whole.given.err e → IsEndStatus status
    ends None is how = absurd cc
    ends (Some other) is (inl ended) = subst IsEndStatus (sym ended.3 ∙ some_same other status is) (ending_ends ended.0)
    ends (Some other) is (inr refused) = subst IsEndStatus (sym refused.4 ∙ some_same other status is) tt

lists_as : (listing : Listing) (names : List Text) (task : Task) (x : Moment) → names ≡ optional listing.log →
    task.ask.count ≡ listing.count → task.ask.budget ≡ listing.budget → IfSome x.told (λ before. IsTask before.files (named_by listing) task) →
    IsForSearch (listing_promise listing) (is_some listing.log) names (listed_as listing task) task x
lists_as listing names task x named count budget is = record {
  names_are = λ _. named;
  gives = λ run whole begun told. known x.told (λ before. IsTask before.files (named_by listing) task) (λ before. Keeps (listing_promise listing) before.files whole)
      (λ before is. inr (lists before.files is run whole begun told)) is;
  may = λ run whole status told ends. told_ends (listed_as listing task) task run whole status told ends;
}
  where
    lists : (files : Files) → IsTask files (named_by listing) task → (run : Run) (whole : Whole) → whole.begun ≡ is_some listing.log → IsTold (listed_as listing task) task run whole → Lists listing files whole
    lists files is run whole begun told = record { task = task; is = is; count = count; budget = budget; begun = begun; run = run; told = told }

pub lists_for : (listing : Listing) (names : List Text) (version : Version) (task : Task) (x : Moment) →
    names ≡ optional listing.log → task.ask.count ≡ listing.count → task.ask.budget ≡ listing.budget → version ≡ listing.form →
    IfSome x.told (λ before. IsTask before.files (named_by listing) task) →
    IsForSearch (listing_promise listing) (is_some listing.log) names (OneByOne version (counts_of task.description task.query task.ask.after)) task x
lists_for listing names version task x named count budget form is =
    subst (λ (v : Version). IsForSearch (listing_promise listing) (is_some listing.log) names (OneByOne v (counts_of task.description task.query task.ask.after)) task x) (sym form)
    (lists_as listing names task x named count budget is)

-- the same whole, where a log was begun
told_with : (manner : Manner) (task : Task) (run : Run) (given : Given) (ends : Option Status) (begun : Bool) →
    IsTold manner task run (record { given = given; begun = false; ends = ends }) → IsTold manner task run (record { given = given; begun = begun; ends = ends })
told_with manner task run given ends begun told = record {
  fair = told.fair;
  out = told.out;
  log = told.log;
  limits = told.limits;
  accepted = told.accepted;
  spent = told.spent;
  ends = told.ends;
}

-- what a log that was begun keeps, by whether one was begun in the end
pub keeps_begun : (old mid : Option Contents) (named was begun : Bool) → (was ≡ false → named ≡ begun) → IfSome old (λ before. IsFresh before → mid ≡ Some (keeping named before)) →
    IfSome old (λ before. IsFresh before → was ≡ false → mid ≡ Some (keeping begun before))
keeps_begun old mid named was begun same =
    known old (λ before. IsFresh before → mid ≡ Some (keeping named before)) (λ before. IsFresh before → was ≡ false → mid ≡ Some (keeping begun before))
    (λ before there fresh none. there fresh ∙ ap (λ (b : Bool). Some (keeping b before)) (same none))

pub told_search : (promise : Promise) (given : Given) (old mid new : Option Contents) (was begun : Bool) (r : Result Status Stop) →
    IfSome old (λ before. IsFresh before → was ≡ false → mid ≡ Some (keeping begun before)) → new ≡ option_map (adding given) mid →
    IfSome old (λ before. was ≡ false → Comes before.files promise (left given begun) r) →
    IfSome old (λ before. IsFresh before → was ≡ false → IsSomeAnd new (λ after. Leaves promise before after begun r))
told_search promise given None mid new was begun r told moves how = tt
told_search promise given (Some c) mid new was begun r told moves how = λ fresh none.
    subst (λ (n : Option Contents). IsSomeAnd n (λ after. Leaves promise c after begun r)) (sym (moves ∙ ap (option_map (adding given)) (told fresh none)))
    (comes_over promise c given begun r fresh (how none))

search_may : (promise : Promise) (begins : Bool) (names : List Text) (manner : Manner) (task : Task) (x : Moment) (run : Run) (whole : Whole) (r : Result Status Stop) →
    IsForSearch promise begins names manner task x → IsTold manner task run whole → IfOk r (λ status. whole.ends ≡ Some status) → IfOk r (promise.MayEnd)
search_may promise begins names manner task x run whole (Ok status) for told ended = for.may run whole status told ended
search_may promise begins names manner task x run whole (Err stop) for told ended = tt

-- a log was begun where one is named, and a whole was given behind, or a front of it where it stops
pub prints_begun : {X : Type 0} (promise : Promise) (begins : Bool) (names : List Text) (whole : Whole) (x y z : Moment) (b : Result X Stop) (v : X) (r : Result Status Stop) →
    names ≡ log_asked promise statuses.Right → (IsAnswer (outcome r) → names ≡ log_asked promise (outcome r)) →
    IfSome x.told (λ c. Keeps promise c.files whole) → whole.begun ≡ begins → Begins begins names x y b → b ≡ Ok v → Step whole.given y z r →
    IfOk r (λ status. whole.ends ≡ Some status) → IfOk r (promise.MayEnd) → Prints promise begins [] x z r
prints_begun {X = X} promise begins names whole x y z b v r right answers gives same at is step ended may =
    let made : Result X Stop = Ok v in
    let done : Begins begins names x y made = subst (λ b. Begins begins names x y b) is at in
    let moves = step.moves in
    record {
      told = told_search promise step.given x.told y.told z.told x.begun z.begun r
          (keeps_begun x.told y.told begins x.begun z.begun (begun_as begins x.begun y.begun z.begun done.begun moves.begun) done.told) moves.told
          (known x.told (λ before. Keeps promise before.files whole) (λ before. x.begun ≡ false → Comes before.files promise (left step.given z.begun) r)
          (λ before gives none. whole_comes before.files promise whole step.given z.begun r gives (sym (same ∙ begun_as begins x.begun y.begun z.begun done.begun moves.begun none)) step.how ended)
          gives);
      ends = may;
      asks = record {
        opened = [];
        begun = names;
        called = called_on [] names x y z done.called moves.called;
        opened_first = first_none [];
        begun_first = ([], sym right ∙ sym (append-nil names));
        whole = λ is. (refl, answers is);
      };
      calm = λ ok. calm_both x y z (done.calm refl) (moves.calm ok);
      begun = λ none. moves.begun ∙ (done.begun ∙ ap (λ w. w || x.begun) none);
      reads = omega (arith, done.reads, moves.reads);
      writes = omega (arith, done.writes, moves.writes);
      read_fault = λ fault. absurd (moves.no_read_fault fault);
      write_fault = λ fault. rose_later x.writes y.writes z.writes done.writes (moves.write_fault fault);
    }
  where
    begun_as : (named was at begun : Bool) → at ≡ (named || was) → begun ≡ at → was ≡ false → named ≡ begun
    begun_as true was at begun one two none = sym (two ∙ one)
    begun_as false was at begun one two none = sym (two ∙ (one ∙ none))

-- a log was begun where one is named, and a search behind it
pub prints_search : {X : Type 0} (promise : Promise) (begins : Bool) (names : List Text) (manner : Manner) (task : Task) (x y z : Moment) (b : Result X Stop) (v : X) (r : Result Status Stop) →
    IsForSearch promise begins names manner task x → Begins begins names x y b → b ≡ Ok v → Searches manner task nothing y z r → Prints promise begins [] x z r
prints_search promise begins names manner task x y z b v r for at is searched =
    let whole : Whole = record { given = searched.given; begun = begins; ends = searched.ends } in
    let told : IsTold manner task searched.run whole = told_with manner task searched.run searched.given searched.ends begins searched.told in
    prints_begun promise begins names whole x y z b v r (for.names_are statuses.Right) (λ _. for.names_are (outcome r)) (for.gives searched.run whole refl told) refl at is searched.step
    searched.ended (search_may promise begins names manner task x searched.run whole r for told searched.ended)

-- a log that is begun as it is named
pub begins_named : {X : Type 0} (log : Option _) (names : List Text) (x y : Moment) (r : Result X Stop) → Begins (is_some log) names x y r → Begins (is_some (plain_text log)) names x y r
begins_named None names x y r begins = begins
begins_named (Some text) names x y r begins = begins

-- a log that was not begun
pub prints_unbegun : {X : Type 0} (promise : Promise) (named : Bool) (names : List Text) (x y : Moment) (b : Result X Stop) (e : Stop) (r : Result Status Stop) →
    names ≡ log_asked promise statuses.Right → Begins named names x y b → b ≡ Err e → IsErrAnd r (λ d. d ≡ e) → Prints promise named [] x y r
prints_unbegun promise named names x y b e (Ok status) for at is same = absurd same
prints_unbegun {X = X} promise named names x y b e (Err d) for at is same =
    let failed : Result X Stop = Err e in
    let left : Begins named names x y failed = subst (λ b. Begins named names x y b) is at in
    record {
      told = known x.told (λ before. IsFresh before → y.told ≡ Some before)
          (λ before. IsFresh before → x.begun ≡ false → IsSomeAnd y.told (λ after. Leaves promise before after y.begun (Err d)))
          (λ before there fresh none. subst (λ (n : Option Contents). IsSomeAnd n (λ after. Leaves promise before after y.begun (Err d))) (sym (there fresh))
          (leaves_nothing promise before before y.begun d refl fresh (left.begun ∙ none))) left.told;
      ends = tt;
      asks = record {
        opened = [];
        begun = names;
        called = left.called;
        opened_first = first_none [];
        begun_first = ([], sym for ∙ sym (append-nil names));
        whole = λ is. absurd (stop_answers_nothing d is);
      };
      calm = λ ok. absurd (false≢true ok);
      begun = λ _. left.begun;
      reads = left.reads;
      writes = left.writes;
      read_fault = λ is. absurd (not_read d e same left.failed.0 is);
      write_fault = λ is. left.failed.1;
    }
  where
    not_read : (d e : Stop) → d ≡ e → e ≡ stops.WriteFault → IsErrOf {T = Status} (Err d) stops.ReadFault → ⊥
    not_read d e same is read = read_not_write (sym (error_is d stops.ReadFault read) ∙ same ∙ is)

-- where no log is named, nothing is begun
pub begins_none : (x : Moment) → Begins {X = Unit {0}} false [] x x (Ok tt)
begins_none x = record { told = same x.told; begun = refl; failed = tt; called = called_none x; calm = λ _. (refl, refl); reads = omega arith; writes = omega arith }
  where
    same : (o : Option Contents) → IfSome o (λ before. IsFresh before → o ≡ Some before)
    same None = tt
    same (Some c) = λ fresh. refl

-- a search that begins no log
pub prints_made : (promise : Promise) (manner : Manner) (task : Task) (x z : Moment) (r : Result Status Stop) → IsForSearch promise false [] manner task x → Searches manner task nothing x z r →
    Prints promise false [] x z r
prints_made promise manner task x z r for searched = prints_search promise false [] manner task x x z (Ok tt) tt r for (begins_none x) refl searched

-- ---- the end of a run

answers_ended : (files : Files) (promise : Promise) (status : Status) (c : Counts) (l : Left) → IsEndStatus status → Ended files promise status l → Answers files promise status c l
answers_ended files promise statuses.Right c l ends ended = ended
answers_ended files promise statuses.Not c l ends ended = ended
answers_ended files promise statuses.Refused c l ends ended = ended
answers_ended files promise statuses.Spent c l ends ended = ended
answers_ended files promise statuses.Asked c l ends ended = ended
answers_ended files promise statuses.ReadFault c l ends ended = absurd ends
answers_ended files promise statuses.WriteFault c l ends ended = absurd ends
answers_ended files promise statuses.OutOfMemory c l ends ended = absurd ends

over_ended : (promise : Promise) (status : Status) (c : Counts) (before : Contents) (new : Option Contents) (begun : Bool) → IsEndStatus status →
    IsSomeAnd new (λ after. Leaves promise before after begun (Ok status)) → IsSomeAnd new (λ after. Answered before after begun promise status c)
over_ended promise status c before None begun ends over = over
over_ended promise status c before (Some after) begun ends over = record {
  files = over.files;
  log = over.log;
  logged = over.logged;
  answer = answers_ended before.files promise status c (left_in after over.log begun) ends over.how;
}

-- a run that came to its end
pub run_ended : (promise : Promise) (begins : Bool) (opens : List Text) (status : Status) (c : Counts) (x z : Moment) → (promise.MayEnd status → IsEndStatus status) → Prints promise begins opens x z (Ok status) →
    IfSome x.told (λ before. IsFresh before → x.begun ≡ false → IsSomeAnd z.told (λ after. Answered before after z.begun promise status c))
run_ended promise begins opens status c x z ends prints =
    known x.told (λ before. IsFresh before → x.begun ≡ false → IsSomeAnd z.told (λ after. Leaves promise before after z.begun (Ok status)))
    (λ before. IsFresh before → x.begun ≡ false → IsSomeAnd z.told (λ after. Answered before after z.begun promise status c))
    (λ before over fresh none. over_ended promise status c before z.told z.begun
    (ends prints.ends) (over fresh none)) prints.told

-- ---- a run that was cut short

left_behind : (m : Contents) (line log : List ℕ) (begun : Bool) →
    (left_in (adding (given_to outputs.Err line) m) log begun).given ≡ record (left_in m log begun).given { err = m.err ++ line }
left_behind m line log begun = λ i. record { out = append-nil m.out i; err = m.err ++ line; log = log }

cut_short : (stop : Stop) (status : Status) (x y z : Moment) (line : List ℕ) → x.reads ≤ y.reads → x.writes ≤ y.writes → y.reads ≤ z.reads → y.writes ≤ z.writes →
    (stop ≡ stops.ReadFault → Rose x.reads y.reads) → (stop ≡ stops.WriteFault → Rose x.writes y.writes) →
    ((line ≡ stop_line stop) × (status ≡ stop_status stop)) ⊎ (IsPrefix line (stop_line stop) × (status ≡ cut_status stop) × Rose y.writes z.writes) →
    (files : Files) (promise : Promise) (l before : Left) → GaveSoFar files promise before → l.given ≡ record before.given { err = before.given.err ++ line } →
    l.begun ≡ before.begun → Answers files promise status (counts x z) l
cut_short stops.ReadFault status x y z line reads writes later_reads later_writes read_fault write_fault (inl whole) files promise l before gave given begun =
    subst (λ s. Answers files promise s (counts x z) l) (sym whole.1)
    (line, whole.0, record { before = before; gave = gave; given = given; begun = begun })
cut_short stops.ReadFault status x y z line reads writes later_reads later_writes read_fault write_fault (inr cut) files promise l before gave given begun =
    subst (λ s. Answers files promise s (counts x z) l) (sym cut.1) (
      line,
      inr (inr (cut.0, rose_earlier x.reads y.reads z.reads (read_fault refl) later_reads, rose_later x.writes y.writes z.writes writes cut.2)),
      record { before = before; gave = gave; given = given; begun = begun },
    )
cut_short stops.WriteFault status x y z line reads writes later_reads later_writes read_fault write_fault (inl whole) files promise l before gave given begun =
    subst (λ s. Answers files promise s (counts x z) l) (sym whole.1)
    (line, inl whole.0, record { before = before; gave = gave; given = given; begun = begun })
cut_short stops.WriteFault status x y z line reads writes later_reads later_writes read_fault write_fault (inr cut) files promise l before gave given begun =
    subst (λ s. Answers files promise s (counts x z) l) (sym cut.1) (
      line,
      inr (inl (cut.0, rose_twice x.writes y.writes z.writes (write_fault refl) cut.2)),
      record { before = before; gave = gave; given = given; begun = begun },
    )
cut_short stops.OutOfMemory status x y z line reads writes later_reads later_writes read_fault write_fault (inl whole) files promise l before gave given begun =
    subst (λ s. Answers files promise s (counts x z) l) (sym whole.1)
    (line, inl whole.0, record { before = before; gave = gave; given = given; begun = begun })
cut_short stops.OutOfMemory status x y z line reads writes later_reads later_writes read_fault write_fault (inr cut) files promise l before gave given begun =
    subst (λ s. Answers files promise s (counts x z) l) (sym cut.1)
    (line, inr (cut.0, rose_later x.writes y.writes z.writes writes cut.2), record { before = before; gave = gave; given = given; begun = begun })

over_stopped : (promise : Promise) (begins : Bool) (opens : List Text) (stop : Stop) (status : Status) (x y z : Moment) (before : Contents) (mid : Option Contents) → y.told ≡ mid →
    Prints promise begins opens x y (Err stop) → TellsStop stop y z status → IsSomeAnd mid (λ after. Leaves promise before after y.begun (Err stop)) →
    IsSomeAnd z.told (λ after. Answered before after z.begun promise status (counts x z))
over_stopped promise begins opens stop status x y z before None is prints tells over = absurd over
over_stopped promise begins opens stop status x y z before (Some m) is prints tells over =
    let Done : Option Contents → Type 0 = λ n. IsSomeAnd n (λ after. Answered before after z.begun promise status (counts x z)) in
    subst Done (sym (tells.told ∙ ap (option_map (adding (given_to outputs.Err tells.line))) is)) (record {
      files = over.files;
      log = over.log;
      logged = kept-nothing m.keeps m.log ∙ over.logged ∙ ap (λ (b : Bool). kept_behind (keeping b before).keeps [] over.log) (sym tells.begun);
      answer = cut_short stop status x y z tells.line prints.reads prints.writes tells.reads tells.writes
          (λ same. prints.read_fault (ap Err same)) (λ same. prints.write_fault (ap Err same)) tells.how
          before.files promise (left_in (adding (given_to outputs.Err tells.line) m) over.log z.begun) (left_in m over.log y.begun) over.how
          (left_behind m tells.line over.log z.begun) tells.begun;
    })

-- a run that stopped, and told why
pub run_stopped : (promise : Promise) (begins : Bool) (opens : List Text) (stop : Stop) (status : Status) (x y z : Moment) → Prints promise begins opens x y (Err stop) → TellsStop stop y z status →
    IfSome x.told (λ before. IsFresh before → x.begun ≡ false →
    IsSomeAnd z.told (λ after. Answered before after z.begun promise status (counts x z)))
run_stopped promise begins opens stop status x y z prints tells =
    known x.told (λ before. IsFresh before → x.begun ≡ false → IsSomeAnd y.told (λ after. Leaves promise before after y.begun (Err stop)))
    (λ before. IsFresh before → x.begun ≡ false → IsSomeAnd z.told (λ after. Answered before after z.begun promise status (counts x z)))
    (λ before over fresh none. over_stopped promise begins opens stop status x y z before y.told refl prints tells (over fresh none)) prints.told

-- ---- the names of a run

-- the names that a run opened and begun, as it says them
abbrev pub NamesAsked : Promise → Moment → Moment → Status → Type 0
NamesAsked promise x z status =
    (more : List Call) × (z.calls ≡ with_calls more x.calls) × BeginsAsked promise status (names_begun more)
    × IfSome x.told (λ before. OpensAsked before.files promise status (names_opened more)) × AreActs more

run_names : (promise : Promise) (begins : Bool) (x y z : Moment) (r : Result Status Stop) (status : Status) → (asked : PrintsAsked promise begins x y r) →
    Called asked.prints.asks.opened asked.prints.asks.begun x z → (IsAnswer status → status ≡ outcome r) → NamesAsked promise x z status
run_names promise begins x y z r status asked called answers =
    let asks = asked.prints.asks in (
      called.more,
      called.calls,
      record {
        first = subst (λ (names : List Text). AreFirstNames names (log_asked promise statuses.Right)) (sym called.begun_are) asks.begun_first;
        whole = λ is. called.begun_are ∙ (asks.whole (subst IsAnswer (answers is) is)).1 ∙ ap (log_asked promise) (sym (answers is));
      },
      known x.told (λ before. promise.Opens before.files asked.opens)
          (λ before. OpensAsked before.files promise status (names_opened called.more))
          (λ before are. record {
            all = asked.opens;
            asked = are;
            first = subst (λ (names : List Text). AreFirstNames names asked.opens) (sym called.opened_are) asks.opened_first;
            whole = λ is. called.opened_are ∙ (asks.whole (subst IsAnswer (answers is) is)).0;
          }) asked.asked,
      called.acts,
    )

pub names_ended : (promise : Promise) (begins : Bool) (x z : Moment) (status : Status) → PrintsAsked promise begins x z (Ok status) → NamesAsked promise x z status
names_ended promise begins x z status asked = run_names promise begins x z z (Ok status) status asked asked.prints.asks.called (λ _. refl)

pub names_stopped : (promise : Promise) (begins : Bool) (stop : Stop) (x y z : Moment) (status : Status) → PrintsAsked promise begins x y (Err stop) → TellsStop stop y z status →
    NamesAsked promise x z status
names_stopped promise begins stop x y z status asked tells =
    let asks = asked.prints.asks in
    run_names promise begins x y z (Err stop) status asked (called_on asks.opened asks.begun x y z asks.called tells.called)
    (λ is. absurd (told_answers_nothing stop y z status tells is))
