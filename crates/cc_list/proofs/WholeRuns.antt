-- A whole run, from its steps.
use Rattle.std.proofs.Common.{◌≡◌, ◌∙◌, refl, sym, ap, subst, ℕ, ◌≤◌, List, [], Option, Some, None, IfSome, Result, Ok, Err, inl, inr}
use Rattle.std.specs.Prelude.{◌⊎◌}
use Rattle.cc_describe.specs.Places.{HasPlaces}
use Rattle.cc_list.specs.Answers.{counts}
use Rattle.cc_list.specs.Listing.{listing_promise}
use Rattle.cc_list.specs.Promises.{IsEndStatus, Promise, names_log, refused_words}
use Rattle.cc_list.specs.Stops.{PrintsAsked}
use Rattle.cc_list.specs.WholeRuns.{AnswersList, RunsBy}
use Rattle.cc_ports.specs.Contents.{Contents, Rose}
use Rattle.cc_ports.specs.Moments.{Moment}
use Rattle.cc_tell.specs.declared.status.Status.{Status}
use Rattle.cc_tell.specs.declared.status.Status.TheVariants as statuses
use Rattle.cc_tell.specs.declared.status.Stop.{Stop}
use Rattle.cc_tell.specs.declared.status.Stop.TheVariants as stops
use Rattle.cc_tell.specs.StopLines.{TellsStop, cut_status, stop_status}
use Rattle.cc_words.specs.Requests.{Listing, Request, ToBeSure, ToCheck, ToCheckForever, ToCheckGeneral, ToCheckModels, ToCheckSure, ToConvert, ToSayWhy, ToExport, ToList, ToListGenerally, ToMake, ToModel, ToProve}
use Rattle.cc_words.specs.Words.{Text}
use Rattle.cc_list.proofs.Callings.{told_ends_nothing}
use Rattle.cc_list.proofs.Outcomes.{asked_lacking, names_ended, names_stopped, rose_earlier, rose_later, run_ended, run_stopped}

pub runs_ended : (promise : Promise) (x z : Moment) (r : Result Status Stop) (status : Status) → r ≡ Ok status → ((s : Status) → promise.MayEnd s → IsEndStatus s) →
    PrintsAsked promise (names_log promise) x z r → RunsBy promise x z status
runs_ended promise x z r status is ends prints =
    let asked = subst (λ (r : Result Status Stop). PrintsAsked promise (names_log promise) x z r) is prints in
    record {
      answer = run_ended promise _ _ status (counts x z) x z (ends status) asked.prints;
      names = names_ended promise _ x z status asked;
      ends = λ _. asked.prints.ends;
      calm = λ _. asked.prints.calm refl;
      no_log = asked.prints.begun;
      read_fault = λ fault. absurd (subst IsEndStatus fault (ends status asked.prints.ends));
      write_fault = λ fault. absurd (subst IsEndStatus fault (ends status asked.prints.ends));
    }

read_stop : (stop : Stop) (status : Status) {A B C : Type 0} → status ≡ statuses.ReadFault → (A × (status ≡ stop_status stop)) ⊎ (B × (status ≡ cut_status stop) × C) → stop ≡ stops.ReadFault
read_stop stops.ReadFault status fault how = refl
read_stop stops.WriteFault status fault (inl whole) = absurd cc
read_stop stops.WriteFault status fault (inr cut) = absurd cc
read_stop stops.OutOfMemory status fault (inl whole) = absurd cc
read_stop stops.OutOfMemory status fault (inr cut) = absurd cc

write_stop : (stop : Stop) (status : Status) (x y z : ℕ) {A B : Type 0} → x ≤ y → y ≤ z → (stop ≡ stops.WriteFault → Rose x y) → status ≡ statuses.WriteFault →
    (A × (status ≡ stop_status stop)) ⊎ (B × (status ≡ cut_status stop) × Rose y z) → Rose x z
write_stop stops.ReadFault status x y z first then rose fault (inl whole) = absurd cc
write_stop stops.ReadFault status x y z first then rose fault (inr cut) = rose_later x y z first cut.2
write_stop stops.WriteFault status x y z first then rose fault how = rose_earlier x y z (rose refl) then
write_stop stops.OutOfMemory status x y z first then rose fault (inl whole) = absurd cc
write_stop stops.OutOfMemory status x y z first then rose fault (inr cut) = absurd cc

pub runs_stopped : (promise : Promise) (x y z : Moment) (r : Result Status Stop) (stop : Stop) (status : Status) → r ≡ Err stop → PrintsAsked promise (names_log promise) x y r →
    TellsStop stop y z status → RunsBy promise x z status
runs_stopped promise x y z r stop status is prints tells =
    let asked = subst (λ (r : Result Status Stop). PrintsAsked promise (names_log promise) x y r) is prints in
    record {
      answer = run_stopped promise _ _ stop status x y z asked.prints tells;
      names = names_stopped promise _ stop x y z status asked tells;
      ends = λ end. absurd (told_ends_nothing stop y z status tells end);
      calm = λ end. absurd (told_ends_nothing stop y z status tells end);
      no_log = λ none. tells.begun ∙ asked.prints.begun none;
      read_fault = λ fault. rose_earlier x.reads y.reads z.reads (asked.prints.read_fault (ap Err (read_stop stop status fault tells.how))) tells.reads;
      write_fault = λ fault. write_stop stop status x.writes y.writes z.writes asked.prints.writes tells.writes (λ same. asked.prints.write_fault (ap Err same)) fault tells.how;
    }

-- ---- what the words ask for

-- list mode may end with any status of an end
pub list_may : (status : Status) → IsEndStatus status → IsEndStatus status
list_may status is = is

pub refused_may : (status : Status) → status ≡ statuses.Refused → IsEndStatus status
refused_may status is = subst IsEndStatus (sym is) tt

-- the same for words that are spelled otherwise
pub answers_as : (a b : Option Request) (x z : Moment) (r : Option Status) → a ≡ b → AnswersList a x z r → AnswersList b x z r
answers_as a b x z r same answers = subst (λ (request : Option Request). AnswersList request x z r) same answers

abbrev none : Option Status
none = None

-- of another mode nothing is done
pub answers_other : (request : Request) (x : Moment) → ((listing : Listing) → request ≡ ToList listing → ⊥) → AnswersList (Some request) x x none
answers_other (ToList listing) x other = absurd (other listing refl)
answers_other (ToCheck checking) x other = refl
answers_other (ToMake size budget) x other = refl
answers_other (ToSayWhy saying) x other = refl
answers_other (ToConvert converting) x other = refl
answers_other (ToExport exporting) x other = refl
answers_other (ToModel modelling) x other = refl
answers_other (ToCheckModels checking) x other = refl
answers_other (ToBeSure surely) x other = refl
answers_other (ToCheckSure checking) x other = refl
answers_other (ToListGenerally generally) x other = refl
answers_other (ToCheckGeneral checking) x other = refl
answers_other (ToProve proving) x other = refl
answers_other (ToCheckForever checking) x other = refl

-- memory was wanting before it was known what the words ask for
pub lacking : (promise : Promise) (x z : Moment) (status : Status) → ((o : Option Contents) → (all : List Text) × IfSome o (λ c. promise.Opens c.files all)) →
    TellsStop stops.OutOfMemory x z status → RunsBy promise x z status
lacking promise x z status opens tells = runs_stopped promise x x z (Err stops.OutOfMemory) stops.OutOfMemory status refl (asked_lacking promise _ x (Err stops.OutOfMemory) opens refl) tells

pub some_listed : HasPlaces → (listing : Listing) (o : Option Contents) → (all : List Text) × IfSome o (λ c. (listing_promise listing).Opens c.files all)
some_listed has listing None = ([], tt)
some_listed has listing (Some c) =
    let there = has c.files listing.file in
    (_, (there.0, there.1, refl))

some_refused : (o : Option Contents) → (all : List Text) × IfSome o (λ c. refused_words.Opens c.files all)
some_refused None = ([], tt)
some_refused (Some c) = ([], refl)

pub answers_lacking : HasPlaces → (request : Option Request) (x z : Moment) (status : Status) → TellsStop stops.OutOfMemory x z status → AnswersList request x z (Some status)
answers_lacking has None x z status tells = lacking refused_words x z status some_refused tells
answers_lacking has (Some (ToList listing)) x z status tells = lacking (listing_promise listing) x z status (some_listed has listing) tells
answers_lacking has (Some (ToCheck checking)) x z status tells = tells
answers_lacking has (Some (ToMake size budget)) x z status tells = tells
answers_lacking has (Some (ToSayWhy saying)) x z status tells = tells
answers_lacking has (Some (ToConvert converting)) x z status tells = tells
answers_lacking has (Some (ToExport exporting)) x z status tells = tells
answers_lacking has (Some (ToModel modelling)) x z status tells = tells
answers_lacking has (Some (ToCheckModels checking)) x z status tells = tells
answers_lacking has (Some (ToBeSure surely)) x z status tells = tells
answers_lacking has (Some (ToCheckSure checking)) x z status tells = tells
answers_lacking has (Some (ToListGenerally generally)) x z status tells = tells
answers_lacking has (Some (ToCheckGeneral checking)) x z status tells = tells
answers_lacking has (Some (ToProve proving)) x z status tells = tells
answers_lacking has (Some (ToCheckForever checking)) x z status tells = tells
