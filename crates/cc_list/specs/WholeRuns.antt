-- A run from its words to its exit, where the words ask for list mode.
use Rattle.std.specs.Prelude.{◌≡◌, false, List, Option, Some, None, IfSome, IsSomeAnd}
use Rattle.cc_list.specs.Answers.{Answered, counts}
use Rattle.cc_list.specs.Listing.{listing_promise}
use Rattle.cc_list.specs.Names.{BeginsAsked, OpensAsked}
use Rattle.cc_list.specs.Promises.{IsEndStatus, Promise, names_log, refused_words}
use Rattle.cc_list.specs.Tasks.{request_of}
use Rattle.cc_ports.specs.Calls.{AreActs, Call, names_begun, names_opened, with_calls}
use Rattle.cc_ports.specs.Contents.{Rose}
use Rattle.cc_ports.specs.Moments.{Moment}
use Rattle.cc_tell.specs.declared.status.Status.{Status}
use Rattle.cc_tell.specs.declared.status.Status.TheVariants as statuses
use Rattle.cc_tell.specs.declared.status.Stop.TheVariants as stops
use Rattle.cc_tell.specs.Steps.{IsCalm, IsFresh}
use Rattle.cc_tell.specs.StopLines.{TellsStop}
use Rattle.cc_words.specs.Requests.{Request, ToList}
use Rattle.cc_words.specs.Words.{Text}

-- A whole run that keeps a promise: what it leaves on a desk that tells its contents, the names that it opens and begins, that it
-- reads no file but where it opened it, the status with which it comes to its end, and that faults are answered only where the desk
-- counted one.
pub record RunsBy (promise : Promise) (old new : Moment) (status : Status) : Type 0 where
  pub answer : IfSome old.told (λ before. IsFresh before → old.begun ≡ false →
      IsSomeAnd new.told (λ after. Answered before after new.begun promise status (counts old new)))
  pub names : (more : List Call) × (new.calls ≡ with_calls more old.calls) × BeginsAsked promise status (names_begun more)
      × IfSome old.told (λ before. OpensAsked before.files promise status (names_opened more)) × AreActs more
  pub ends : IsEndStatus status → promise.MayEnd status
  pub calm : IsEndStatus status → IsCalm old new
  pub no_log : names_log promise ≡ false → new.begun ≡ old.begun
  pub read_fault : status ≡ statuses.ReadFault → Rose old.reads new.reads
  pub write_fault : status ≡ statuses.WriteFault → Rose old.writes new.writes

-- Words that ask for list mode, or for nothing, are answered. For those that ask for another mode nothing is done; but memory may be
-- wanting before that is known.
abbrev pub AnswersList : Option Request → Moment → Moment → Option Status → Type 0
AnswersList None old new (Some status) = RunsBy refused_words old new status
AnswersList None old new None = ⊥
AnswersList (Some (ToList listing)) old new (Some status) = RunsBy (listing_promise listing) old new status
AnswersList (Some (ToList listing)) old new None = ⊥
AnswersList (Some request) old new (Some status) = TellsStop stops.OutOfMemory old new status
AnswersList (Some request) old new None = new ≡ old

abbrev pub AnswersWords : List Text → Moment → Moment → Option Status → Type 0
AnswersWords words = AnswersList (request_of words)
