-- What a parse by the command gives is the reading.
use Rattle.std.proofs.Common.{◌≡◌, ◌≢◌, ◌∙◌, ap, sym, refl, Bool, true, false, IfOk, List, [], Option, Result, Some, None, Ok, Err, option_and_then}
use Rattle.clap.specs.Faults.{fault_of, is_simple_and_free}
use Rattle.clap.specs.Simple.{App, is_simple, matches_of}
use Rattle.clap.specs.Takes.{takes}
use Rattle.clap.specs.Walk.{Row, Text}
use Rattle.clap.specs.declared.error.kind.ErrorKind.{ErrorKind}
use Rattle.clap.specs.declared.error.kind.ErrorKind.TheVariants.{OutOfMemory}
use Rattle.cc_words.proofs.Taken.{fault_taken}
use Rattle.cc_words.specs.Readings.{command, given_in, reading}
use Rattle.cc_words.specs.Requests.{asked_of}
use Rattle.cc_words.specs.Views.{plain_asked}
use Rattle.cc_words.specs.declared.asked.Asked.{Asked}

pub is_free : is_simple_and_free command ≡ true
is_free = refl

taken : (words : List Text) → fault_of command words ≡ [] → reading words ≡ Some (given_in (matches_of command words))
taken words none = rw (fault_taken words none) refl

pub reading_found : {Z : Type 0} (app : App) (words : List Text) (rows : List Row) → app ≡ command → (is_simple_and_free app ≡ true → fault_of app words ≡ [])
    → (is_simple app ≡ true → (rows ≡ matches_of app words) × Z) → Some (given_in rows) ≡ reading words
reading_found app words rows is none found =
    ap (λ rows. Some (given_in rows)) ((found (ap is_simple is)).0 ∙ ap (λ app. matches_of app words) is)
    ∙ sym (taken words (sym (ap (λ app. fault_of app words) is) ∙ none (ap is_simple_and_free is ∙ is_free)))

-- an error other than want of memory means that the words are not taken
reading_refused : (app : App) (words : List Text) (kind : ErrorKind) → app ≡ command → kind ≢ OutOfMemory → (takes app words ≡ true → kind ≡ OutOfMemory) → None ≡ reading words
reading_refused app words kind is other passes = go (takes command words) refl
  where
    go : (b : Bool) → takes command words ≡ b → None ≡ reading words
    go true e = absurd (other (passes (ap (λ app. takes app words) is ∙ e)))
    go false e = rw e refl

-- the same of what is told of an error
pub refused_reads : {E : Type 0} (told : Result (Option Asked) E) (app : App) (words : List Text) (kind : ErrorKind) → app ≡ command
    → IfOk told (λ asked. (asked ≡ None) × (kind ≢ OutOfMemory)) → (takes app words ≡ true → kind ≡ OutOfMemory)
    → IfOk told (λ asked. plain_asked asked ≡ option_and_then asked_of (reading words))
refused_reads (Ok asked) app words kind is refused passes =
    ap (λ (asked : Option Asked). plain_asked asked) refused.0 ∙ ap (option_and_then asked_of) (reading_refused app words kind is refused.1 passes)
refused_reads (Err error) app words kind is refused passes = tt
