-- Places are gone through one after another, whichever they are.
use Rattle.std.proofs.Common.{◌≡◌, ◌∙◌, ℕ, zero, suc, ◌<◌, ◌≤◌, ◌+◌, List, [], ◌∷◌, ◌++◌, length, Some, None, Result, Ok, Err, IfErr, IsErrAnd, refl, sym, ap, subst, inl, inr, append_assoc, append-nil, arith}
use Rattle.std.specs.Option.{option_or}
use Rattle.std.proofs.lemmas.Bool.{lt-ltb}
use Rattle.std.proofs.lemmas.Bool.Decides.{nat_tests}
use Rattle.cc_defs.specs.Limits.{limit_number}
use Rattle.cc_defs.specs.Refusals.{past_at}
use Rattle.cc_defs.specs.declared.refusal.LimitAt.TheVariants as limits
use Rattle.cc_defs.specs.declared.refusal.Fault.{Fault}
use Rattle.cc_defs.specs.declared.refusal.Fault.TheVariants as faults
use Rattle.cc_defs.specs.declared.refusal.Refusal.{Refusal}
use Rattle.cc_defs.specs.Tokens.{TokenView}
use Rattle.cc_defs.specs.Trees.{PlainStatement}
use Rattle.cc_describe.specs.declared.heads.Heads.{Heads}
use Rattle.cc_describe.specs.declared.files.Halt.{Halt}
use Rattle.cc_describe.specs.declared.files.Halt.TheVariants as halts
use Rattle.cc_describe.specs.declared.progress.Progress.{Progress}
use Rattle.cc_describe.specs.Describing.{AreFirstNames}
use Rattle.cc_describe.specs.FirstRefusal.{bytes_in, first_behind, opened_behind, opening_refusal}
use Rattle.cc_describe.specs.Places.{Place, Opened, Barred, Said, opened_in}
use Rattle.cc_describe.specs.ProgressViews.{IsProgress, IsOpened, IsRefusedOpening, IsRefusedStatement, Says, GoesSomewhere, halt_of}
use Rattle.cc_describe.proofs.PlacesAppended.{all_first, first_behind_all, first_of, first_opened, names_behind}

-- ---- one after another

-- places were gone through, and none is refused
abbrev pub Gone : Heads → List Place → Progress → Type 0
Gone which before new = GoesSomewhere which before {T = Unit {0}} (Ok (tt {0})) new

pub then_goes : {which : Heads} (before : List Place) (now new : Progress) (result : Result (Unit {0}) Halt) → Gone which before now →
    ((more : List Place) → IsProgress which now more → GoesSomewhere which more result new) → GoesSomewhere which before result new
then_goes {which} before now new result (places, any, none, kept) goes = step result (goes (before ++ places) kept)
  where
    step : (result : Result (Unit {0}) Halt) → GoesSomewhere which (before ++ places) result new → GoesSomewhere which before result new
    step (Ok done) (behind, any, none_behind, kept_behind) = (
      places ++ behind,
      tt,
      first_behind_all which before places behind ∙ ap (λ one. option_or one (first_behind which (before ++ places) behind)) none ∙ none_behind,
      subst (IsProgress which new) (append_assoc before places behind) kept_behind,
    )
    step (Err (halts.Refused refusal)) (behind, any, some, names) = (
      places ++ behind,
      tt,
      first_behind_all which before places behind ∙ ap (λ one. option_or one (first_behind which (before ++ places) behind)) none ∙ some,
      names ∙ names_behind which before places behind none,
    )
    step (Err halts.ReadFault) (behind, any, first) = (places ++ behind, tt, first_of new.names.items (names_behind which before places behind none) first)
    step (Err halts.OutOfMemory) (behind, any, first) = (places ++ behind, tt, first_of new.names.items (names_behind which before places behind none) first)

-- ---- the steps

pub opened_goes : {which : Heads} (before : List Place) (name bytes : List ℕ) (new : Progress) → IsOpened which before name bytes new → Gone which before new
opened_goes before name bytes new opened = (Opened name bytes ∷ [], tt, ap (λ one. option_or one None) opened.unrefused, opened.opened)

pub opening_goes : (which : Heads) (before : List Place) (name bytes : List ℕ) (halt : Halt) (new : Progress) → IsRefusedOpening before name bytes halt new → GoesSomewhere which before {T = Unit {0}} (Err halt) new
opening_goes which before name bytes halts.ReadFault new first = (Opened name bytes ∷ [], tt, first_opened which new.names.items before name bytes [] first)
opening_goes which before name bytes halts.OutOfMemory new first = (Opened name bytes ∷ [], tt, first_opened which new.names.items before name bytes [] first)
opening_goes which before name bytes (halts.Refused refusal) new (refused, names) = (
  Opened name bytes ∷ [],
  tt,
  ap (λ one. option_or one None) refused,
  names ∙ ap (λ one. opened_in before ++ name ∷ opened_behind one []) (sym refused),
)

-- what is refused whatever stands before it
pub barred_goes : {which : Heads} (before : List Place) (fault : Fault) (halt : Halt) (new : Progress) → halt ≡ halt_of fault → IsProgress which new before → GoesSomewhere which before {T = Unit {0}} (Err halt) new
barred_goes {which} before fault halt new is kept = subst (λ h. GoesSomewhere which before {T = Unit {0}} (Err h) new) (sym is) (step fault)
  where
    step : (fault : Fault) → GoesSomewhere which before {T = Unit {0}} (Err (halt_of fault)) new
    step faults.OutOfMemory = ([], tt, all_first [] kept.names)
    step (faults.Refused refusal) = (Barred refusal ∷ [], tt, refl, kept.names ∙ sym (append-nil (opened_in before)))

pub said_goes : {which : Heads} (before : List Place) (file : ℕ) (around : List (List ℕ)) (statement : PlainStatement) (new : Progress) → Says which before file around statement new → Gone which before new
said_goes before file around statement new says = (Said file around statement ∷ [], tt, ap (λ one. option_or one None) says.unrefused, says.taken)

pub refused_goes : {which : Heads} (before : List Place) (file : ℕ) (around : List (List ℕ)) (tokens : List TokenView) (fault : Fault) (old new : Progress) → IsProgress which old before → new.names ≡ old.names →
    IsRefusedStatement which before file around tokens fault → GoesSomewhere which before {T = Unit {0}} (Err (halt_of fault)) new
refused_goes before file around tokens faults.OutOfMemory old new was names refused = ([], tt, all_first [] (ap (λ l. l.items) names ∙ was.names))
refused_goes before file around tokens (faults.Refused refusal) old new was names (inl refused) =
    (Barred refusal ∷ [], tt, refl, ap (λ l. l.items) names ∙ was.names ∙ sym (append-nil (opened_in before)))
refused_goes before file around tokens (faults.Refused refusal) old new was names (inr (statement, parsed, refused)) = (
  Said file around statement ∷ [],
  tt,
  ap (λ one. option_or one None) refused,
  ap (λ l. l.items) names ∙ was.names ∙ sym (append-nil (opened_in before)) ∙ ap (λ one. opened_in before ++ opened_behind one []) (sym refused),
)

-- ---- a file that is too long

-- there are lists of any length
pub longer_than : (n : ℕ) → (bytes : List ℕ) × (n < length bytes)
longer_than zero = (0 ∷ [], omega arith)
longer_than (suc n) = let more = longer_than n in let within = more.1 in (0 ∷ more.0, omega arith)

long_refused : (before : List Place) (bytes : List ℕ) (file : ℕ) → limit_number limits.FileBytes < length bytes → file ≡ length (opened_in before) →
    opening_refusal before bytes ≡ Some (past_at limits.FileBytes file 1)
long_refused before bytes file long is = rw (lt-ltb (limit_number limits.FileBytes) (length bytes) long) (ap (λ n. Some (past_at limits.FileBytes n 1)) (sym is))

pub long_at : {which : Heads} (before : List Place) (name bytes : List ℕ) (file : ℕ) (refusal : Refusal) (old new : Progress) → IsProgress which old before → file ≡ length old.names.items →
    new.names.items ≡ old.names.items ++ name ∷ [] → refusal ≡ past_at limits.FileBytes file 1 → limit_number limits.FileBytes < length bytes →
    IsRefusedOpening before name bytes (halts.Refused refusal) new
long_at before name bytes file refusal old new was number names is long =
    let told = ap halts.Refused is in
    subst (λ h. IsRefusedOpening before name bytes h new) (sym told)
    (long_refused before bytes file long (number ∙ ap length was.names), names ∙ ap (λ l. l ++ name ∷ []) was.names)

-- some bytes are too long
pub too_long : {which : Heads} (before : List Place) (name : List ℕ) (file : ℕ) (refusal : Refusal) (old new : Progress) → IsProgress which old before → file ≡ length old.names.items →
    new.names.items ≡ old.names.items ++ name ∷ [] → refusal ≡ past_at limits.FileBytes file 1 →
    (bytes : List ℕ) × IsRefusedOpening before name bytes (halts.Refused refusal) new
too_long before name file refusal old new was number names is =
    let bytes = longer_than (limit_number limits.FileBytes) in
    (bytes.0, long_at before name bytes.0 file refusal old new was number names is bytes.1)

-- ---- a file whose name was noted

pub entered_first : {which : Heads} (before : List Place) (name : List ℕ) (old new : Progress) → IsProgress which old before → new.names.items ≡ old.names.items ++ name ∷ []
    → AreFirstNames new.names.items (opened_in before ++ name ∷ [])
entered_first before name old new was names = ([], sym (append-nil new.names.items ∙ names ∙ ap (λ l. l ++ name ∷ []) was.names))

-- none is opened for want of memory
pub unopened : {T : Type 0} {which : Heads} (before : List Place) (name bytes : List ℕ) (old new : Progress) (result : Result T Halt) → IsProgress which old before
    → new.names.items ≡ old.names.items → IsErrAnd result (λ told. told ≡ halts.OutOfMemory) → IfErr result (λ halt. IsRefusedOpening before name bytes halt new)
unopened before name bytes old new (Ok done) was same is = tt
unopened before name bytes old new (Err told) was same is =
    subst (λ halt. IsRefusedOpening before name bytes halt new) (sym is) (name ∷ [], sym (ap (λ l. l ++ name ∷ []) (same ∙ was.names)))

-- all files together are too long
all_refused : (before : List Place) (bytes : List ℕ) → length bytes ≤ limit_number limits.FileBytes → limit_number limits.TotalBytes < bytes_in before + length bytes
    → opening_refusal before bytes ≡ Some (past_at limits.TotalBytes (length (opened_in before)) 1)
all_refused before bytes short many = grind (arith, nat_tests)

pub too_many : {T : Type 0} {which : Heads} (before : List Place) (name bytes : List ℕ) (file count : ℕ) (fault : Fault) (old entered new : Progress) (result : Result T Halt) → IsProgress which old before
    → file ≡ length old.names.items → entered.names.items ≡ old.names.items ++ name ∷ [] → entered ≡ record old { names = entered.names; around = entered.around }
    → count ≡ length bytes → length bytes ≤ limit_number limits.FileBytes → (fault ≡ faults.Refused (past_at limits.TotalBytes file 1)) × (limit_number limits.TotalBytes < entered.bytes + count)
    → new ≡ record entered { bytes = new.bytes } → IsErrAnd result (λ told. told ≡ halt_of fault) → IfErr result (λ halt. IsRefusedOpening before name bytes halt new)
too_many before name bytes file count fault old entered new (Ok done) was number names entering is short refused counting told = tt
too_many before name bytes file count fault old entered new (Err halt) was number names entering is short refused counting told =
    let bytes_were : entered.bytes ≡ bytes_in before = ap (λ (p : Progress). p.bytes) entering ∙ was.bytes in
    let many = subst (λ n. limit_number limits.TotalBytes < n) (ap (λ n. n + count) bytes_were ∙ ap (λ n. bytes_in before + n) is) refused.1 in
    let numbered = ap (λ n. past_at limits.TotalBytes n 1) (number ∙ ap length was.names) in
    subst (λ h. IsRefusedOpening before name bytes h new) (sym (told ∙ ap halt_of (refused.0 ∙ ap faults.Refused numbered)))
    (all_refused before bytes short many, ap (λ p. p.names.items) counting ∙ names ∙ ap (λ l. l ++ name ∷ []) was.names)

pub some_bytes : {T : Type 0} (before : List Place) (name bytes : List ℕ) (new : Progress) (result : Result T Halt) → IfErr result (λ halt. IsRefusedOpening before name bytes halt new)
    → IfErr result (λ halt. (some : List ℕ) × IsRefusedOpening before name some halt new)
some_bytes before name bytes new (Ok done) refused = tt
some_bytes before name bytes new (Err halt) refused = (bytes, refused)
