-- What each call adds to the record of the calls of a desk.
use Rattle.std.proofs.Common.{◌≡◌, ℕ, ◌+◌, ◌≤◌, List, [], ◌∷◌, ◌++◌, map, length, Option, Some, None, refl, sym, ap, ◌∙◌, append_assoc, append-nil, arith}
use Rattle.std.specs.List.{AllByRecursion}
use Rattle.std.proofs.lemmas.List.{map-append, length-append}
use Rattle.cc_ports.specs.Calls.{Call, Opens, Reads, Gives, with_call, with_calls, AreGivings, AreReadings}
use Rattle.cc_ports.specs.declared.desk.To.{To}

no_call : (old : Option (List Call)) → old ≡ with_calls [] old
no_call None = refl
no_call (Some calls) = ap Some (sym (append-nil calls))

one_call : (call : Call) (old new : Option (List Call)) → new ≡ with_call call old → new ≡ with_calls (call ∷ []) old
one_call call None new e = e
one_call call (Some calls) new e = e

one_more : (more : List Call) (call : Call) (old now new : Option (List Call)) → now ≡ with_calls more old → new ≡ with_call call now
    → new ≡ with_calls (more ++ call ∷ []) old
one_more more call None now new s e = e ∙ ap (with_call call) s
one_more more call (Some calls) now new s e = e ∙ ap (with_call call) s ∙ ap Some (append_assoc calls more (call ∷ []))

-- ---- giving

abbrev pub HaveGiven : To → Option (List Call) → Option (List Call) → Type 0
HaveGiven to old now = (more : List Call) × AreGivings to more × (now ≡ with_calls more old)

pub nothing_given : (to : To) (old : Option (List Call)) → HaveGiven to old old
nothing_given to old = ([], record { parts = []; calls_are = refl }, no_call old)

pub given_more : (to : To) (bytes : List ℕ) (old now new : Option (List Call)) → HaveGiven to old now → new ≡ with_call (Gives to bytes) now → HaveGiven to old new
given_more to bytes old now new (more, are, s) e = (
  more ++ Gives to bytes ∷ [],
  record {
    parts = are.parts ++ bytes ∷ [];
    calls_are = ap (λ l. l ++ Gives to bytes ∷ []) are.calls_are ∙ sym (map-append (Gives to) are.parts (bytes ∷ []));
  },
  one_more more (Gives to bytes) old now new s e,
)

-- ---- reading

-- a file was opened, and read in so many turns at most
pub record HaveRead (name : List ℕ) (turns : ℕ) (old now : Option (List Call)) : Type 0 where
  pub rooms : List ℕ
  pub small : AllByRecursion (λ room. room ≤ 4096) rooms
  pub within : length rooms ≤ turns
  pub calls : now ≡ with_calls (Opens name ∷ map Reads rooms) old

small_too : (rooms : List ℕ) (room : ℕ) → room ≤ 4096 → AllByRecursion (λ room. room ≤ 4096) rooms → AllByRecursion (λ room. room ≤ 4096) (rooms ++ room ∷ [])
small_too [] room small are = (small, tt)
small_too (first ∷ rooms) room small are = (are.0, small_too rooms room small are.1)

pub only_opened : (name : List ℕ) (turns : ℕ) (old now : Option (List Call)) → now ≡ with_call (Opens name) old → HaveRead name turns old now
only_opened name turns old now e = record { rooms = []; small = tt; within = omega arith; calls = one_call (Opens name) old now e }

pub read_more : (name : List ℕ) (turns room : ℕ) (old now new : Option (List Call)) → room ≤ 4096 → HaveRead name turns old now → new ≡ with_call (Reads room) now
    → HaveRead name (turns + 1) old new
read_more name turns room old now new small read e = record {
  rooms = read.rooms ++ room ∷ [];
  small = small_too read.rooms room small read.small;
  within = let long = length-append read.rooms (room ∷ []) in omega (arith, read.within);
  calls = one_more (Opens name ∷ map Reads read.rooms) (Reads room) old now new read.calls e
      ∙ ap (λ l. with_calls (Opens name ∷ l) old) (sym (map-append Reads read.rooms (room ∷ [])));
}

pub read_longer : (name : List ℕ) (turns more : ℕ) (old now : Option (List Call)) → turns ≤ more → HaveRead name turns old now → HaveRead name more old now
read_longer name turns more old now within read = record { rooms = read.rooms; small = read.small; within = omega (arith, read.within); calls = read.calls }

are_readings : (name : List ℕ) (turns most : ℕ) (old now : Option (List Call)) → turns ≤ most + 1 → HaveRead name turns old now
    → (more : List Call) × AreReadings name most more × (now ≡ with_calls more old)
are_readings name turns most old now within read = (
  Opens name ∷ map Reads read.rooms,
  record { rooms = read.rooms; calls_are = refl; small = read.small; turns = omega (arith, read.within) },
  read.calls,
)

pub readings_of_none : (name : List ℕ) (most : ℕ) (old now : Option (List Call)) → now ≡ with_call (Opens name) old
    → (more : List Call) × AreReadings name most more × (now ≡ with_calls more old)
readings_of_none name most old now e = are_readings name 0 most old now (omega arith) (only_opened name 0 old now e)

-- the last turn
pub readings_with : (name : List ℕ) (turns most room : ℕ) (old now new : Option (List Call)) → turns ≤ most → room ≡ 4096
    → HaveRead name turns old now → new ≡ with_call (Reads room) now
    → (more : List Call) × AreReadings name most more × (new ≡ with_calls more old)
readings_with name turns most room old now new within is read e =
    are_readings name (turns + 1) most old new (omega arith) (read_more name turns room old now new (omega arith) read e)
