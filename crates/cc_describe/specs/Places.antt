-- The places of a description in the order in which they are looked at: each file where it is opened, then its statements,
-- with the places of an included file behind its include.
use Rattle.std.specs.Prelude.{◌≡◌, ◌⊎◌, ℕ, zero, suc, ◌+◌, List, [], ◌∷◌, ◌++◌, length, flat_map, Option, Some, None, IsSome, unwrap_or}
use Rattle.std.specs.List.{AllByRecursion}
use Rattle.cc_defs.specs.declared.refusal.LimitAt.TheVariants.{IncludeDepth}
use Rattle.cc_defs.specs.declared.refusal.Refusal.{Refusal}
use Rattle.cc_defs.specs.Limits.{limit_number}
use Rattle.cc_defs.specs.Statements.{IsRefused, IsParsed}
use Rattle.cc_defs.specs.Tokens.{TokenView, IsCut, IsShort, StopsAt, statements}
use Rattle.cc_defs.specs.Trees.{PlainPart, Include, PlainStatement}

-- the files of a desk, by name
abbrev pub Files : Type 0
Files = List ℕ → Option (List ℕ)

-- one that is not there is empty
abbrev pub content : Files → List ℕ → List ℕ
content files name = unwrap_or (files name) []

abbrev pub AreThere : Files → List (List ℕ) → Type 0
AreThere files names = AllByRecursion (λ name. IsSome (files name)) names

pub data Place : Type 0 where
  -- a file is opened
  Opened : (name bytes : List ℕ) → Place
  -- its tokens, or a statement, are refused whatever is declared
  Barred : Refusal → Place
  -- a statement of the file with this number, while the files with these names are being read, its own last
  Said : (file : ℕ) → (around : List (List ℕ)) → PlainStatement → Place

abbrev pub opened_at : Place → List (List ℕ)
opened_at (Opened name bytes) = name ∷ []
opened_at place = []

-- the names of the files that are opened; each file has its place in this list as its number
abbrev pub opened_in : List Place → List (List ℕ)
opened_in places = flat_map opened_at places

abbrev pub included : PlainPart → Option (List ℕ)
included (Include name) = Some name
included part = None

-- In what follows, `Inside number name places` says that a file with this number and name, included here, has these places.

abbrev pub AreBehind : (ℕ → List ℕ → List Place → Type 0) → ℕ → Option (List ℕ) → List Place → Type 0
AreBehind Inside number None places = places ≡ []
AreBehind Inside number (Some name) places = Inside number name places

-- the places of a statement, by its tokens; `number` is that of the next file that is opened
abbrev pub AreOfStatement : (ℕ → List ℕ → List Place → Type 0) → ℕ → List (List ℕ) → ℕ → List TokenView → List Place → Type 0
AreOfStatement Inside file around number tokens places =
    ((refusal : Refusal) × IsRefused file tokens refusal × (places ≡ Barred refusal ∷ []))
    ⊎ ((statement : PlainStatement) × (behind : List Place) × IsParsed tokens statement
    × AreBehind Inside number (included statement.part) behind × (places ≡ Said file around statement ∷ behind))

-- those of all statements of a file, in the order of its text
abbrev pub AreOfStatements : (ℕ → List ℕ → List Place → Type 0) → ℕ → List (List ℕ) → ℕ → List (List TokenView) → List Place → Type 0
AreOfStatements Inside file around number [] places = places ≡ []
AreOfStatements Inside file around number (tokens ∷ more) places =
    (first : List Place) × (rest : List Place) × AreOfStatement Inside file around number tokens first
    × AreOfStatements Inside file around (number + length (opened_in first)) more rest × (places ≡ first ++ rest)

-- those of a text: what stops its reading, or those of its statements
abbrev pub AreOfText : (ℕ → List ℕ → List Place → Type 0) → ℕ → List (List ℕ) → List ℕ → List Place → Type 0
AreOfText Inside file around text places =
    ((tokens : List TokenView) × (refusal : Refusal) × StopsAt file 1 text tokens refusal × (places ≡ Barred refusal ∷ []))
    ⊎ ((tokens : List TokenView) × IsCut 1 text tokens × AllByRecursion IsShort tokens
    × AreOfStatements Inside file around (file + 1) (statements tokens) places)

abbrev pub AreOfFile : (ℕ → List ℕ → List Place → Type 0) → Files → List (List ℕ) → ℕ → List ℕ → List Place → Type 0
AreOfFile Inside files around file name places =
    (behind : List Place) × AreOfText Inside file (around ++ name ∷ []) (content files name) behind
    × (places ≡ Opened name (content files name) ∷ behind)

abbrev pub NoPlaces : ℕ → List ℕ → List Place → Type 0
NoPlaces number name places = places ≡ []

-- The places of a file with this number and name, which is read while the files with the names `around` are being read. An
-- include has the places of the file that it names behind it; only so many deep, since a deeper include is refused itself.
abbrev pub ArePlaces : ℕ → Files → List (List ℕ) → ℕ → List ℕ → List Place → Type 0
ArePlaces zero files around file name places = AreOfFile NoPlaces files around file name places
ArePlaces (suc deep) files around file name places = AreOfFile (ArePlaces deep files (around ++ name ∷ [])) files around file name places

-- the places of the description that begins with this file
abbrev pub AreAllPlaces : Files → List ℕ → List Place → Type 0
AreAllPlaces files name places = ArePlaces (limit_number IncludeDepth) files [] 0 name places

-- a description has one list of places
abbrev pub OneListOfPlaces : Type 0
OneListOfPlaces = (files : Files) (name : List ℕ) (places other : List Place) →
    AreAllPlaces files name places → AreAllPlaces files name other → places ≡ other

-- and it has one
abbrev pub HasPlaces : Type 0
HasPlaces = (files : Files) (name : List ℕ) → (places : List Place) × AreAllPlaces files name places
