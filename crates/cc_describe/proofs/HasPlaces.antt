-- Each file has places, whatever is in it.
use Rattle.std.proofs.Common.{ℕ, zero, suc, ◌+◌, List, [], ◌∷◌, ◌++◌, length, Option, Some, None, refl, inl, inr}
use Rattle.std.specs.List.{AllByRecursion}
use Rattle.cc_defs.specs.Tokens.{TokenView, AreTokens, statements}
use Rattle.cc_text.specs.Laws.{CutOrStop, StatementsAreTokens}
use Rattle.cc_syntax.specs.Parsing.{TreeOrRefusal}
use Rattle.cc_syntax.proofs.Readable.{readable}
use Rattle.cc_describe.specs.Places.{Files, content, Place, Opened, Barred, Said, opened_in, included, AreBehind, AreOfStatement, AreOfStatements, AreOfText, AreOfFile, NoPlaces, ArePlaces}

-- whatever is included has places
abbrev pub Has : (ℕ → List ℕ → List Place → Type 0) → Type 0
Has Inside = (number : ℕ) (name : List ℕ) → (places : List Place) × Inside number name places

pub behind_exists : (Inside : ℕ → List ℕ → List Place → Type 0) → Has Inside → (number : ℕ) (name : Option (List ℕ)) →
    (places : List Place) × AreBehind Inside number name places
behind_exists Inside has number None = ([], refl)
behind_exists Inside has number (Some name) = has number name

pub statement_places_exist : TreeOrRefusal → (Inside : ℕ → List ℕ → List Place → Type 0) → Has Inside →
    (file : ℕ) (around : List (List ℕ)) (number : ℕ) (tokens : List TokenView) → AreTokens tokens →
    (places : List Place) × AreOfStatement Inside file around number tokens places
statement_places_exist read Inside has file around number tokens are =
    elim (read file tokens (readable tokens are)) [
      | inl tree ↦
          let behind = behind_exists Inside has number (included tree.0.part) in
          (Said file around tree.0 ∷ behind.0, inr (tree.0, behind.0, tree.1, behind.1, refl))
      | inr refused ↦ (Barred refused.0 ∷ [], inl (refused.0, refused.1, refl))
    ]

pub statements_exist : TreeOrRefusal → (Inside : ℕ → List ℕ → List Place → Type 0) → Has Inside →
    (file : ℕ) (around : List (List ℕ)) (number : ℕ) (all : List (List TokenView)) → AllByRecursion AreTokens all →
    (places : List Place) × AreOfStatements Inside file around number all places
statements_exist read Inside has file around number [] are = ([], refl)
statements_exist read Inside has file around number (tokens ∷ more) are =
    let first = statement_places_exist read Inside has file around number tokens are.0 in
    let rest = statements_exist read Inside has file around (number + length (opened_in first.0)) more are.1 in
    (first.0 ++ rest.0, (first.0, rest.0, first.1, rest.1, refl))

pub text_places_exist : CutOrStop → StatementsAreTokens → TreeOrRefusal → (Inside : ℕ → List ℕ → List Place → Type 0) → Has Inside →
    (file : ℕ) (around : List (List ℕ)) (text : List ℕ) → (places : List Place) × AreOfText Inside file around text places
text_places_exist cut are read Inside has file around text =
    elim (cut file 1 text) [
      | inl tokens ↦
          let all = statements_exist read Inside has file around (file + 1) (statements tokens.0) (are 1 text tokens.0 tokens.1 tokens.2) in
          (all.0, inr (tokens.0, tokens.1, tokens.2, all.1))
      | inr stop ↦ (Barred stop.1 ∷ [], inl (stop.0, stop.1, stop.2, refl))
    ]

file_places_exist : CutOrStop → StatementsAreTokens → TreeOrRefusal → (Inside : ℕ → List ℕ → List Place → Type 0) → Has Inside →
    (files : Files) (around : List (List ℕ)) (file : ℕ) (name : List ℕ) → (places : List Place) × AreOfFile Inside files around file name places
file_places_exist cut are read Inside has files around file name =
    let behind = text_places_exist cut are read Inside has file (around ++ name ∷ []) (content files name) in
    (Opened name (content files name) ∷ behind.0, (behind.0, behind.1, refl))

pub places_exist : CutOrStop → StatementsAreTokens → TreeOrRefusal →
    (deep : ℕ) (files : Files) (around : List (List ℕ)) (file : ℕ) (name : List ℕ) → (places : List Place) × ArePlaces deep files around file name places
places_exist cut are read zero files around file name =
    file_places_exist cut are read NoPlaces (λ number inner. ([], refl)) files around file name
places_exist cut are read (suc deep) files around file name =
    file_places_exist cut are read (ArePlaces deep files (around ++ name ∷ []))
    (λ number inner. places_exist cut are read deep files (around ++ name ∷ []) number inner) files around file name
