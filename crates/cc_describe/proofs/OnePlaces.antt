-- A file has one list of places.
use Rattle.std.proofs.Common.{◌≡◌, ℕ, zero, suc, ◌+◌, List, [], ◌∷◌, ◌++◌, length, Option, Some, None, if◌then◌else◌, sym, ap, subst, ◌∙◌, inl, inr}
use Rattle.cc_defs.specs.declared.refusal.Refusal.{Refusal}
use Rattle.cc_defs.specs.Grammar.{terminals}
use Rattle.cc_defs.specs.Statements.{is_too_long, token_limit, refusal_at, IsRefused, IsParsed}
use Rattle.cc_defs.specs.Tokens.{TokenView, statements}
use Rattle.cc_defs.specs.Trees.{PlainStatement}
use Rattle.cc_text.specs.Laws.{OneCut, OneStop, CutsOrStops}
use Rattle.cc_syntax.specs.Parsing.{OneTree}
use Rattle.cc_describe.specs.Places.{Files, content, Place, Opened, Barred, Said, opened_in, included, AreBehind, AreOfStatement, AreOfStatements, AreOfText, AreOfFile, NoPlaces, ArePlaces}

-- whatever is included has one list of places at most
abbrev pub HasOne : (ℕ → List ℕ → List Place → Type 0) → Type 0
HasOne Inside = (number : ℕ) (name : List ℕ) (places other : List Place) → Inside number name places → Inside number name other → places ≡ other

-- the one refusal of a statement that is refused
abbrev refused_as : ℕ → List TokenView → Refusal
refused_as file tokens =
    if is_too_long (terminals tokens) then refusal_at 14 file (Some (token_limit (terminals tokens))) tokens
    else refusal_at 3 file None tokens

refused_is : (file : ℕ) (tokens : List TokenView) (refusal : Refusal) → IsRefused file tokens refusal → refusal ≡ refused_as file tokens
refused_is file tokens refusal refused =
    elim refused [
      | inl long ↦ rw long.0 long.1
      | inr no_tree ↦ rw no_tree.0 no_tree.2
    ]

refused_or_parsed : (file : ℕ) (tokens : List TokenView) (refusal : Refusal) (tree : PlainStatement) → IsRefused file tokens refusal → IsParsed tokens tree → ⊥
refused_or_parsed file tokens refusal tree refused parsed =
    let short = parsed.short in
    elim refused [
      | inl long ↦ let e = long.0 in cc
      | inr no_tree ↦ no_tree.1 tree parsed.spelled
    ]

one_behind : (Inside : ℕ → List ℕ → List Place → Type 0) → HasOne Inside → (number : ℕ) (name : Option (List ℕ)) (places other : List Place) →
    AreBehind Inside number name places → AreBehind Inside number name other → places ≡ other
one_behind Inside one number None places other are others = are ∙ sym others
one_behind Inside one number (Some name) places other are others = one number name places other are others

one_of_statement : OneTree → (Inside : ℕ → List ℕ → List Place → Type 0) → HasOne Inside →
    (file : ℕ) (around : List (List ℕ)) (number : ℕ) (tokens : List TokenView) (places other : List Place) →
    AreOfStatement Inside file around number tokens places → AreOfStatement Inside file around number tokens other → places ≡ other
one_of_statement tree Inside one file around number tokens places other (inl a) (inl b) =
    a.2 ∙ ap (λ r. Barred r ∷ []) (refused_is file tokens a.0 a.1 ∙ sym (refused_is file tokens b.0 b.1)) ∙ sym b.2
one_of_statement tree Inside one file around number tokens places other (inl a) (inr b) = absurd (refused_or_parsed file tokens a.0 b.0 a.1 b.2)
one_of_statement tree Inside one file around number tokens places other (inr a) (inl b) = absurd (refused_or_parsed file tokens b.0 a.0 b.1 a.2)
one_of_statement tree Inside one file around number tokens places other (inr a) (inr b) =
    let same : a.0 ≡ b.0 = tree tokens a.0 b.0 a.2.spelled b.2.spelled in
    let behind : a.1 ≡ b.1 =
    one_behind Inside one number (included b.0.part) a.1 b.1 (subst (λ (s : PlainStatement). AreBehind Inside number (included s.part) a.1) same a.3) b.3 in
    a.4 ∙ ap (λ (s : PlainStatement). Said file around s ∷ a.1) same ∙ ap (λ (l : List Place). Said file around b.0 ∷ l) behind ∙ sym b.4

one_of_statements : OneTree → (Inside : ℕ → List ℕ → List Place → Type 0) → HasOne Inside →
    (file : ℕ) (around : List (List ℕ)) (number : ℕ) (all : List (List TokenView)) (places other : List Place) →
    AreOfStatements Inside file around number all places → AreOfStatements Inside file around number all other → places ≡ other
one_of_statements tree Inside one file around number [] places other a b = a ∙ sym b
one_of_statements tree Inside one file around number (tokens ∷ more) places other a b =
    let first : a.0 ≡ b.0 = one_of_statement tree Inside one file around number tokens a.0 b.0 a.2 b.2 in
    let rest : a.1 ≡ b.1 =
    one_of_statements tree Inside one file around (number + length (opened_in b.0)) more a.1 b.1
    (subst (λ (l : List Place). AreOfStatements Inside file around (number + length (opened_in l)) more a.1) first a.3) b.3 in
    a.4 ∙ ap (λ (l : List Place). l ++ a.1) first ∙ ap (λ (l : List Place). b.0 ++ l) rest ∙ sym b.4

one_of_text : OneCut → OneStop → CutsOrStops → OneTree → (Inside : ℕ → List ℕ → List Place → Type 0) → HasOne Inside →
    (file : ℕ) (around : List (List ℕ)) (text : List ℕ) (places other : List Place) →
    AreOfText Inside file around text places → AreOfText Inside file around text other → places ≡ other
one_of_text cut stop apart tree Inside one file around text places other (inl a) (inl b) =
    a.3 ∙ ap (λ r. Barred r ∷ []) (stop file 1 text a.0 b.0 a.1 b.1 a.2 b.2).1 ∙ sym b.3
one_of_text cut stop apart tree Inside one file around text places other (inl a) (inr b) = absurd (apart file 1 text b.0 a.0 a.1 b.1 b.2 a.2)
one_of_text cut stop apart tree Inside one file around text places other (inr a) (inl b) = absurd (apart file 1 text a.0 b.0 b.1 a.1 a.2 b.2)
one_of_text cut stop apart tree Inside one file around text places other (inr a) (inr b) =
    one_of_statements tree Inside one file around (file + 1) (statements b.0) places other
    (subst (λ (l : List TokenView). AreOfStatements Inside file around (file + 1) (statements l) places) (cut 1 text a.0 b.0 a.1 b.1) a.3) b.3

one_of_file : OneCut → OneStop → CutsOrStops → OneTree → (Inside : ℕ → List ℕ → List Place → Type 0) → HasOne Inside →
    (files : Files) (around : List (List ℕ)) (file : ℕ) (name : List ℕ) (places other : List Place) →
    AreOfFile Inside files around file name places → AreOfFile Inside files around file name other → places ≡ other
one_of_file cut stop apart tree Inside one files around file name places other a b =
    a.2 ∙ ap (λ (l : List Place). Opened name (content files name) ∷ l)
    (one_of_text cut stop apart tree Inside one file (around ++ name ∷ []) (content files name) a.0 b.0 a.1 b.1) ∙ sym b.2

pub one_places : OneCut → OneStop → CutsOrStops → OneTree →
    (deep : ℕ) (files : Files) (around : List (List ℕ)) (file : ℕ) (name : List ℕ) (places other : List Place) →
    ArePlaces deep files around file name places → ArePlaces deep files around file name other → places ≡ other
one_places cut stop apart tree zero files around file name places other a b =
    one_of_file cut stop apart tree NoPlaces (λ number inner some others p q. p ∙ sym q) files around file name places other a b
one_places cut stop apart tree (suc deep) files around file name places other a b =
    one_of_file cut stop apart tree (ArePlaces deep files (around ++ name ∷ []))
    (λ number inner some others p q. one_places cut stop apart tree deep files (around ++ name ∷ []) number inner some others p q)
    files around file name places other a b
