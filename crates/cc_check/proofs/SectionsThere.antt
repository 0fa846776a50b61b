-- Whether a text is a heading can be told, and so all texts behind a heading have sections.
use Rattle.std.proofs.Common.{◌≡◌, ℕ, zero, suc, ◌+◌, ◌<◌, ◌⊎◌, inl, inr, Bool, true, false, eqb, List, [], ◌∷◌, ◌++◌, length, refl, sym, ap, subst, ◌∙◌, arith}
use Rattle.std.specs.Cmp.Lexicographic.{pointwise}
use Rattle.std.specs.List.{AllByRecursion}
use Rattle.std.proofs.lemmas.Bool.{cases_Bool, cases_lt, false≢true}
use Rattle.std.proofs.lemmas.Bool.Decides.{Decides-eqb}
use Rattle.std.proofs.lemmas.Slice.Eq.{slice_eq-Decides}
use Rattle.cc_defs.specs.declared.log.LogLine.TheVariants as lines
use Rattle.cc_defs.specs.declared.log.Version.{Version}
use Rattle.cc_defs.specs.declared.log.Version.TheVariants.{First, Second}
use Rattle.cc_defs.specs.LogBytes.{IsSpelled, entry_bytes}
use Rattle.cc_defs.specs.LogTexts.{line_text}
use Rattle.cc_defs.specs.Logs.{SectionText, AreSections, IsNoHeading}

-- ---- headings

told_same : (xs ys : List ℕ) → (xs ≡ ys) ⊎ (xs ≡ ys → ⊥)
told_same xs ys =
    let told = slice_eq-Decides Decides-eqb xs ys _ refl in
    elim (cases_Bool (pointwise eqb xs ys)) [
      | inl yes_is ↦ inl (told.0 yes_is)
      | inr no_is ↦ inr (λ is. false≢true (sym no_is ∙ told.1 is))
    ]

told_below : (P : ℕ → Type 0) → ((n : ℕ) → P n ⊎ (P n → ⊥)) → (bound : ℕ) → ((n : ℕ) × P n) ⊎ ((n : ℕ) → n < bound → P n → ⊥)
told_below P told zero = inr (λ n low is. absurd (omega arith))
told_below P told (suc bound) = elim (told bound) [
  | inl is ↦ inl (bound, is)
  | inr no_last ↦ elim (told_below P told bound) [
    | inl found ↦ inl found
    | inr none ↦ inr (λ n low is. elim (cases_lt n bound) [
      | inl lower ↦ none n lower is
      | inr high ↦ let same : n ≡ bound = omega arith in no_last (subst P same is)
    ])
  ]
]

module _ (text : List ℕ) (conditions : Bool) where
  told_heading : (version : Version) (horizon : ℕ) →
      IsSpelled version text (lines.Section conditions horizon) ⊎ (IsSpelled version text (lines.Section conditions horizon) → ⊥)
  told_heading First horizon = elim (cases_lt horizon 1000000000) [
    | inl low ↦ elim (told_same text (line_text (lines.Section conditions horizon))) [
      | inl is ↦ inl (record { formed = omega arith; spelled = is })
      | inr other ↦ inr (λ read. other read.spelled)
    ]
    | inr high ↦ inr (λ read. let formed = read.formed in omega arith)
  ]
  told_heading Second horizon = elim (cases_lt horizon 2000000000) [
    | inl low ↦ elim (told_same text (entry_bytes (lines.Section conditions horizon))) [
      | inl is ↦ inl (record { formed = omega arith; spelled = is })
      | inr other ↦ inr (λ read. other read.spelled)
    ]
    | inr high ↦ inr (λ read. let formed = read.formed in omega arith)
  ]

  low_heading : (version : Version) (horizon : ℕ) → IsSpelled version text (lines.Section conditions horizon) → horizon < 2000000000
  low_heading First horizon read = let formed = read.formed in omega arith
  low_heading Second horizon read = let formed = read.formed in omega arith

  heading_of_kind : (version : Version) →
      ((horizon : ℕ) × IsSpelled version text (lines.Section conditions horizon)) ⊎ ((horizon : ℕ) → IsSpelled version text (lines.Section conditions horizon) → ⊥)
  heading_of_kind version = elim (told_below (λ horizon. IsSpelled version text (lines.Section conditions horizon)) (told_heading version) 2000000000) [
    | inl found ↦ inl found
    | inr none ↦ inr (λ horizon is. none horizon (low_heading version horizon is) is)
  ]

abbrev HeadingThere : Version → List ℕ → Type 0
HeadingThere version text = ((conditions : Bool) × (horizon : ℕ) × IsSpelled version text (lines.Section conditions horizon)) ⊎ IsNoHeading version text

neither : (version : Version) (text : List ℕ) → ((horizon : ℕ) → IsSpelled version text (lines.Section true horizon) → ⊥) →
    ((horizon : ℕ) → IsSpelled version text (lines.Section false horizon) → ⊥) → IsNoHeading version text
neither version text with_conditions without true horizon is = with_conditions horizon is
neither version text with_conditions without false horizon is = without horizon is

heading_there : (version : Version) (text : List ℕ) → HeadingThere version text
heading_there version text = elim (heading_of_kind text true version) [
  | inl (horizon, is) ↦ inl (true, horizon, is)
  | inr with_conditions ↦ elim (heading_of_kind text false version) [
    | inl (horizon, is) ↦ inl (false, horizon, is)
    | inr without ↦ inr (neither version text with_conditions without)
  ]
]

-- ---- sections

-- Texts up to the next heading, and sections from there.
record Cut (version : Version) (texts : List (List ℕ)) : Type 0 where
  pub inside : List (List ℕ)
  pub rest : List (List ℕ)
  pub parts : texts ≡ inside ++ rest
  pub none : AllByRecursion (IsNoHeading version) inside
  pub sections : (line : ℕ) → (all : List SectionText) × AreSections version line rest all

module _ (version : Version) (text : List ℕ) (texts : List (List ℕ)) (cut : Cut version texts) where
  headed : (conditions : Bool) (horizon : ℕ) → IsSpelled version text (lines.Section conditions horizon) → (line : ℕ) →
      (all : List SectionText) × AreSections version line (text ∷ texts) all
  headed conditions horizon is line =
      let (all, are) = cut.sections (line + 1 + length cut.inside) in (
        record { version = version; conditions = conditions; horizon = horizon; line = line; texts = cut.inside } ∷ all,
        (text, cut.rest, ap (λ (ts : List (List ℕ)). text ∷ ts) cut.parts, refl, is, cut.none, are, refl),
      )

  cut_more : HeadingThere version text → Cut version (text ∷ texts)
  cut_more (inl (conditions, horizon, is)) = record { inside = []; rest = text ∷ texts; parts = refl; none = tt; sections = headed conditions horizon is }
  cut_more (inr none) = record {
    inside = text ∷ cut.inside;
    rest = cut.rest;
    parts = ap (λ (ts : List (List ℕ)). text ∷ ts) cut.parts;
    none = (none, cut.none);
    sections = cut.sections;
  }

cut_there : (version : Version) (texts : List (List ℕ)) → Cut version texts
cut_there version [] = record { inside = []; rest = []; parts = refl; none = tt; sections = λ line. ([], refl) }
cut_there version (text ∷ texts) = cut_more version text texts (cut_there version texts) (heading_there version text)

pub sections_there : (version : Version) (text : List ℕ) (texts : List (List ℕ)) (conditions : Bool) (horizon : ℕ) →
    IsSpelled version text (lines.Section conditions horizon) → (line : ℕ) → (all : List SectionText) × AreSections version line (text ∷ texts) all
sections_there version text texts conditions horizon is line = headed version text texts (cut_there version texts) conditions horizon is line
