-- The constants of a signature between two numbers, and the parts of a row that belong to them.
use Rattle.std.proofs.Common.{◌≡◌, ◌∙◌, ℕ, zero, suc, ◌+◌, ◌-◌, ◌*◌, ◌<◌, ◌≤◌, List, [], ◌∷◌, ◌++◌, length, take, drop, get_or, slice_get, slice_index, Some, inl, inr, refl, sym, ap, ap₂, subst, codes, decimal, arith, append_assoc, append-nil, add-one, drop-cons, length-drop}
use Rattle.std.proofs.Math.Seq.{take-length}
use Rattle.std.proofs.lemmas.Bool.{cases_lt}
use Rattle.std.proofs.lemmas.List.{drop_all, drop_at, length-take, take_at}
use Rattle.std.proofs.lemmas.Option.{get_or_from_slice_get}
use Rattle.std.specs.List.{AllByRecursion}
use Rattle.cc_defs.specs.declared.signature.Const.{Const}
use Rattle.cc_defs.specs.Description.{Description, domain_sizes, sizes_at, stride}
use Rattle.cc_defs.specs.Rows.{IsRow}
use Rattle.cc_defs.specs.Signatures.{Signature, ground_constants}
use Rattle.cc_defs.specs.Texts.{actions_text, constants_shown, history_text, shown, state_text}
use Rattle.cc_sorts.specs.Tables.{TableView}
use Rattle.cc_print.specs.Histories.{AreGiven, AreNamed, IsNamed, constants_between, described, named_by}

-- ---- constants between two numbers

pub none_between : (s : Signature) (from to : ℕ) → to ≤ from → constants_between s from to ≡ []
none_between s from to past =
    let none : to - from ≡ 0 = omega arith in
    ap (λ n. take n (drop from (ground_constants s))) none

pub next_between : (s : Signature) (from to : ℕ) (c : Const) → from < to → to ≤ length (ground_constants s) → Some c ≡ slice_get (ground_constants s) from →
    constants_between s from to ≡ c ∷ constants_between s (from + 1) to
next_between s from to c below within found =
    let left : to - from ≡ suc (to - (from + 1)) = omega arith in
    let more : suc from ≡ from + 1 = omega arith in
    ap (λ n. take n (drop from (ground_constants s))) left
    ∙ ap (take (suc (to - (from + 1)))) (drop-cons (ground_constants s) from c (omega arith) ∙ ap (λ x. x ∷ drop (suc from) (ground_constants s)) (get_or_from_slice_get (ground_constants s) from c c (sym found)))
    ∙ ap (λ n. c ∷ take (to - (from + 1)) (drop n (ground_constants s))) more

pub fluents_between : (s : Signature) → constants_between s 0 (length s.fluents) ≡ s.fluents
fluents_between s = take_at s.fluents s.actions (length s.fluents - 0) (omega arith)

pub actions_between : (s : Signature) → constants_between s (length s.fluents) (length s.fluents + length s.actions) ≡ s.actions
actions_between s =
    let many : length s.fluents + length s.actions - length s.fluents ≡ length s.actions = omega arith in
    ap (take (length s.fluents + length s.actions - length s.fluents)) (drop_at s.fluents s.actions (length s.fluents) refl)
    ∙ ap (λ n. take n s.actions) many ∙ take-length s.actions

-- ---- parts of a row

given_parts : (table : TableView) (constants : List Const) (rest row : List ℕ) (place : ℕ) → AllByRecursion (IsNamed table) constants →
    IsRow (domain_sizes constants ++ rest) (drop place row) → AreGiven table row constants place × IsRow rest (drop (place + length constants) row)
given_parts table [] rest row place named is =
    let same : place ≡ place + 0 = omega arith in
    (tt, subst (λ n. IsRow rest (drop n row)) same is)
given_parts table (c ∷ constants) rest row place named is = elim (cases_lt place (length row)) [
  | inl within ↦
      let parts : IsRow (length c.domain ∷ (domain_sizes constants ++ rest)) (get_or row place 0 ∷ drop (suc place) row) =
      subst (IsRow (length c.domain ∷ (domain_sizes constants ++ rest))) (drop-cons row place 0 within) is in
      let next : suc place ≡ place + 1 = omega arith in
      let end : place + 1 + length constants ≡ place + suc (length constants) = omega arith in
      let others = given_parts table constants rest row (place + 1) named.1 (subst (λ n. IsRow (domain_sizes constants ++ rest) (drop n row)) next parts.1) in
      ((named.0, within, parts.0, others.0), subst (λ n. IsRow rest (drop n row)) end others.1)
  | inr past ↦ absurd (subst (IsRow (length c.domain ∷ (domain_sizes constants ++ rest))) (drop_all place row past) is)
]

-- the fluents of the state at which the rest of a row begins
pub state_given : (table : TableView) (s : Signature) → AreNamed table s → (horizon place : ℕ) (row : List ℕ) →
    IsRow (sizes_at (described table s) horizon) (drop place row) → AreGiven table row s.fluents place
state_given table s named zero place row is =
    (given_parts table s.fluents [] row place named.fluents (subst (λ sizes. IsRow sizes (drop place row)) (sym (append-nil (domain_sizes s.fluents))) is)).0
state_given table s named (suc horizon) place row is =
    (given_parts table s.fluents (domain_sizes s.actions ++ sizes_at (described table s) horizon) row place named.fluents
    (subst (λ sizes. IsRow sizes (drop place row)) (append_assoc (domain_sizes s.fluents) (domain_sizes s.actions) (sizes_at (described table s) horizon)) is)).0

step_parts : (table : TableView) (s : Signature) → AreNamed table s → (horizon place : ℕ) (row : List ℕ) →
    IsRow (sizes_at (described table s) (suc horizon)) (drop place row) →
    AreGiven table row s.actions (place + length s.fluents) × IsRow (sizes_at (described table s) horizon) (drop (place + stride (described table s)) row)
step_parts table s named horizon place row is =
    let fluents = given_parts table s.fluents (domain_sizes s.actions ++ sizes_at (described table s) horizon) row place named.fluents
    (subst (λ sizes. IsRow sizes (drop place row)) (append_assoc (domain_sizes s.fluents) (domain_sizes s.actions) (sizes_at (described table s) horizon)) is) in
    let actions = given_parts table s.actions (sizes_at (described table s) horizon) row (place + length s.fluents) named.actions fluents.1 in
    let end : place + length s.fluents + length s.actions ≡ place + (length s.fluents + length s.actions) = omega arith in
    (actions.0, subst (λ n. IsRow (sizes_at (described table s) horizon) (drop n row)) end actions.1)

-- the actions of a step before the last, and the rest of the row behind it
pub step_given : (table : TableView) (s : Signature) → AreNamed table s → (horizon step place : ℕ) (row : List ℕ) → step < horizon →
    IsRow (sizes_at (described table s) (horizon - step)) (drop place row) →
    AreGiven table row s.actions (place + length s.fluents) × IsRow (sizes_at (described table s) (horizon - (step + 1))) (drop (place + stride (described table s)) row)
step_given table s named horizon step place row below is =
    let left : horizon - step ≡ suc (horizon - (step + 1)) = omega arith in
    step_parts table s named (horizon - (step + 1)) place row (subst (λ n. IsRow (sizes_at (described table s) n) (drop place row)) left is)

-- ---- the next constant

pub first_given : (table : TableView) (s : Signature) (row : List ℕ) (from to place : ℕ) (c : Const) → from < to → to ≤ length (ground_constants s) →
    Some c ≡ slice_get (ground_constants s) from → AreGiven table row (constants_between s from to) (place + from) → AreGiven table row (c ∷ constants_between s (from + 1) to) (place + from)
first_given table s row from to place c below within found given =
    subst (λ constants. AreGiven table row constants (place + from)) (next_between s from to c below within found) given

given_within : (table : TableView) (row : List ℕ) (constants : List Const) (place : ℕ) → 0 < length constants → AreGiven table row constants place → place < length row
given_within table row [] place some given = absurd (omega (arith, some))
given_within table row (c ∷ constants) place some given = given.1

pub place_within : (table : TableView) (s : Signature) (row : List ℕ) (from to place : ℕ) → from < to → to ≤ length (ground_constants s) →
    AreGiven table row (constants_between s from to) (place + from) → place + from < length row
place_within table s row from to place below within given =
    given_within table row (constants_between s from to) (place + from) (simp (length-take, length-drop) (omega arith)) given

pub others_given : (table : TableView) (s : Signature) (row : List ℕ) (from to place : ℕ) (c : Const) →
    AreGiven table row (c ∷ constants_between s (from + 1) to) (place + from) → AreGiven table row (constants_between s (from + 1) to) (place + (from + 1))
others_given table s row from to place c given =
    let next : place + from + 1 ≡ place + (from + 1) = omega arith in
    subst (AreGiven table row (constants_between s (from + 1) to)) next given.3

pub one_shown : (d : Description) (s : Signature) (from to : ℕ) (c : Const) → from < to → to ≤ length (ground_constants s) → Some c ≡ slice_get (ground_constants s) from →
    (values : ℕ → ℕ) (old new whole : List ℕ) → new ≡ old ++ shown d c (slice_index c.domain (values from)) →
    old ++ constants_shown d (constants_between s from to) from values ≡ whole → new ++ constants_shown d (constants_between s (from + 1) to) (from + 1) values ≡ whole
one_shown d s from to c below within found values old new whole one all =
    ap (λ front. front ++ constants_shown d (constants_between s (from + 1) to) (from + 1) values) one
    ∙ append_assoc old (shown d c (slice_index c.domain (values from))) (constants_shown d (constants_between s (from + 1) to) (from + 1) values)
    ∙ ap (λ constants. old ++ constants_shown d constants from values) (sym (next_between s from to c below within found)) ∙ all

-- ---- the next step

pub next_place : (step width place : ℕ) → place ≡ step * width → place + width ≡ (step + 1) * width
next_place step width place at = omega arith

pub next_written : (d : Description) (row : List ℕ) (step : ℕ) (old first second third : List ℕ) → first ≡ old ++ history_text d step row →
    second ≡ first ++ actions_text d row step → third ≡ second ++ state_text d row (step + 1) → third ≡ old ++ history_text d (step + 1) row
next_written d row step old first second third a b e =
    subst (λ n. third ≡ second ++ state_text d row n → third ≡ old ++ history_text d n row) (sym (add-one step)) (λ last.
    last ∙ ap (λ front. front ++ state_text d row (suc step)) (b ∙ ap (λ front. front ++ actions_text d row step) a ∙ append_assoc old (history_text d step row) (actions_text d row step))
    ∙ append_assoc old (history_text d step row ++ actions_text d row step) (state_text d row (suc step))) e

-- ---- a line of constants

joined : (old name line end : List ℕ) → old ++ name ++ line ++ end ≡ old ++ (name ++ line ++ end)
joined old name line end = ap (λ front. front ++ end) (append_assoc old name line) ∙ append_assoc old (name ++ line) end

module _ (table : TableView) (s : Signature) (row : List ℕ) (step place : ℕ) (at : place ≡ step * stride (described table s)) where
  pub state_line : (fluents : ℕ) (old first second third : List ℕ) → fluents ≡ length s.fluents → first ≡ old ++ decimal step → second ≡ first ++ codes ":"
      → third ≡ second ++ constants_shown (named_by table) (constants_between s 0 fluents) 0 (λ number. slice_index row (place + number))
      → third ++ 10 ∷ [] ≡ old ++ state_text (described table s) row step
  state_line fluents old first second third few one two three =
      ap (λ text. text ++ 10 ∷ []) (three
      ∙ ap₂ (λ (front : List ℕ) (constants : List Const). front ++ constants_shown (named_by table) constants 0 (λ number. slice_index row (place + number)))
      (two ∙ ap (λ text. text ++ codes ":") one) (ap (constants_between s 0) few ∙ fluents_between s)
      ∙ ap (λ place. old ++ decimal step ++ codes ":" ++ constants_shown (named_by table) s.fluents 0 (λ number. slice_index row (place + number))) at)
      ∙ ap (λ front. front ++ constants_shown (named_by table) s.fluents 0 (λ number. slice_index row (step * stride (described table s) + number)) ++ 10 ∷ []) (append_assoc old (decimal step) (codes ":"))
      ∙ joined old (decimal step ++ codes ":") (constants_shown (named_by table) s.fluents 0 (λ number. slice_index row (step * stride (described table s) + number))) (10 ∷ [])

  pub actions_line : (fluents actions : ℕ) (old first third : List ℕ) → fluents ≡ length s.fluents → actions ≡ length s.actions → first ≡ old ++ codes "ACTIONS:"
      → third ≡ first ++ constants_shown (named_by table) (constants_between s fluents (fluents + actions)) fluents (λ number. slice_index row (place + number))
      → third ++ 10 ∷ [] ≡ old ++ actions_text (described table s) row step
  actions_line fluents actions old first third few some one two =
      ap (λ text. text ++ 10 ∷ []) (two
      ∙ ap₂ (λ (front : List ℕ) (n : ℕ). front ++ constants_shown (named_by table) (constants_between s n (n + actions)) n (λ number. slice_index row (place + number))) one few
      ∙ ap₂ (λ (n place : ℕ). old ++ codes "ACTIONS:" ++ constants_shown (named_by table) (constants_between s (length s.fluents) (length s.fluents + n)) (length s.fluents) (λ number. slice_index row (place + number))) some at
      ∙ ap (λ constants. old ++ codes "ACTIONS:" ++ constants_shown (named_by table) constants (length s.fluents) (λ number. slice_index row (step * stride (described table s) + number))) (actions_between s))
      ∙ joined old (codes "ACTIONS:") (constants_shown (named_by table) s.actions (length s.fluents) (λ number. slice_index row (step * stride (described table s) + number))) (10 ∷ [])
