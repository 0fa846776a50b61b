-- The parts of a row: those of a local row are local, and a row is local where its windows are, which are its parts of one step.
use Rattle.std.proofs.Common.{◌≡◌, ◌∙◌, ℕ, zero, suc, ◌+◌, ◌*◌, ◌<◌, ◌≤◌, List, [], ◌++◌, length, take, drop, refl, sym, ap, subst, arith, length-append, append-nil}
use Rattle.std.specs.Prelude.{slice_index}
use Rattle.std.proofs.Math.Nat.{add-mul, mul-le-mul_right}
use Rattle.std.proofs.lemmas.List.{drop-drop, get_or-drop, get_or-take, length-map}
use Rattle.cc_defs.specs.Description.{Description, domain_sizes, sizes_at, stride}
use Rattle.cc_defs.specs.Paths.{window}
use Rattle.cc_defs.specs.Rows.{IsRow}
use Rattle.cc_theory.specs.Laws.{part_of}
use Rattle.cc_theory.proofs.Agreeing.{Agree, state_same, step_same}
use Rattle.cc_theory.proofs.Cases.{Case, IsFit, cases}
use Rattle.cc_theory.proofs.Lists.{In, append_three, row_drop, row_take}
use Rattle.cc_theory.proofs.Local.{IsLocal, IsStateOf, Valuation, valued}
use Rattle.cc_theory.proofs.Places.{at_first, first_count, further, size_of}

module _ (d : Description) where
  abbrev width : ℕ → ℕ
  width count = count * stride d + length d.universe.fluents

  pub window_is : (row : List ℕ) (step : ℕ) → part_of d row step 1 ≡ window d row step
  window_is row step =
      let same : width 1 ≡ length d.universe.fluents + stride d = omega arith in
      ap (λ (n : ℕ). take n (drop (step * stride d) row)) same

  -- ---- what a part reads

  module _ (row : List ℕ) (start count : ℕ) where
    values : (step at : ℕ) → start + step ≡ at → (number : ℕ) → step * stride d + number < width count →
        valued d (part_of d row start count) step number ≡ valued d row at number
    values step at is number less =
        let sum = add-mul start step (stride d) in
        let place : start * stride d + (step * stride d + number) ≡ (start + step) * stride d + number = omega arith in
        get_or-take (width count) (drop (start * stride d) row) (step * stride d + number) 0 less
        ∙ get_or-drop (start * stride d) row (step * stride d + number) 0
        ∙ ap (slice_index row) place
        ∙ ap (λ (n : ℕ). slice_index row (n * stride d + number)) is

    fluent_values : (step at : ℕ) → start + step ≡ at → step ≤ count → Agree d (length d.universe.fluents) (valued d (part_of d row start count) step) (valued d row at)
    fluent_values step at is within number less = values step at is number (let more = mul-le-mul_right (stride d) within in omega arith)

    all_values : (step at : ℕ) → start + step ≡ at → step < count → Agree d (stride d) (valued d (part_of d row start count) step) (valued d row at)
    all_values step at is before number less =
        values step at is number (let more = mul-le-mul_right {m = suc step} {n = count} (stride d) before in let next = further step (stride d) number in omega arith)

  back : (count : ℕ) (v w : Valuation) → Agree d count v w → Agree d count w v
  back count v w agree number less = sym (agree number less)

  module _ (fit : (c : Case) → In (cases d) c → IsFit c.kind d.universe c) where
    pub part_local : (horizon : ℕ) (row : List ℕ) (start count : ℕ) → start + count ≤ horizon → IsLocal d horizon row → IsLocal d count (part_of d row start count)
    part_local horizon row start count within local = record {
      states = λ step most.
          state_same d fit (valued d row (start + step)) (valued d (part_of d row start count) step) (back (length d.universe.fluents) _ _ (fluent_values row start count step (start + step) refl most))
          (local.states (start + step) (omega arith));
      steps = λ step less.
          step_same d fit (valued d row (start + step)) (valued d row (start + step + 1)) (valued d (part_of d row start count) step) (valued d (part_of d row start count) (step + 1))
          (back (stride d) _ _ (all_values row start count step (start + step) refl less))
          (back (length d.universe.fluents) _ _ (fluent_values row start count (step + 1) (start + step + 1) (omega arith) (omega arith)))
          (local.steps (start + step) (omega arith));
    }

    pub windows_local : (row : List ℕ) (last : ℕ) → ((step : ℕ) → step < suc last → IsLocal d 1 (part_of d row step 1)) → IsLocal d (suc last) row
    windows_local row last each = record {
      states = states;
      steps = λ step less.
          step_same d fit (valued d (part_of d row step 1) 0) (valued d (part_of d row step 1) 1) (valued d row step) (valued d row (step + 1))
          (all_values row step 1 0 step (omega arith) (omega arith)) (fluent_values row step 1 1 (step + 1) refl (omega arith))
          ((each step less).steps 0 (omega arith));
    }
      where
        state : (step later at : ℕ) → step + later ≡ at → later ≤ 1 → step < suc last → IsStateOf d (valued d row at)
        state step later at is most less =
            state_same d fit (valued d (part_of d row step 1) later) (valued d row at) (fluent_values row step 1 later at is most) ((each step less).states later most)

        states : (step : ℕ) → step ≤ suc last → IsStateOf d (valued d row step)
        states zero within = state 0 0 0 refl (omega arith) (omega arith)
        states (suc step) within = state step 1 (suc step) (omega arith) (omega arith) (omega arith)

  -- ---- a part of a row is a row

  sizes_count : (count : ℕ) → length (sizes_at d count) ≡ width count
  sizes_count zero = let f = length-map d.universe.fluents size_of in omega arith
  sizes_count (suc count) =
      let sum = length-append (at_first d) (sizes_at d count) in
      let first = first_count d in
      let more = sizes_count count in
      let next = further count (stride d) (length d.universe.fluents) in
      omega arith

  -- the sizes of a horizon begin with those of a shorter one
  begins : (horizon count : ℕ) → count ≤ horizon → (rest : List ℕ) × (sizes_at d horizon ≡ sizes_at d count ++ rest)
  begins zero zero within = ([], sym (append-nil (domain_sizes d.universe.fluents)))
  begins zero (suc count) within = absurd (omega arith)
  begins (suc horizon) zero within = (
    domain_sizes d.universe.actions ++ sizes_at d horizon,
    sym (append_three (domain_sizes d.universe.fluents) (domain_sizes d.universe.actions) (sizes_at d horizon)),
  )
  begins (suc horizon) (suc count) within =
      let later = begins horizon count (omega arith) in
      (later.0, ap (λ (l : List ℕ). at_first d ++ l) later.1 ∙ append_three (at_first d) (sizes_at d count) later.0)

  pub part_row : (horizon : ℕ) (row : List ℕ) (start count : ℕ) → start + count ≤ horizon → IsRow (sizes_at d horizon) row → IsRow (sizes_at d count) (part_of d row start count)
  part_row horizon row zero count within is =
      let rest = begins horizon count (omega arith) in
      let start : 0 ≡ 0 * stride d = omega arith in
      let same : take (length (sizes_at d count)) row ≡ part_of d row 0 count =
      ap (λ (n : ℕ). take n row) (sizes_count count) ∙ ap (λ (n : ℕ). take (width count) (drop n row)) start in
      subst (IsRow (sizes_at d count)) same (row_take (sizes_at d count) rest.0 row (subst (λ (l : List ℕ). IsRow l row) rest.1 is))
  part_row zero row (suc start) count within is = absurd (omega arith)
  part_row (suc horizon) row (suc start) count within is =
      let more = part_row horizon (drop (length (at_first d)) row) start count (omega arith) (row_drop (at_first d) (sizes_at d horizon) row is) in
      let first = first_count d in
      let at : length (at_first d) + start * stride d ≡ suc start * stride d = let e = further start (stride d) 0 in omega arith in
      let same : part_of d (drop (length (at_first d)) row) start count ≡ part_of d row (suc start) count =
      ap (λ (l : List ℕ). take (width count) l) (drop-drop (start * stride d) (length (at_first d)) row ∙ ap (λ (n : ℕ). drop n row) at) in
      subst (IsRow (sizes_at d count)) same more
