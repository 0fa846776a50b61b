-- The positions of a horizon: the fluents of each step, and the actions of each but the last.
use Rattle.std.proofs.Common.{◌≡◌, ◌∙◌, ℕ, zero, suc, ◌+◌, ◌*◌, ◌<◌, ◌≤◌, ◌⊎◌, inl, inr, List, ◌++◌, length, slice_get, Some, refl, sym, ap, arith, length-append, suc-mul}
use Rattle.std.proofs.lemmas.List.{length-map}
use Rattle.cc_defs.specs.declared.signature.Const.{Const}
use Rattle.cc_defs.specs.Description.{Description, domain_sizes, sizes_at, stride}
use Rattle.cc_theory.proofs.Lists.{got_either, got_left, got_map, got_right, map_got}

abbrev pub size_of : Const → ℕ
size_of constant = length constant.domain

pub further : (step n number : ℕ) → suc step * n + number ≡ n + (step * n + number)
further step n number = let e = suc-mul step n in omega arith

module _ (d : Description) where
  abbrev pub at_first : List ℕ
  at_first = domain_sizes d.universe.fluents ++ domain_sizes d.universe.actions

  pub first_count : length at_first ≡ stride d
  first_count =
      let sum = length-append (domain_sizes d.universe.fluents) (domain_sizes d.universe.actions) in
      let f = length-map d.universe.fluents size_of in
      let a = length-map d.universe.actions size_of in
      omega arith

  -- one step further
  got_further : (horizon step number size : ℕ) → slice_get (sizes_at d horizon) (step * stride d + number) ≡ Some size →
      slice_get (sizes_at d (suc horizon)) (suc step * stride d + number) ≡ Some size
  got_further horizon step number size e =
      ap (slice_get (sizes_at d (suc horizon))) (further step (stride d) number ∙ ap (λ (n : ℕ). n + (step * stride d + number)) (sym first_count))
      ∙ got_right at_first (sizes_at d horizon) (step * stride d + number)
      ∙ e

  pub fluent_place : (horizon step number : ℕ) (constant : Const) → step ≤ horizon → slice_get d.universe.fluents number ≡ Some constant →
      slice_get (sizes_at d horizon) (step * stride d + number) ≡ Some (size_of constant)
  fluent_place zero zero number constant less e =
      let start : 0 * stride d + number ≡ number = omega arith in
      ap (slice_get (domain_sizes d.universe.fluents)) start ∙ got_map size_of d.universe.fluents number constant e
  fluent_place (suc horizon) zero number constant less e =
      let start : 0 * stride d + number ≡ number = omega arith in
      ap (slice_get (sizes_at d (suc horizon))) start
      ∙ got_left at_first (sizes_at d horizon) number (size_of constant)
      (got_left (domain_sizes d.universe.fluents) (domain_sizes d.universe.actions) number (size_of constant) (got_map size_of d.universe.fluents number constant e))
  fluent_place zero (suc step) number constant less e = absurd (omega arith)
  fluent_place (suc horizon) (suc step) number constant less e = got_further horizon step number (size_of constant) (fluent_place horizon step number constant (omega arith) e)

  pub action_place : (horizon step number : ℕ) (constant : Const) → step < horizon → slice_get d.universe.actions number ≡ Some constant →
      slice_get (sizes_at d horizon) (step * stride d + (length d.universe.fluents + number)) ≡ Some (size_of constant)
  action_place zero step number constant less e = absurd (omega arith)
  action_place (suc horizon) zero number constant less e =
      let start : 0 * stride d + (length d.universe.fluents + number) ≡ length (domain_sizes d.universe.fluents) + number =
      let f = length-map d.universe.fluents size_of in omega arith in
      ap (slice_get (sizes_at d (suc horizon))) start
      ∙ got_left at_first (sizes_at d horizon) (length (domain_sizes d.universe.fluents) + number) (size_of constant)
      (got_right (domain_sizes d.universe.fluents) (domain_sizes d.universe.actions) number ∙ got_map size_of d.universe.actions number constant e)
  action_place (suc horizon) (suc step) number constant less e =
      got_further horizon step (length d.universe.fluents + number) (size_of constant) (action_place horizon step number constant (omega arith) e)

  -- ---- what stands at a position

  pub record FluentAt (horizon p size : ℕ) : Type 0 where
    pub step : ℕ
    pub number : ℕ
    pub constant : Const
    pub within : step ≤ horizon
    pub there : slice_get d.universe.fluents number ≡ Some constant
    pub sized : size_of constant ≡ size
    pub at : step * stride d + number ≡ p

  pub record ActionAt (horizon p size : ℕ) : Type 0 where
    pub step : ℕ
    pub number : ℕ
    pub constant : Const
    pub within : step < horizon
    pub there : slice_get d.universe.actions number ≡ Some constant
    pub sized : size_of constant ≡ size
    pub at : step * stride d + (length d.universe.fluents + number) ≡ p

  later : (horizon q size p : ℕ) → p ≡ length at_first + q → FluentAt horizon q size ⊎ ActionAt horizon q size → FluentAt (suc horizon) p size ⊎ ActionAt (suc horizon) p size
  later horizon q size p e place =
      let c = first_count in
      elim place [
        | inl f ↦ inl (record {
          step = suc f.step;
          number = f.number;
          constant = f.constant;
          there = f.there;
          sized = f.sized;
          within = let w = f.within in omega arith;
          at = let at = f.at in let more = further f.step (stride d) f.number in omega arith;
        })
        | inr a ↦ inr (record {
          step = suc a.step;
          number = a.number;
          constant = a.constant;
          there = a.there;
          sized = a.sized;
          within = let w = a.within in omega arith;
          at = let at = a.at in let more = further a.step (stride d) (length d.universe.fluents + a.number) in omega arith;
        })
      ]

  fluent_first : (horizon p size : ℕ) → slice_get (domain_sizes d.universe.fluents) p ≡ Some size → FluentAt horizon p size
  fluent_first horizon p size e =
      let found = map_got size_of d.universe.fluents p size e in
      record { step = 0; number = p; constant = found.0; within = omega arith; there = found.1; sized = found.2; at = omega arith }

  pub place_of : (horizon p size : ℕ) → slice_get (sizes_at d horizon) p ≡ Some size → FluentAt horizon p size ⊎ ActionAt horizon p size
  place_of zero p size e = inl (fluent_first 0 p size e)
  place_of (suc horizon) p size e = elim (got_either at_first (sizes_at d horizon) p size e) [
    | inl here ↦ elim (got_either (domain_sizes d.universe.fluents) (domain_sizes d.universe.actions) p size here) [
      | inl fluent ↦ inl (fluent_first (suc horizon) p size fluent)
      | inr action ↦
          let found = map_got size_of d.universe.actions action.0 size action.2 in
          let f = length-map d.universe.fluents size_of in
          let at = action.1 in
          inr (record { step = 0; number = action.0; constant = found.0; within = omega arith; there = found.1; sized = found.2; at = omega arith })
    ]
    | inr more ↦ later horizon more.0 size p more.1 (place_of horizon more.0 size more.2)
  ]

-- a position stands at one step
pub one_place : (n s k r j : ℕ) → k < n → j < n → s * n + k ≡ r * n + j → (s ≡ r) × (k ≡ j)
one_place n zero k zero j p q e = (refl, omega arith)
one_place n zero k (suc r) j p q e = let more = further r n j in absurd (omega arith)
one_place n (suc s) k zero j p q e = let more = further s n k in absurd (omega arith)
one_place n (suc s) k (suc r) j p q e =
    let one = further s n k in
    let other = further r n j in
    let same = one_place n s k r j p q (omega arith) in
    (ap suc same.0, same.1)
