-- The sizes of positions as loops make them.
use Rattle.std.proofs.Common.{◌≡◌, ◌∙◌, ℕ, suc, ◌+◌, ◌-◌, ◌%◌, ◌<◌, ◌≤◌, List, [], ◌∷◌, ◌++◌, length, drop, slice_get, Some, sym, ap, arith, option_map, append_assoc, append-nil, length-append}
use Rattle.std.proofs.lemmas.List.{drop_all}
use Rattle.std.proofs.lemmas.Option.{slice_get-map}
use Rattle.std.proofs.Math.Nat.{mod-eq_of_lt}
use Rattle.cc_defs.specs.declared.signature.Const.{Const}
use Rattle.cc_defs.specs.Description.{domain_sizes}
use Rattle.cc_defs.specs.Signatures.{Signature, ground_constants}
use Rattle.cc_form.specs.Places.{position_sizes}
use Rattle.cc_rivals.proofs.Counts.{front_behind, length_mapped}

pub sizes_step : (constants : List Const) (number size : ℕ) (front new : List ℕ) → number < length constants →
    option_map (λ (c : Const). length c.domain) (slice_get constants (number % length constants)) ≡ Some size →
    new ≡ front ++ size ∷ [] → front ++ drop number (domain_sizes constants) ≡ domain_sizes constants → new ++ drop (number + 1) (domain_sizes constants) ≡ domain_sizes constants
sizes_step constants number size front new less sized made so_far =
    let sizes = domain_sizes constants in
    let here : slice_get sizes number ≡ Some size =
    slice_get-map (λ (c : Const). length c.domain) constants number
    ∙ ap (λ (n : ℕ). option_map (λ (c : Const). length c.domain) (slice_get constants n)) (sym (mod-eq_of_lt less)) ∙ sized in
    ap (λ (w : List ℕ). w ++ drop (number + 1) sizes) made ∙ append_assoc front (size ∷ []) (drop (number + 1) sizes)
    ∙ ap (λ (w : List ℕ). front ++ w) (sym (front_behind sizes number size (sym here))) ∙ so_far

pub step_more : (signature : Signature) (horizon step : ℕ) (each front new whole : List ℕ) → step < horizon → each ≡ domain_sizes (ground_constants signature) → new ≡ front ++ each →
    front ++ position_sizes signature (horizon - step) ≡ whole → new ++ position_sizes signature (horizon - (step + 1)) ≡ whole
step_more signature horizon step each front new whole less same made so_far =
    let rest = position_sizes signature (horizon - (step + 1)) in
    ap (λ (l : List ℕ). l ++ rest) made ∙ append_assoc front each rest ∙ ap (λ (l : List ℕ). front ++ (l ++ rest)) same
    ∙ ap (λ (n : ℕ). front ++ position_sizes signature n) (let e : suc (horizon - (step + 1)) ≡ horizon - step = omega arith in e) ∙ so_far

pub step_last : (signature : Signature) (horizon step : ℕ) (front whole : List ℕ) → horizon ≤ step → front ++ position_sizes signature (horizon - step) ≡ whole → front ++ domain_sizes signature.fluents ≡ whole
step_last signature horizon step front whole past so_far = ap (λ (n : ℕ). front ++ position_sizes signature n) (let e : 0 ≡ horizon - step = omega arith in e) ∙ so_far

module _ (fluents actions : List Const) (number f a : ℕ) (is : f ≡ length fluents) (other : a ≡ length actions) where
  pub some_constants : number < f + a → 0 < length (fluents ++ actions)
  some_constants less = let long = length-append fluents actions in omega arith

  pub sizes_done : (front whole : List ℕ) → f + a ≤ number → front ++ drop number (domain_sizes (fluents ++ actions)) ≡ whole → front ≡ whole
  sizes_done front whole past so_far =
      sym (append-nil front)
      ∙ ap (λ (l : List ℕ). front ++ l) (sym (drop_all number (domain_sizes (fluents ++ actions)) (let long = length-append fluents actions in let same = length_mapped (λ (c : Const). length c.domain) (fluents ++ actions) in omega arith))) ∙ so_far
