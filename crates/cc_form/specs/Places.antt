-- Where the variables of positions begin.
use Rattle.std.specs.Prelude.{◌≡◌, ℕ, ◌+◌, ◌≤◌, zero, suc, List, [], ◌∷◌, ◌++◌}
use Rattle.cc_defs.specs.ClauseForms.{positive, true_variable}
use Rattle.cc_defs.specs.Description.{domain_sizes}
use Rattle.cc_defs.specs.Limits.{most_variables}
use Rattle.cc_defs.specs.Signatures.{Signature, ground_constants}
use Rattle.cc_form.specs.declared.places.Places.TheInside.{Inside}

-- the domain sizes of the positions of a horizon
abbrev pub position_sizes : Signature → ℕ → List ℕ
position_sizes signature zero = domain_sizes signature.fluents
position_sizes signature (suc horizon) = domain_sizes (ground_constants signature) ++ position_sizes signature horizon

-- the first variable of each position
abbrev pub firsts : ℕ → List ℕ → List ℕ
firsts first [] = []
firsts first (size ∷ sizes) = first ∷ firsts (first + size) sizes

pub record ArePlaces (places : Inside) : Type 0 where
  pub firsts_are : places.firsts.items ≡ firsts 1 places.sizes.items
  pub truth_is : places.truth ≡ positive (true_variable places.sizes.items)
  pub within : true_variable places.sizes.items ≤ most_variables
