-- By the fluents and actions that the signature and the description have in common.
use Rattle.std.proofs.Common.{◌≡◌, ℕ, zero, suc, ◌+◌, ◌*◌, ◌<◌, ◌%◌, List, ◌++◌, length, ap, refl, subst, sym, ◌∙◌, slice_get, option_map}
use Rattle.cc_defs.specs.declared.signature.Const.{Const}
use Rattle.cc_defs.specs.Description.{Description, sizes_at}
use Rattle.cc_defs.proofs.Positions.{sizes_of, size, count_is, sizes_are}
use Rattle.cc_defs.proofs.theorems.positions_have_sizes.Goals as goal

same_sizes : (d : Description) (horizon : ℕ) → sizes_at d horizon ≡ sizes_of d.universe.fluents d.universe.actions horizon
same_sizes d zero = refl
same_sizes d (suc horizon) = ap (λ (l : List ℕ). sizes_of d.universe.fluents d.universe.actions 0 ++ Rattle.cc_defs.specs.Description.domain_sizes d.universe.actions ++ l) (same_sizes d horizon)

pub returns : goal.returns
returns c d signature is horizon =
    subst (λ (fluents : List Const). (length (sizes_at d horizon) ≡ length fluents * (horizon + 1) + length signature.actions * horizon)
    × ((p : ℕ) → p < length fluents * (horizon + 1) + length signature.actions * horizon →
    slice_get (sizes_at d horizon) p ≡ option_map size (slice_get (fluents ++ signature.actions) (p % length (fluents ++ signature.actions)))))
    (sym is.fluents)
    (subst (λ (actions : List Const). (length (sizes_at d horizon) ≡ length d.universe.fluents * (horizon + 1) + length actions * horizon)
    × ((p : ℕ) → p < length d.universe.fluents * (horizon + 1) + length actions * horizon →
    slice_get (sizes_at d horizon) p ≡ option_map size (slice_get (d.universe.fluents ++ actions) (p % length (d.universe.fluents ++ actions)))))
    (sym is.actions) (
      ap length (same_sizes d horizon) ∙ count_is d.universe.fluents d.universe.actions horizon,
      λ p less. ap (λ (l : List ℕ). slice_get l p) (same_sizes d horizon) ∙ sizes_are d.universe.fluents d.universe.actions horizon p less,
    ))
