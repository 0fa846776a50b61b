-- Rows of terms as lists.
use Rattle.std.proofs.Common.{◌≡◌, List, [], ◌∷◌, map, refl, ap}
use Rattle.cc_defs.specs.declared.formula.Term as kept
use Rattle.cc_defs.specs.Resolved.{plain_term}
use Rattle.cc_laws.specs.Heads.{listed}
use Rattle.cc_laws.specs.Views.{row_terms}

pub listed_rows : (terms : List kept.Term) → listed (row_terms terms) ≡ map plain_term terms
listed_rows [] = refl
listed_rows (term ∷ terms) = ap (λ rest. plain_term term ∷ rest) (listed_rows terms)
