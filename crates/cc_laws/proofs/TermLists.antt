-- Terms as a list, and as a row of terms.
use Rattle.std.proofs.Common.{◌≡◌, List, [], ◌∷◌, map, refl, ap}
use Rattle.cc_defs.specs.declared.formula.Term as kept
use Rattle.cc_defs.specs.Resolved.{Terms, NoTerms, MoreTerms, plain_term, terms_of}
use Rattle.cc_laws.specs.Heads.{listed}
use Rattle.cc_laws.specs.Views.{row_terms}

pub rows_are : (terms : List kept.Term) → row_terms terms ≡ terms_of (map plain_term terms)
rows_are [] = refl
rows_are (term ∷ terms) = ap (MoreTerms (plain_term term)) (rows_are terms)

pub terms_listed : (args : Terms) → terms_of (listed args) ≡ args
terms_listed NoTerms = refl
terms_listed (MoreTerms first others) = ap (MoreTerms first) (terms_listed others)
