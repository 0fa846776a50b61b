-- The clause that denies a row is false by values that have the row.
use Rattle.std.proofs.Common.{◌≡◌, ◌∙◌, ℕ, ◌+◌, ◌<◌, zero, suc, Bool, true, false, List, [], ◌∷◌, Option, Some, None, subst, ap, arith}
use Rattle.std.specs.Prelude.{unwrap_or}
use Rattle.cc_defs.specs.Assignments.{Values, IsFailed, IsFalseIn}
use Rattle.cc_defs.specs.Clauses.{Literal}
use Rattle.cc_defs.specs.Rows.{IsRow}
use Rattle.cc_defs.specs.Sections.{denial_from}
use Rattle.cc_clauses.specs.RowsOf.{HasRowFrom}
use Rattle.cc_clauses.proofs.Denials.{eqb_itself}
use Rattle.cc_cdcl.specs.Sets.{assignment_of}

pub given_true : (value : Option Bool) → unwrap_or value false ≡ true → value ≡ Some true
given_true None e = cc
given_true (Some sign) e = ap (λ (s : Bool). Some s) e

pub denial_failed : (first : ℕ) (sizes row : List ℕ) (values : Values) → IsRow sizes row → HasRowFrom first sizes (assignment_of values) row →
    IsFailed values (denial_from first sizes row)
denial_failed first [] row values is has literal (k, low, same) = absurd (omega arith)
denial_failed first (size ∷ sizes) [] values is has literal here = absurd is
denial_failed first (size ∷ sizes) (index ∷ row) values is has literal (zero, low, same) =
    subst (λ (l : Literal). IsFalseIn values l) same (given_true (values (first + index)) (has.0 index is.0 ∙ eqb_itself index))
denial_failed first (size ∷ sizes) (index ∷ row) values is has literal (suc k, low, same) =
    denial_failed (first + size) sizes row values is.1 has.1 literal (k, omega arith, same)
